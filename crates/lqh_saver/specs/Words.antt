-- The words of a node's rows and their saver: all that they ever send.
use Rattle.std.specs.Prelude.{Bool, true}
use Rattle.sig_core.specs.declared.signal.Body.{Body}
use Rattle.sig_core.specs.declared.signal.Body.TheVariants.{Checkpoint, Host}
use Rattle.sig_core.specs.declared.signal.Signal.{Signal}
use Rattle.sig_core.specs.declared.signal.checkpoint.CheckpointSignal.TheVariants.{LcpFragRep, LcpSwitchConf}
use Rattle.sig_core.specs.declared.signal.host.HostSignal.TheVariants.{Continue}
use Rattle.sig_core.specs.declared.signal.host.Work.TheVariants.{Walk}
use Rattle.sig_core.specs.declared.view.View.{View}
use Rattle.sig_core.specs.Step.{stay}
use Rattle.step_forms.specs.Does.{Speaks}
use Rattle.lqh_views.specs.Words.{is_replica_mark, is_replica_word}
use Rattle.lqh_saver.specs.Saver.{saver_installed, saver_row}
use Rattle.lqh_saver.specs.State.{SavingState}

-- what tells the master of a local checkpoint, what goes on with a walk, and what the rows send
abbrev pub is_saver_word : Body → Bool
is_saver_word (Checkpoint (LcpFragRep epoch)) = true
is_saver_word (Checkpoint LcpSwitchConf) = true
is_saver_word (Host (Continue Walk at)) = true
is_saver_word body = is_replica_word body

-- whatever they take, and whatever view is installed; a saver makes no marks
pub record SaverKeepsToItsWords : Type 0 where
  pub takes : (s : SavingState) (x : Signal) → Speaks is_saver_word is_replica_mark (saver_row s x)
  pub installs : (s : SavingState) (view : View) → Speaks is_saver_word is_replica_mark (stay (saver_installed s view))
