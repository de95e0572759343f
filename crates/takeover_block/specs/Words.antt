-- The words of a takeover: all that it ever sends. It marks nothing.
use Rattle.std.specs.Prelude.{Bool, true, false}
use Rattle.sig_core.specs.declared.mark.Mark.{Mark}
use Rattle.sig_core.specs.declared.signal.Body.{Body}
use Rattle.sig_core.specs.declared.signal.Body.TheVariants.{Chain, Client, Host, Takeover}
use Rattle.sig_core.specs.declared.signal.Signal.{Signal}
use Rattle.sig_core.specs.declared.signal.chain.ChainSignal.TheVariants.{Abort, Commit, Complete}
use Rattle.sig_core.specs.declared.signal.client.ClientSignal.TheVariants.{NfCompleteRep, TcKeyFailConf, TcKeyFailRef}
use Rattle.sig_core.specs.declared.signal.host.HostSignal.TheVariants.{Continue}
use Rattle.sig_core.specs.declared.signal.host.Work.TheVariants.{Members, Transaction}
use Rattle.sig_core.specs.declared.signal.takeover.TakeoverSignal.TheVariants.{LqhTransReq, TakeoverEnd}
use Rattle.sig_core.specs.declared.view.View.{View}
use Rattle.sig_core.specs.Step.{stay}
use Rattle.step_forms.specs.Does.{Speaks}
use Rattle.takeover_block.specs.State.{TakeoverState, in_view}
use Rattle.takeover_block.specs.Takeover.{takeover_row}

abbrev pub is_takeover_word : Body → Bool
is_takeover_word (Takeover LqhTransReq) = true
is_takeover_word (Takeover TakeoverEnd) = true
is_takeover_word (Chain (Commit tx key epoch chain at)) = true
is_takeover_word (Chain (Complete tx key chain at)) = true
is_takeover_word (Chain (Abort tx key)) = true
is_takeover_word (Client (TcKeyFailConf tx epoch)) = true
is_takeover_word (Client (TcKeyFailRef tx)) = true
is_takeover_word (Client NfCompleteRep) = true
is_takeover_word (Host (Continue (Transaction tx) at)) = true
is_takeover_word (Host (Continue Members at)) = true
is_takeover_word _ = false

abbrev pub is_takeover_mark : Mark → Bool
is_takeover_mark _ = false

-- whatever the takeover takes, and whatever view is installed
pub record TakeoverKeepsToItsWords : Type 0 where
  pub takes : (s : TakeoverState) (x : Signal) → Speaks is_takeover_word is_takeover_mark (takeover_row s x)
  pub installs : (s : TakeoverState) (view : View) → Speaks is_takeover_word is_takeover_mark (stay (in_view s view))
