-- The words of a coordinator under views: all that it ever sends. It marks nothing.
use Rattle.std.specs.Prelude.{Bool, true, false}
use Rattle.sig_core.specs.declared.mark.Mark.{Mark}
use Rattle.sig_core.specs.declared.signal.Body.{Body}
use Rattle.sig_core.specs.declared.signal.Body.TheVariants.{Chain, Client, Epoch, Host, Membership}
use Rattle.sig_core.specs.declared.signal.Signal.{Signal}
use Rattle.sig_core.specs.declared.signal.chain.ChainSignal.TheVariants as chain
use Rattle.sig_core.specs.declared.signal.chain.RowWork.TheVariants.{Operate}
use Rattle.sig_core.specs.declared.signal.client.ClientSignal.TheVariants as client
use Rattle.sig_core.specs.declared.signal.epoch.EpochSignal.TheVariants.{DiVerifyEnd, DiVerifyReq}
use Rattle.sig_core.specs.declared.signal.host.HostSignal.TheVariants.{Continue}
use Rattle.sig_core.specs.declared.signal.host.Work.TheVariants.{Installation, Transaction}
use Rattle.sig_core.specs.declared.signal.membership.MembershipSignal.TheVariants.{FenceConf}
use Rattle.sig_core.specs.declared.view.View.{View}
use Rattle.step_forms.specs.Does.{Speaks}
use Rattle.tc_views.specs.Coordinator.{coordinator_row}
use Rattle.tc_views.specs.State.{CoordinatorState}
use Rattle.tc_views.specs.Views.{install_row}

-- operations go to rows, never images of writes
abbrev pub is_coordinator_word : Body → Bool
is_coordinator_word (Chain (chain.LqhKeyReq tx (Operate op) members at)) = true
is_coordinator_word (Chain (chain.Commit tx key epoch members at)) = true
is_coordinator_word (Chain (chain.Complete tx key members at)) = true
is_coordinator_word (Chain (chain.Abort tx key)) = true
is_coordinator_word (Client (client.TcBeginConf name tx)) = true
is_coordinator_word (Client (client.TcBeginRef name)) = true
is_coordinator_word (Client (client.TcKeyConf tx answer)) = true
is_coordinator_word (Client (client.TcCommitConf tx epoch)) = true
is_coordinator_word (Client (client.TcRollbackRep tx cause)) = true
is_coordinator_word (Client (client.TcWaitConf tx ahead)) = true
is_coordinator_word (Client (client.LqhWaitReq tx key)) = true
is_coordinator_word (Epoch (DiVerifyReq tx ops)) = true
is_coordinator_word (Epoch (DiVerifyEnd tx)) = true
is_coordinator_word (Membership FenceConf) = true
is_coordinator_word (Host (Continue (Transaction tx) at)) = true
is_coordinator_word (Host (Continue Installation at)) = true
is_coordinator_word _ = false

abbrev pub is_coordinator_mark : Mark → Bool
is_coordinator_mark _ = false

-- whatever the coordinator takes, and whatever view is installed
pub record CoordinatorKeepsToItsWords : Type 0 where
  pub takes : (s : CoordinatorState) (x : Signal) → Speaks is_coordinator_word is_coordinator_mark (coordinator_row s x)
  pub installs : (s : CoordinatorState) (view : View)
      → Speaks is_coordinator_word is_coordinator_mark (install_row s view)
