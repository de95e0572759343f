-- All that a membership ever sends, and all that it marks.
use Rattle.std.specs.Prelude.{Bool, true, false}
use Rattle.sig_core.specs.declared.mark.Mark.{Mark}
use Rattle.sig_core.specs.declared.mark.Mark.TheVariants.{Down, Installed, Promised, Stopped}
use Rattle.sig_core.specs.declared.signal.Body.{Body}
use Rattle.sig_core.specs.declared.signal.Body.TheVariants.{Client, Epoch, Host, Joining, Membership, Takeover}
use Rattle.sig_core.specs.declared.signal.Signal.{Signal}
use Rattle.sig_core.specs.declared.signal.client.ClientSignal.TheVariants.{ViewRep}
use Rattle.sig_core.specs.declared.signal.epoch.EpochSignal.TheVariants.{GcpOrd}
use Rattle.sig_core.specs.declared.signal.host.HostSignal.TheVariants.{Continue}
use Rattle.sig_core.specs.declared.signal.host.Work.TheVariants.{Installation, Members}
use Rattle.sig_core.specs.declared.signal.joining.JoiningSignal.TheVariants.{CopyOrd, StartEnd, StartRep}
use Rattle.sig_core.specs.declared.signal.membership.MembershipSignal.TheVariants.{ArbitReq, CommitFailReq, FailRep}
use Rattle.sig_core.specs.declared.signal.membership.MembershipSignal.TheVariants.{FenceReq, Heartbeat, PrepFailConf}
use Rattle.sig_core.specs.declared.signal.membership.MembershipSignal.TheVariants.{PrepFailRef, PrepFailReq, StopSet}
use Rattle.sig_core.specs.declared.signal.takeover.TakeoverSignal.TheVariants.{TakeoverOrd}
use Rattle.sig_core.specs.declared.view.View.{View}
use Rattle.step_forms.specs.Does.{Speaks}
use Rattle.qmgr_block.specs.Qmgr.{qmgr_installed, qmgr_row}
use Rattle.qmgr_block.specs.State.{QmgrState}

-- signals between memberships, to the fenced blocks and the arbitrator, the orders of an installation, and its own work
abbrev pub is_qmgr_word : Body → Bool
is_qmgr_word (Membership Heartbeat) = true
is_qmgr_word (Membership (FailRep suspects)) = true
is_qmgr_word (Membership (PrepFailReq set)) = true
is_qmgr_word (Membership (PrepFailConf number)) = true
is_qmgr_word (Membership (PrepFailRef promised)) = true
is_qmgr_word (Membership (FenceReq set)) = true
is_qmgr_word (Membership (ArbitReq number members joining)) = true
is_qmgr_word (Membership CommitFailReq) = true
is_qmgr_word (Membership (StopSet cause)) = true
is_qmgr_word (Joining (StartRep member)) = true
is_qmgr_word (Joining (StartEnd member)) = true
is_qmgr_word (Joining (CopyOrd member own)) = true
is_qmgr_word (Takeover TakeoverOrd) = true
is_qmgr_word (Epoch GcpOrd) = true
is_qmgr_word (Client ViewRep) = true
is_qmgr_word (Host (Continue Installation at)) = true
is_qmgr_word (Host (Continue Members at)) = true
is_qmgr_word _ = false

-- a promise, a view that is settled on, and a stop
abbrev pub is_qmgr_mark : Mark → Bool
is_qmgr_mark (Promised number) = true
is_qmgr_mark (Installed view) = true
is_qmgr_mark (Down group) = true
is_qmgr_mark (Stopped cause) = true
is_qmgr_mark _ = false

-- whatever it takes, and whatever view is installed
pub record QmgrKeepsToItsWords : Type 0 where
  pub at_signals : (s : QmgrState) (x : Signal) → Speaks is_qmgr_word is_qmgr_mark (qmgr_row s x)
  pub at_installations : (s : QmgrState) (view : View) → Speaks is_qmgr_word is_qmgr_mark (qmgr_installed s view)
