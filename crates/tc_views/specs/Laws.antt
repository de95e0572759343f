-- What is true of a coordinator under views, whatever comes.
use Rattle.std.specs.Prelude.{◌≡◌, ℕ, true, false, nat_lt, List, [], ◌∷◌}
use Rattle.run_theory.specs.Lists.{Each}
use Rattle.frag_map.specs.Layout.{Layout}
use Rattle.sig_core.specs.declared.member.TxId.{TxId}
use Rattle.sig_core.specs.declared.outcome.AbortCause.TheVariants.{NodeFail}
use Rattle.sig_core.specs.declared.signal.Body.{Body}
use Rattle.sig_core.specs.declared.signal.Body.TheVariants.{Host, Membership}
use Rattle.sig_core.specs.declared.signal.Signal.{Signal}
use Rattle.sig_core.specs.declared.signal.host.HostSignal.TheVariants.{Continue}
use Rattle.sig_core.specs.declared.signal.host.Work.TheVariants as work
use Rattle.sig_core.specs.declared.signal.membership.MembershipSignal.TheVariants.{FenceReq}
use Rattle.sig_core.specs.declared.view.View.{View}
use Rattle.sig_core.specs.Same.{same_tx}
use Rattle.sig_core.specs.Step.{Step}
use Rattle.tc_block.specs.Abort.{abort_end, is_verifying, replica_count}
use Rattle.tc_block.specs.declared.phase.Phase.TheVariants.{Aborting}
use Rattle.tc_block.specs.declared.task.Task.{Task}
use Rattle.tc_block.specs.declared.task.Verdict.TheVariants.{Fail}
use Rattle.tc_block.specs.declared.transaction.Transaction.{Transaction}
use Rattle.tc_block.specs.Doom.{is_among, is_undecided}
use Rattle.tc_block.specs.Phases.{is_decided}
use Rattle.tc_block.specs.Resume.{resume_row}
use Rattle.tc_block.specs.State.{TcState}
use Rattle.tc_block.specs.Tc.{tc_row}
use Rattle.tc_block.specs.Turn.{Turn}
use Rattle.tc_views.specs.Coordinator.{coordinator_row}
use Rattle.tc_views.specs.State.{CoordinatorState}
use Rattle.tc_views.specs.Views.{install_row}

-- By a signal from a view of this number a coordinator in a view of its own promises nothing, and goes on with nothing
-- that
-- an installation left to do, nor with a list of an older view.
abbrev pub IsCalm : ℕ → ℕ → Body → Type 0
IsCalm own number (Membership (FenceReq proposal)) = ⊥
IsCalm own number (Host (Continue work.Installation at)) = ⊥
IsCalm own number (Host (Continue (work.Transaction tx) at)) = nat_lt number own ≡ false
IsCalm own number body = Unit {0}

-- the coordinator within the view takes a step, and all else stays
abbrev pub alone : CoordinatorState → Step TcState → Step CoordinatorState
alone s step = record { state = record s { tc = step.state }; effects = step.effects }

-- where nothing is doomed and nothing is left to do, it steps as it does within its view
abbrev pub CalmSteps : Type 0
CalmSteps =
    (s : CoordinatorState) (x : Signal) → s.doomed ≡ [] → s.left ≡ [] → IsCalm s.number x.view.number x.body
    → coordinator_row s x ≡ alone s (tc_row s.tc x)

-- the transaction isn't decided, as far as this entry tells
abbrev pub IsNotDecided : TxId → TxId × Transaction → Type 0
IsNotDecided tx e = same_tx e.0 tx ≡ true → is_decided e.1.phase ≡ false

-- a doomed transaction that isn't decided is decided by no step
abbrev pub DoomedAreNotDecided : Type 0
DoomedAreNotDecided =
    (s : CoordinatorState) (x : Signal) (tx : TxId) → is_among s.doomed tx ≡ true
    → Each (IsNotDecided tx) s.tc.live → Each (IsNotDecided tx) (coordinator_row s x).state.tc.live

-- no transaction stands twice among those that aren't forgotten
abbrev pub AreOnce : List (TxId × Transaction) → Type 0
AreOnce [] = Unit {0}
AreOnce (e ∷ live) = Each (λ other. same_tx e.0 other.0 ≡ false) live × AreOnce live

-- nor in what is left to do
abbrev pub AreLeftOnce : List Task → Type 0
AreLeftOnce [] = Unit {0}
AreLeftOnce (task ∷ left) = Each (λ other. same_tx task.tx other.tx ≡ false) left × AreLeftOnce left

-- what an installation leaves to do has no transaction twice
abbrev pub NoneIsLeftTwice : Type 0
NoneIsLeftTwice = (s : CoordinatorState) (view : View) → AreOnce s.tc.live → AreLeftOnce (install_row s view).state.left

-- a transaction that is aborted since a node failed, by the number of the view: its end is told with that number, or it
-- is
-- its cause
pub record FailsBy (tx : TxId) (number : ℕ) (node : ℕ) (layout : Layout) (t : Transaction) (turn : Turn) : Type 0 where
  pub ended : turn.over ≡ true → turn.step.effects.sends ≡ abort_end node tx (NodeFail number) (is_verifying t.phase)
  pub goes_on : turn.over ≡ false
      → turn.step.state.phase ≡ Aborting (NodeFail number) (is_verifying t.phase) (replica_count layout t.touched)

-- so it is with each undecided one that an installation leaves to be aborted
abbrev pub FailedAreToldTheView : Type 0
FailedAreToldTheView =
    (node number : ℕ) (layout : Layout) (tx : TxId) (t : Transaction) → is_undecided t.phase ≡ true
    → FailsBy tx number node layout t (resume_row node layout tx t Fail number)
