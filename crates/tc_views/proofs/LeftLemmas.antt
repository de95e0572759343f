-- What an installation leaves to do.
use Rattle.std.proofs.Common.{◌≡◌, ◌==◌, ℕ, Bool, true, false, List, [], ◌∷◌, ◌++◌, nat_lt, refl, ap, arith}
use Rattle.std.specs.List.{flat_map}
use Rattle.run_theory.specs.Lists.{Each}
use Rattle.std.specs.Prelude.{Option, None, Some}
use Rattle.sig_core.specs.declared.member.TxId.{TxId}
use Rattle.sig_core.specs.declared.outcome.AbortCause.TheVariants.{NodeFail}
use Rattle.sig_core.specs.Same.{same_tx}
use Rattle.frag_map.specs.Layout.{Layout}
use Rattle.tc_block.specs.Abort.{abort_if, aborted_for, aborts_awaited, is_verifying, replica_count}
use Rattle.tc_block.specs.declared.phase.Phase.{Phase}
use Rattle.tc_block.specs.declared.phase.Phase.TheVariants.{Open, Verifying, Committing, Completing, Aborting}
use Rattle.tc_block.specs.declared.task.Task.{Task}
use Rattle.tc_block.specs.declared.task.Verdict.{Verdict}
use Rattle.tc_block.specs.declared.task.Verdict.TheVariants.{Fail}
use Rattle.tc_block.specs.declared.transaction.Transaction.{Transaction}
use Rattle.tc_block.specs.Doom.{is_among, is_undecided}
use Rattle.tc_block.specs.Resume.{resume_by, resume_row, task_if, task_of, tasks_in, verdict_of}
use Rattle.tc_block.specs.Sends.{entering}
use Rattle.tc_block.specs.Turn.{asking}
use Rattle.tc_views.specs.Laws.{AreLeftOnce, AreOnce, FailedAreToldTheView, FailsBy, NoneIsLeftTwice}
use Rattle.tc_views.specs.State.{CoordinatorState}
use Rattle.tc_views.specs.Views.{install_row, tasks_if}

abbrev Live : Type 0
Live = List (TxId × Transaction)

-- what is left for other transactions is of others
others : (doomed : List TxId) (e : TxId × Transaction) (es : Live) → Each (λ other. same_tx e.0 other.0 ≡ false) es
    → Each (λ (other : Task). same_tx e.0 other.tx ≡ false) (flat_map (task_of doomed) es)
others doomed e [] apart = tt
others doomed e (one ∷ es) apart = by (verdict_of one.1 (is_among doomed one.0)) (others doomed e es apart.1)
  where
    by : (o : Option Verdict) → Each (λ (other : Task). same_tx e.0 other.tx ≡ false) (flat_map (task_of doomed) es)
        → Each (λ (other : Task). same_tx e.0 other.tx ≡ false) (task_if one.0 o ++ flat_map (task_of doomed) es)
    by None rest = rest
    by (Some other) rest = (apart.0, rest)

tasks_apart : (doomed : List TxId) (es : Live) → AreOnce es → AreLeftOnce (flat_map (task_of doomed) es)
tasks_apart doomed [] apart = tt
tasks_apart doomed (e ∷ es) apart = by (verdict_of e.1 (is_among doomed e.0)) (tasks_apart doomed es apart.1)
  where
    by : (o : Option Verdict) → AreLeftOnce (flat_map (task_of doomed) es)
        → AreLeftOnce (task_if e.0 o ++ flat_map (task_of doomed) es)
    by None rest = rest
    by (Some verdict) rest = (others doomed e es apart.0, rest)

pub none_is_left_twice : NoneIsLeftTwice
unfolding install_row tasks_in
none_is_left_twice s view apart = by (nat_lt view.number s.fence)
  where
    by : (b : Bool) → AreLeftOnce (tasks_if s b)
    by true = tt
    by false = tasks_apart s.doomed s.tc.live apart

module _ (node number : ℕ) (layout : Layout) (tx : TxId) where
  open_fails : (t : Transaction)
      → FailsBy tx number node layout t (aborted_for node layout tx (asking t None) (NodeFail number))
  unfolding aborted_for entering
  open_fails t = by (aborts_awaited layout (asking t None) == 0)
    where
      all : aborts_awaited layout (asking t None) ≡ replica_count layout t.touched
      all = omega arith

      by : (b : Bool) → FailsBy tx number node layout t (abort_if node layout tx (asking t None) (NodeFail number) b)
      by true = record { ended = λ over. refl; goes_on = λ goes. absurd cc }
      by false = record {
        ended = λ over. absurd cc;
        goes_on = λ goes. ap (Aborting (NodeFail number) (is_verifying t.phase)) all;
      }

  fails : (t : Transaction) (phase : Phase) → is_undecided phase ≡ true
      → FailsBy tx number node layout t (resume_by node layout tx t number Fail phase)
  fails t Open is = open_fails t
  fails t Verifying is = open_fails t
  fails t (Committing epoch awaited) is = absurd cc
  fails t (Completing epoch awaited) is = absurd cc
  fails t (Aborting cause verifying awaited) is = absurd cc

pub failed_are_told_the_view : FailedAreToldTheView
unfolding resume_row
failed_are_told_the_view node number layout tx t is = fails node number layout tx t t.phase is
