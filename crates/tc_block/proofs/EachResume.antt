-- What holds of each form of turn that a transaction takes for what an installation left to do holds of each such turn.
use Rattle.std.proofs.Common.{◌≡◌, ◌==◌, ℕ, Bool, true, false, refl, ap}
use Rattle.std.specs.Prelude.{None}
use Rattle.sig_core.specs.declared.member.TxId.{TxId}
use Rattle.sig_core.specs.declared.outcome.AbortCause.{AbortCause}
use Rattle.sig_core.specs.declared.outcome.AbortCause.TheVariants.{NodeFail}
use Rattle.sig_core.specs.Step.{stay}
use Rattle.frag_map.specs.Layout.{Layout}
use Rattle.tc_block.specs.Abort.{abort_if, aborted_for, aborts_awaited, replica_count}
use Rattle.tc_block.specs.declared.phase.Phase.{Phase}
use Rattle.tc_block.specs.declared.phase.Phase.TheVariants.{Open, Verifying, Committing, Completing, Aborting}
use Rattle.tc_block.specs.declared.task.Verdict.{Verdict}
use Rattle.tc_block.specs.declared.task.Verdict.TheVariants.{AbortAnew, Fail, Redrive}
use Rattle.tc_block.specs.declared.transaction.Transaction.{Transaction}
use Rattle.tc_block.specs.Doom.{is_undecided}
use Rattle.tc_block.specs.Resume.{anew_if, aborted_anew, redriven, resume_by}
use Rattle.tc_block.specs.Turn.{Turn, asking, going}
use Rattle.tc_block.proofs.EachTurn.{AbortForms}

-- the turns that a transaction may take for what an installation left to do
pub record ResumeForms (node : ℕ) (layout : Layout) (tx : TxId) (t : Transaction) (R : Turn → Type 0) : Type 0 where
  pub stays : R (going (stay t))
  -- it is given up
  pub fails : (number : ℕ) → is_undecided t.phase ≡ true
      → AbortForms node layout tx (asking t None) (NodeFail number) R
  -- its abort begins anew, or has nothing to wait for
  pub anew : (why : AbortCause) (verifying : Bool) (awaited : ℕ) → t.phase ≡ Aborting why verifying awaited
      → (b : Bool) → R (anew_if node layout tx (asking t None) why verifying b)
  -- its keys are committed once more
  pub recommits : (epoch awaited : ℕ) → t.phase ≡ Committing epoch awaited
      → R (going (redriven node layout tx t epoch))
  pub recompletes : (epoch awaited : ℕ) → t.phase ≡ Completing epoch awaited
      → R (going (redriven node layout tx t epoch))

module _ (node : ℕ) (layout : Layout) (tx : TxId) (t : Transaction) (R : Turn → Type 0)
    (forms : ResumeForms node layout tx t R) where
  fails : (number : ℕ) → is_undecided t.phase ≡ true → R (aborted_for node layout tx (asking t None) (NodeFail number))
  unfolding aborted_for
  fails number is = by (aborts_awaited layout (asking t None) == 0) refl
    where
      by : (b : Bool) → (aborts_awaited layout (asking t None) == 0) ≡ b
          → R (abort_if node layout tx (asking t None) (NodeFail number) b)
      by true none = (forms.fails number is).ends none
      by false none = (forms.fails number is).enters none

  anew : (why : AbortCause) (verifying : Bool) (awaited : ℕ) → t.phase ≡ Aborting why verifying awaited
      → R (aborted_anew node layout tx (asking t None) why verifying)
  unfolding aborted_anew
  anew why verifying awaited at = forms.anew why verifying awaited at (replica_count layout t.touched == 0)

  pub resumes : (number : ℕ) (verdict : Verdict) (phase : Phase) → t.phase ≡ phase
      → R (resume_by node layout tx t number verdict phase)
  resumes number Fail Open at = fails number (ap is_undecided at)
  resumes number Fail Verifying at = fails number (ap is_undecided at)
  resumes number AbortAnew (Aborting why verifying awaited) at = anew why verifying awaited at
  resumes number Redrive (Committing epoch awaited) at = forms.recommits epoch awaited at
  resumes number Redrive (Completing epoch awaited) at = forms.recompletes epoch awaited at
  resumes number _ _ at = forms.stays
