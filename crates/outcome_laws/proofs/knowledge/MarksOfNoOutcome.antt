-- Marks that neither decide a transaction nor report its outcome.
use Rattle.std.proofs.Common.{◌≡◌, ℕ, Bool, true, false, refl}
use Rattle.std.proofs.lemmas.Bool.{true≢false}
use Rattle.run_theory.specs.Lists.{Each}
use Rattle.sig_core.specs.declared.mark.Mark.{Mark}
use Rattle.sig_core.specs.declared.mark.Mark.TheVariants.{Decided, Reported}
use Rattle.sig_core.specs.declared.member.TxId.{TxId}
use Rattle.sig_core.specs.Step.{Step}
use Rattle.outcome_laws.specs.Counts.{is_decision}
use Rattle.outcome_laws.specs.Tells.{IsRightMark}

abbrev pub is_outcome : Mark → Bool
is_outcome (Decided tx epoch) = true
is_outcome (Reported tx outcome) = true
is_outcome mark = false

abbrev pub IsNoOutcome : Mark → Type 0
IsNoOutcome mark = is_outcome mark ≡ false

-- nothing is decided or reported at a step
abbrev pub MarksNone : {S : Type 0} → Step S → Type 0
MarksNone step = Each IsNoOutcome step.effects.marks

-- such a mark is of no decision, and of no report
pub none_decided : (tx : TxId) (mark : Mark) → IsNoOutcome mark → is_decision tx mark ≡ false
none_decided tx (Decided other epoch) none = absurd (true≢false none)
none_decided tx mark none = refl

-- it is a right one, and decides nothing
module _ (D : TxId → ℕ → Type 0) (B : TxId → Type 0) where
  pub none_right : (mark : Mark) → IsNoOutcome mark → IsRightMark D B mark
  none_right (Decided tx epoch) none = absurd (true≢false none)
  none_right (Reported tx outcome) none = absurd (true≢false none)
  none_right mark none = tt
