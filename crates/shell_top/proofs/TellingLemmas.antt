-- What is told last, and what its status says.
use Rattle.std.proofs.Common.{◌≡◌, ◌∙◌, ℕ, List, arith, inl, inr, sym}
use Rattle.std.specs.Prelude.{Option}
use Rattle.shell_top.specs.declared.telling.Telling.{Telling}
use Rattle.shell_top.specs.Telling.{IsTold}

module _ (telling : Telling) (WriteFailed : Type 0) (written now : Option (List ℕ)) (status : ℕ) where
  -- a status that neither a sink nor want of memory has is the one that was meant
  pub told_as_meant : IsTold telling WriteFailed written now status → status ≡ 3 → telling.status ≡ 3
  told_as_meant told is = elim told [
    | inl whole ↦ sym whole.0 ∙ is
    | inr other ↦ elim other [
      | inl cut ↦ let bad : 4 ≡ 3 = sym cut.0 ∙ is in absurd (omega (arith, bad))
      | inr wants ↦ let bad : 5 ≡ 3 = sym wants.0 ∙ is in absurd (omega (arith, bad))
    ]
  ]

  -- where it isn't meant that the sink failed, it did
  pub told_of_sink : IsTold telling WriteFailed written now status → (telling.status ≡ 4 → ⊥) → status ≡ 4
      → WriteFailed
  told_of_sink told never is = elim told [
    | inl whole ↦ absurd (never (sym whole.0 ∙ is))
    | inr other ↦ elim other [
      | inl cut ↦ cut.1
      | inr wants ↦ let bad : 5 ≡ 4 = sym wants.0 ∙ is in absurd (omega (arith, bad))
    ]
  ]
