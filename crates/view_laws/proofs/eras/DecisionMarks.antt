-- Marks of decisions: steps with none, and steps with no others.
use Rattle.std.proofs.Common.{◌≡◌, ℕ, Bool, true, false, List, [], ◌∷◌, refl}
use Rattle.std.specs.List.{list_any}
use Rattle.run_theory.specs.Lists.{Each}
use Rattle.sig_core.specs.declared.mark.Mark.{Mark}
use Rattle.sig_core.specs.declared.mark.Mark.TheVariants.{Decided}
use Rattle.sig_core.specs.Step.{Step}
use Rattle.node_views.specs.Row.{is_stop}
use Rattle.world_core.specs.Entries.{installed_in}

abbrev pub is_decision : Mark → Bool
is_decision (Decided tx epoch) = true
is_decision mark = false

abbrev pub IsUndecided : Mark → Type 0
IsUndecided mark = is_decision mark ≡ false

abbrev pub IsDecision : Mark → Type 0
IsDecision mark = is_decision mark ≡ true

-- a step decides nothing, or has no marks but of decisions
abbrev pub DecidesNone : {S : Type 0} → Step S → Type 0
DecidesNone step = Each IsUndecided step.effects.marks

abbrev pub DecidesOnly : {S : Type 0} → Step S → Type 0
DecidesOnly step = Each IsDecision step.effects.marks

pub decisions_go : (marks : List Mark) → Each IsDecision marks → list_any is_stop marks ≡ false
decisions_go [] all = refl
decisions_go (Decided tx epoch ∷ marks) all = decisions_go marks all.1
decisions_go (mark ∷ marks) all = absurd cc

pub decisions_install : (marks : List Mark) (number : ℕ) → Each IsDecision marks → installed_in marks number ≡ number
decisions_install [] number all = refl
decisions_install (Decided tx epoch ∷ marks) number all = decisions_install marks number all.1
decisions_install (mark ∷ marks) number all = absurd cc
