-- Marks that decide nothing and install nothing.
use Rattle.std.proofs.Common.{◌≡◌, Bool, true, false, List, []}
use Rattle.run_theory.specs.Lists.{Each}
use Rattle.sig_core.specs.declared.mark.Mark.{Mark}
use Rattle.sig_core.specs.declared.mark.Mark.TheVariants.{Decided, Installed}
use Rattle.sig_core.specs.Step.{Step}

-- the mark decides no transaction and installs no view
abbrev pub is_plain : Mark → Bool
is_plain (Decided tx epoch) = false
is_plain (Installed view) = false
is_plain _ = true

abbrev pub ArePlain : List Mark → Type 0
ArePlain marks = Each (λ mark. is_plain mark ≡ true) marks

-- a step with such marks alone
abbrev pub HasPlainMarks : {S : Type 0} → Step S → Type 0
HasPlainMarks step = ArePlain step.effects.marks

pub none_plain : (marks : List Mark) → marks ≡ [] → ArePlain marks
none_plain marks is = rw is tt
