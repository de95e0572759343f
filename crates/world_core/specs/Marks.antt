-- Marks of logs: which steps have which.
use Rattle.std.specs.List.{list_any}
use Rattle.std.specs.Prelude.{ℕ, zero, suc, Bool, false, ◌||◌, List, [], ◌∷◌}
use Rattle.world_core.specs.Steps.{HostStep}
use Rattle.sig_core.specs.declared.mark.Mark.{Mark}

-- a step of the log has a mark that passes the test
abbrev pub has_mark : (Mark → Bool) → List HostStep → Bool
has_mark test [] = false
has_mark test (e ∷ log) = list_any test e.step.marks || has_mark test log

-- a log of the hosts below n has one
abbrev pub have_mark : (Mark → Bool) → ℕ → (ℕ → List HostStep) → Bool
have_mark test zero logs = false
have_mark test (suc n) logs = has_mark test (logs n) || have_mark test n logs
