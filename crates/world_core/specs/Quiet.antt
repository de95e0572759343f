-- Quiet: nothing is under way.
use Rattle.std.specs.Prelude.{◌≡◌, ◌<◌, ℕ, List}
use Rattle.run_theory.specs.Links.{sent, taken}
use Rattle.run_theory.specs.Machine.{Machine}

-- each host below n has taken all that was sent to it
abbrev pub IsQuiet : {E X : Type 0} → Machine E X → ℕ → (ℕ → List E) → Type 0
IsQuiet m n logs = (i j : ℕ) → i < n → j < n → taken m i (logs j) ≡ sent m i j (logs i)
