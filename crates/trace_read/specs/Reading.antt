-- What a function that reads from the front of some bytes returns, with the bytes that it leaves.
use Rattle.std.specs.Prelude.{◌≡◌, ℕ, List, Result, Ok, Err}
use Rattle.trace_read.specs.declared.stop.Stop.{Stop}
use Rattle.trace_read.specs.declared.stop.Stop.TheVariants.{Left, NoMemory}

-- it is what reading gives
abbrev pub Gives : {A : Type 0} → Result A ℕ → List ℕ → Result (A × List ℕ) ℕ → Type 0
Gives (Ok x) rest read = read ≡ Ok (x, rest)
Gives (Err left) rest read = read ≡ Err left

abbrev pub StopsAt : {A : Type 0} → Stop → Result (A × List ℕ) ℕ → Type 0
StopsAt (Left left) read = read ≡ Err left
StopsAt NoMemory read = Unit {0}

-- the same, unless memory was wanted
abbrev pub GivesOrWants : {A : Type 0} → Result A Stop → List ℕ → Result (A × List ℕ) ℕ → Type 0
GivesOrWants (Ok x) rest read = read ≡ Ok (x, rest)
GivesOrWants (Err why) rest read = StopsAt why read
