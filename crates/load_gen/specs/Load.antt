-- What a load asks for.
use Rattle.std.specs.Prelude.{ℕ, zero, suc, ◌+◌, ◌-◌, ◌*◌, ◌/◌, ◌%◌, ◌==◌, ◌||◌, Bool, min, if◌then◌else◌, List, []}
use Rattle.std.specs.Prelude.{◌∷◌, ◌++◌}
use Rattle.load_gen.specs.declared.load.Asked.{Asked}
use Rattle.load_gen.specs.declared.load.Asked.TheVariants.{Wave, Checkpoint}
use Rattle.load_gen.specs.Wave.{wave}

-- how many waves so many transactions have, of 16 each; the last one has the rest
abbrev pub waves_of : ℕ → ℕ
waves_of transactions = (transactions + 15) / 16

-- how many of them wave w has
abbrev pub size_of : ℕ → ℕ → ℕ
size_of transactions w = min 16 (transactions - 16 * w)

-- a checkpoint follows each 64th wave, and the last one
abbrev pub closes_after : ℕ → ℕ → Bool
closes_after waves count = (waves == count) || (waves % 64 == 0)

abbrev pub checkpoint_if : Bool → List Asked
checkpoint_if closes = if closes then Checkpoint ∷ [] else []

-- so many waves, from wave w on
unfoldable pub waves : ℕ → ℕ → ℕ → ℕ → List Asked
waves transactions seed zero w = []
waves transactions seed (suc n) w =
    Wave (wave seed w (size_of transactions w))
    ∷ checkpoint_if (closes_after (w + 1) (waves_of transactions)) ++ waves transactions seed n (w + 1)

-- the load of so many transactions, by a seed
abbrev pub load : ℕ → ℕ → List Asked
load transactions seed = waves transactions seed (waves_of transactions) 0
