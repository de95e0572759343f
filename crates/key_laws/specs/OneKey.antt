-- One key: what operations make of its row, and when the entries of a list are right for it.
use Rattle.std.specs.Prelude.{◌≡◌, ℕ, List, [], ◌∷◌, Option, filter}
use Rattle.sig_core.specs.declared.entry.Entry.{Entry}
use Rattle.sig_core.specs.declared.op.Answer.{Answer}
use Rattle.sig_core.specs.declared.op.Answer.TheVariants.{Done}
use Rattle.sig_core.specs.declared.op.Op.{Op}
use Rattle.sig_core.specs.Op.{answer_to, image_of, key_of}
use Rattle.sig_core.specs.Same.{same_key}

-- the row after an operation with this answer: a write that takes effect leaves its image
abbrev pub row_by : Answer → Op → Option (List ℕ) → Option (List ℕ)
row_by Done op row = image_of op
row_by answer op row = row

abbrev pub row_after : Op → Option (List ℕ) → Option (List ℕ)
row_after op row = row_by (answer_to op row) op row

-- operations of one key, one after the other: every stored answer is the one that its operation gets
abbrev pub AreRight : Option (List ℕ) → List (Op × Answer) → Type 0
AreRight row [] = Unit {0}
AreRight row (op ∷ rest) = (op.1 ≡ answer_to op.0 row) × AreRight (row_after op.0 row) rest

-- the row after them
abbrev pub row_after_all : Option (List ℕ) → List (Op × Answer) → Option (List ℕ)
row_after_all row [] = row
row_after_all row (op ∷ rest) = row_after_all (row_after op.0 row) rest

-- those of a transaction's operations that are on the key
abbrev pub ops_on : List ℕ → List (Op × Answer) → List (Op × Answer)
ops_on key ops = filter (λ op. same_key (key_of op.0) key) ops

-- entry after entry, every stored answer on the key is the one that its operation gets
abbrev pub IsRightAt : List ℕ → Option (List ℕ) → List Entry → Type 0
IsRightAt key row [] = Unit {0}
IsRightAt key row (entry ∷ rest) =
    AreRight row (ops_on key entry.ops) × IsRightAt key (row_after_all row (ops_on key entry.ops)) rest

-- the row of the key after the entries
abbrev pub row_at_end : List ℕ → Option (List ℕ) → List Entry → Option (List ℕ)
row_at_end key row [] = row
row_at_end key row (entry ∷ rest) = row_at_end key (row_after_all row (ops_on key entry.ops)) rest
