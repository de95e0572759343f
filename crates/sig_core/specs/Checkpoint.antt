-- The bytes of checkpoints.
use Rattle.std.specs.Prelude.{ℕ, List, [], ◌∷◌, ◌++◌, length, Option, None, Some}
use Rattle.std.specs.Int.{w64, to_be_bytes}
use Rattle.sig_core.specs.declared.stored_row.StoredRow.{StoredRow}

-- what a checkpoint of version 2 begins with
abbrev pub head_bytes : List ℕ
head_bytes = 0 ∷ 2 ∷ []

-- a word behind its length, which is one byte
abbrev pub word_bytes : List ℕ → List ℕ
word_bytes word = length word ∷ word

-- a row epoch in eight bytes, the highest first, where there is one
abbrev pub epoch_bytes : Option ℕ → List ℕ
epoch_bytes None = []
epoch_bytes (Some epoch) = to_be_bytes w64 epoch

-- the bytes of a row: its key, its row epoch in version 2 alone, and its value
abbrev pub row_bytes : StoredRow → List ℕ
row_bytes row = word_bytes row.key ++ (epoch_bytes row.epoch ++ word_bytes row.value)
