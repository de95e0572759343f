-- Keys of the index of values, which begin with a space and are no words.
use Rattle.std.specs.Prelude.{◌≡◌, ℕ, ◌≤◌, ◌==◌, ◌&&◌, Bool, false, nat_lt, if◌then◌else◌, List, [], ◌∷◌, length, take}
use Rattle.std.specs.Prelude.{position, Option, None, Some}
use Rattle.sig_core.specs.declared.key.TheConstants.{KEY_BYTES, SPACE}
use Rattle.sig_core.specs.Filled.{IsFilled}
use Rattle.sig_core.specs.Word.{is_unprintable}

-- the key is one of the index
abbrev pub is_index : List ℕ → Bool
is_index [] = false
is_index (byte ∷ rest) = byte == SPACE

-- the word that a key is, or that stands behind its space
abbrev pub word_in : List ℕ → List ℕ
word_in [] = []
word_in (byte ∷ rest) = if byte == SPACE then rest else byte ∷ rest

-- an array that holds a key
pub record IsKeyBytes (bytes : List ℕ) (len : ℕ) : Type 0 where
  pub filled : IsFilled 0 KEY_BYTES bytes len
  pub some : 1 ≤ length (word_in (take len bytes))
  pub printable : position is_unprintable (word_in (take len bytes)) ≡ None

-- the index key of a value, if it has one: an empty value has none, and one of 32 bytes or more
abbrev pub index_of : List ℕ → Option (List ℕ)
index_of value = if nat_lt 0 (length value) && nat_lt (length value) KEY_BYTES then Some (SPACE ∷ value) else None
