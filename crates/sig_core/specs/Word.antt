-- Words: lists of the bytes 0x21 to 0x7e, each of which prints as one visible character.
use Rattle.std.specs.Prelude.{◌≡◌, ℕ, ◌≤◌, Bool, ◌||◌, nat_lt, if◌then◌else◌, List, length, take, position, Option}
use Rattle.std.specs.Prelude.{None, Some, Result, Ok, Err}
use Rattle.sig_core.specs.declared.word.WordFault.{WordFault}
use Rattle.sig_core.specs.declared.word.WordFault.TheVariants.{Length, BadByte}
use Rattle.sig_core.specs.Filled.{IsFilled}

-- a byte that no word has
abbrev pub is_unprintable : ℕ → Bool
is_unprintable byte = nat_lt byte 0x21 || nat_lt 0x7e byte

-- the good answer, where no byte is spoilt
abbrev pub unless_spoilt : {A : Type 0} → A → Option ℕ → Result A WordFault
unless_spoilt good None = Ok good
unless_spoilt good (Some at) = Err (BadByte at)

-- the good answer, where the bytes are a word of at least `least` and at most `most` bytes. The length is judged first
abbrev pub if_word : {A : Type 0} → ℕ → ℕ → List ℕ → A → Result A WordFault
if_word least most bytes good =
    if nat_lt (length bytes) least || nat_lt most (length bytes)
    then Err (Length (length bytes))
    else unless_spoilt good (position is_unprintable bytes)

-- an array that holds a word of at least `least` bytes
pub record IsWord (least room : ℕ) (bytes : List ℕ) (len : ℕ) : Type 0 where
  pub filled : IsFilled 0 room bytes len
  pub long_enough : least ≤ len
  pub printable : position is_unprintable (take len bytes) ≡ None
