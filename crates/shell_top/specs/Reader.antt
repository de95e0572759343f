-- Bytes that were read and are held until a line is whole.
use Rattle.std.specs.Prelude.{◌≡◌, ℕ, Bool, true, false, ◌==◌, ◌≤◌, ◌<◌, List, ◌++◌, length, position, Option, None}
use Rattle.std.specs.Prelude.{Some}
use Rattle.std.specs.Io.KnownBytes.{Consumes, IsAtEnd}
use Rattle.shell_top.specs.declared.reader.Filled.{Filled}
use Rattle.shell_top.specs.declared.reader.Filled.TheVariants.{Line, Ended, Overlong, Failed, NoMemory}

-- what ends a line
abbrev pub is_newline : ℕ → Bool
is_newline byte = byte == 10

-- bytes of the source went behind those that were held
pub record Reads (left left_now : Option (List ℕ)) (held held_now : List ℕ) : Type 0 where
  pub more : List ℕ
  pub consumed : Consumes left left_now more
  pub kept : held_now ≡ held ++ more

-- whether more is held than before; if not, the source is at its end
abbrev pub HasMore : Option (List ℕ) → List ℕ → List ℕ → Bool → Type 0
HasMore left held held_now true = length held < length held_now
HasMore left held held_now false = (held_now ≡ held) × IsAtEnd left

-- no line is whole, and what is held is not too long for one
pub record IsPartial (held : List ℕ) : Type 0 where
  pub no_newline : position is_newline held ≡ None
  pub short : length held ≤ 512

-- what the answer says of what is held, and of the bytes that are left
abbrev pub IsFilled : Filled → Option (List ℕ) → List ℕ → Type 0
IsFilled (Line at) left held = position is_newline held ≡ Some at
IsFilled Ended left held = IsPartial held × IsAtEnd left
IsFilled Overlong left held = (position is_newline held ≡ None) × (512 < length held)
IsFilled Failed left held = IsPartial held
IsFilled NoMemory left held = IsPartial held

-- an answer that tells no more than that reading can't go on
abbrev pub IsFault : Filled → Type 0
IsFault (Line at) = ⊥
IsFault Ended = ⊥
IsFault Overlong = ⊥
IsFault Failed = Unit {0}
IsFault NoMemory = Unit {0}
