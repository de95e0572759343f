-- What a console gives of a text.
use Rattle.std.specs.Prelude.{◌≡◌, ◌⊎◌, ℕ, Bool, true, ◌==◌, List, [], ◌∷◌, ◌++◌, filter, take, position, Option, None}
use Rattle.std.specs.Prelude.{Some}
use Rattle.std.specs.List.{slice_split}
use Rattle.std.specs.Io.KnownBytes.{Consumes, IsAtEnd}
use Rattle.console.specs.Taken.{is_taken}

-- what ends a line
abbrev pub is_newline : ℕ → Bool
is_newline byte = byte == 10

-- lines, each with its newline
abbrev pub text_of : List (List ℕ) → List ℕ
text_of [] = []
text_of (line ∷ lines) = line ++ 10 ∷ text_of lines

-- of the lines of a text those that a session of so many nodes takes, up to this number of them
abbrev pub taken_text : ℕ → ℕ → List ℕ → List ℕ
taken_text nodes count bytes = text_of (take count (filter (is_taken nodes) (slice_split is_newline bytes)))

-- bytes of the source went behind those that were held
pub record Reads (left left_now : Option (List ℕ)) (held held_now : List ℕ) : Type 0 where
  pub more : List ℕ
  pub consumed : Consumes left left_now more
  pub kept : held_now ≡ held ++ more

-- the place of the first newline, or none, and then the source is at its end
abbrev pub IsFound : Option (List ℕ) → List ℕ → Option ℕ → Type 0
IsFound left held (Some at) = position is_newline held ≡ Some at
IsFound left held None = (position is_newline held ≡ None) × IsAtEnd left

-- a line that a session of so many nodes takes, with its newline
pub record IsLine (nodes : ℕ) (text : List ℕ) : Type 0 where
  pub line : List ℕ
  pub taken : is_taken nodes line ≡ true
  pub is : text ≡ line ++ 10 ∷ []

-- the first bytes of a line that the session takes were given, and these are left
pub record BeginsLine (nodes : ℕ) (rest_now bytes : List ℕ) : Type 0 where
  pub text : List ℕ
  pub line : IsLine nodes text
  pub is : text ≡ bytes ++ rest_now

-- bytes were given of what was left of a line, or of the next line
abbrev pub GivesNext : ℕ → (rest rest_now bytes : List ℕ) → Type 0
GivesNext nodes rest rest_now bytes = (rest ≡ bytes ++ rest_now) ⊎ BeginsLine nodes rest_now bytes
