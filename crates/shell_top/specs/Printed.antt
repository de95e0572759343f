-- What is printed of a text: all, or a first part where printing was cut short.
use Rattle.std.specs.Prelude.{◌≡◌, ℕ, Bool, true, false, List, take, Option}
use Rattle.std.specs.Io.KnownBytes.{Appends}
use Rattle.shell_top.specs.declared.ended.Ending.{Ending}
use Rattle.shell_top.specs.declared.ended.Ending.TheVariants.{WriteFault, NoMemory}

-- the known bytes grow by a first part of a text
pub record AppendsPart (written written_now : Option (List ℕ)) (text : List ℕ) : Type 0 where
  pub count : ℕ
  pub appended : Appends written written_now (take count text)

-- the endings by which printing is cut short
abbrev pub is_cut_short : Ending → Bool
is_cut_short WriteFault = true
is_cut_short NoMemory = true
is_cut_short ending = false

-- a first part where printing was cut short, and else all, and then the session ended as it was meant to
abbrev pub prints_if : Bool → Ending → Ending → Option (List ℕ) → Option (List ℕ) → List ℕ → Type 0
prints_if true ending meant written written_now text = AppendsPart written written_now text
prints_if false ending meant written written_now text = (meant ≡ ending) × Appends written written_now text

abbrev pub Prints : Ending → Ending → Option (List ℕ) → Option (List ℕ) → List ℕ → Type 0
Prints ending meant written written_now text = prints_if (is_cut_short ending) ending meant written written_now text
