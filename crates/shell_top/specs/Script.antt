-- What a script asks for, line by line.
use Rattle.std.specs.Prelude.{ℕ, ◌+◌, Bool, true, false, ◌||◌, nat_lt, if◌then◌else◌, List, [], ◌∷◌, length, Option}
use Rattle.std.specs.Prelude.{None, Some}
use Rattle.std.specs.List.{slice_split}
use Rattle.script_lang.specs.declared.command.Command.{Command}
use Rattle.shell_top.specs.declared.ended.Ending.{Ending}
use Rattle.shell_top.specs.declared.ended.Ending.TheVariants.{Finished, Refused, TooLong}
use Rattle.shell_top.specs.declared.script.Parsed.{Parsed}
use Rattle.shell_top.specs.declared.script.Parsed.TheVariants as parsed
use Rattle.shell_top.specs.Parsed.{parsed as parsed_line}
use Rattle.shell_top.specs.Reader.{is_newline}

-- the commands up to the first fault or `quit`, and how the session ends there
pub record Script : Type 0 where
  pub commands : List Command
  pub last : Option Ending

abbrev pub nothing_more : Script
nothing_more = record { commands = []; last = None }

abbrev pub ends_with : Ending → Script
ends_with last = record { commands = []; last = Some last }

-- a line, by what it asks for, and then the rest of a script
abbrev pub follow : ℕ → Parsed → Script → Script
follow line parsed.Nothing rest = rest
follow line (parsed.Ask command) rest = record { commands = command ∷ rest.commands; last = rest.last }
follow line parsed.Quit rest = ends_with Finished
follow line (parsed.Fault fault) rest = ends_with (Refused line fault)

-- a line of more than 512 bytes, and the 65,537th
abbrev pub is_too_long : ℕ → List ℕ → Bool
is_too_long line bytes = nat_lt 65536 line || nat_lt 512 (length bytes)

-- a whole line of a script for so many nodes, and then the rest of it
abbrev pub whole_line : ℕ → ℕ → List ℕ → Script → Script
whole_line nodes line bytes rest =
    if is_too_long line bytes then ends_with (TooLong line) else follow line (parsed_line nodes bytes) rest

-- what stands behind the last newline: no line if it is empty, a line if nothing more comes, and else a part of one
abbrev pub last_part : ℕ → Bool → ℕ → List ℕ → Script
last_part nodes ended line [] = nothing_more
last_part nodes true line (byte ∷ bytes) = whole_line nodes line (byte ∷ bytes) nothing_more
last_part nodes false line (byte ∷ bytes) =
    if is_too_long line (byte ∷ bytes) then ends_with (TooLong line) else nothing_more

-- the parts between newlines, of which the first is the line of this number
abbrev pub script_of : ℕ → Bool → ℕ → List (List ℕ) → Script
script_of nodes ended line [] = nothing_more
script_of nodes ended line (part ∷ []) = last_part nodes ended line part
script_of nodes ended line (part ∷ next ∷ more) =
    whole_line nodes line part (script_of nodes ended (line + 1) (next ∷ more))

-- what these bytes ask for, from this line on; whether nothing more comes
abbrev pub script_from : ℕ → Bool → ℕ → List ℕ → Script
script_from nodes ended line bytes = script_of nodes ended line (slice_split is_newline bytes)
