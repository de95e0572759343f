-- What becomes of a session that is given its lines by a console.
use Rattle.std.specs.Prelude.{ℕ, ◌≤◌, Bool, List, Option, None, Some}
use Rattle.console.specs.Given.{taken_text}
use Rattle.shell_top.specs.declared.ended.Ending.{Ending}
use Rattle.shell_top.specs.declared.ended.Ending.TheVariants.{Finished}
use Rattle.shell_top.specs.Script.{script_from}

-- no line ends the session by a fault
abbrev pub HasNoFault : Option Ending → Type 0
HasNoFault None = Unit {0}
HasNoFault (Some Finished) = Unit {0}
HasNoFault (Some ending) = ⊥

-- Of any text that is typed, what a console gives of it, up to as many lines as a session has, is a script in which no
-- line is refused, or too long, or one too many.
abbrev pub NoLineIsRefused : Type 0
NoLineIsRefused =
    (nodes count : ℕ) (ended : Bool) (typed : List ℕ) → count ≤ 65536
    → HasNoFault (script_from nodes ended 1 (taken_text nodes count typed)).last
