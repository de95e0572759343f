-- What the lines of a console come to.
use Rattle.std.specs.Prelude.{ℕ, ◌-◌, List, ◌++◌, Option, option_map}
use Rattle.console.specs.declared.lines.Lines.{Lines}
use Rattle.console.specs.Given.{taken_text}

-- What is given yet by a console for so many nodes that has given so many lines, where its source has these bytes left:
-- the rest of a line, and then the lines that are taken, up to as many as a session has.
abbrev pub given_by : (nodes given : ℕ) → (rest held : List ℕ) → Option (List ℕ) → Option (List ℕ)
given_by nodes given rest held left =
    option_map (λ bytes. rest ++ taken_text nodes (65536 - given) (held ++ bytes)) left

abbrev pub given_of : Lines → Option (List ℕ) → Option (List ℕ)
given_of lines left = given_by lines.nodes lines.given lines.rest.items lines.held.items left
