-- How commands are spelled, and where each may stand.
use Rattle.std.specs.Prelude.{◌≡◌, ℕ, ◌^◌, ◌<◌, ◌≤◌, Bool, true, false, List, [], ◌∷◌, ◌++◌, codes, Option, None, Some}
use Rattle.std.specs.Prelude.{IfSome, Ok}
use Rattle.std.specs.Fmt.{decimal}
use Rattle.std.specs.List.{join_with_byte}
use Rattle.sig_core.specs.declared.key.TheConstants.{KEY_BYTES}
use Rattle.sig_core.specs.declared.value.TheConstants.{VALUE_BYTES}
use Rattle.sig_core.specs.declared.op.Op.{Op}
use Rattle.sig_core.specs.declared.op.Op.TheVariants as op
use Rattle.sig_core.specs.Word.{if_word}
use Rattle.script_lang.specs.declared.command.Command.{Command}
use Rattle.script_lang.specs.declared.command.Command.TheVariants as command
use Rattle.script_lang.specs.Line.{parsed_line, without_return}
use Rattle.script_lang.specs.Words.{words}

-- an empty value is left out
abbrev pub value_words : List ℕ → List (List ℕ)
value_words [] = []
value_words (byte ∷ value) = (byte ∷ value) ∷ []

abbrev pub operation_words : Op → List (List ℕ)
operation_words (op.Get key) = codes "get" ∷ key ∷ []
operation_words (op.GetX key) = codes "getx" ∷ key ∷ []
operation_words (op.Put key value) = codes "put" ∷ key ∷ value_words value
operation_words (op.Ins key value) = codes "ins" ∷ key ∷ value_words value
operation_words (op.Upd key value) = codes "upd" ∷ key ∷ value_words value
operation_words (op.Del key) = codes "del" ∷ key ∷ []

-- the name behind @ of the transaction that an operation belongs to
abbrev pub name_words : Option ℕ → List (List ℕ)
name_words None = []
name_words (Some name) = (64 ∷ decimal name) ∷ []

abbrev pub node_words : Option ℕ → List (List ℕ)
node_words None = []
node_words (Some node) = decimal node ∷ []

-- the words of a command
abbrev pub spelled : Command → List (List ℕ)
spelled (command.Begin name node) = codes "begin" ∷ decimal name ∷ node_words node
spelled (command.Operate name op) = name_words name ++ operation_words op
spelled (command.Commit name) = codes "commit" ∷ decimal name ∷ []
spelled (command.Abort name) = codes "abort" ∷ decimal name ∷ []
spelled command.Batch = codes "batch" ∷ []
spelled command.End = codes "end" ∷ []
spelled (command.Kill node) = codes "kill" ∷ decimal node ∷ []
spelled (command.KillAfter node after) = codes "kill" ∷ decimal node ∷ codes "after" ∷ decimal after ∷ []
spelled (command.Cut one other) = codes "cut" ∷ decimal one ∷ decimal other ∷ []
spelled (command.Tick rounds) = codes "tick" ∷ decimal rounds ∷ []
spelled command.Micro = codes "micro" ∷ []
spelled command.Gcp = codes "gcp" ∷ []
spelled command.Lcp = codes "lcp" ∷ []
spelled (command.Start node) = codes "start" ∷ decimal node ∷ []
spelled command.Crash = codes "crash" ∷ []
spelled command.Restart = codes "restart" ∷ []
spelled (command.Rows node) = codes "rows" ∷ decimal node ∷ []
spelled (command.Digest node) = codes "digest" ∷ decimal node ∷ []
spelled command.View = codes "view" ∷ []
spelled command.Quit = codes "quit" ∷ []

-- the words of a command with one space between each two
abbrev pub line_of : Command → List ℕ
line_of command = join_with_byte 32 (spelled command)

abbrev pub IsName : ℕ → Type 0
IsName name = (1 ≤ name) × (name ≤ 65535)

abbrev pub IsNode : ℕ → ℕ → Type 0
IsNode nodes node = (1 ≤ node) × (node ≤ nodes)

-- 1 to 32 printable bytes without spaces
abbrev pub IsKey : List ℕ → Type 0
IsKey key = if_word 1 KEY_BYTES key key ≡ Ok key

-- at most 200 of them
abbrev pub IsValue : List ℕ → Type 0
IsValue value = if_word 0 VALUE_BYTES value value ≡ Ok value

abbrev pub IsOperation : Op → Type 0
IsOperation (op.Get key) = IsKey key
IsOperation (op.GetX key) = IsKey key
IsOperation (op.Put key value) = IsKey key × IsValue value
IsOperation (op.Ins key value) = IsKey key × IsValue value
IsOperation (op.Upd key value) = IsKey key × IsValue value
IsOperation (op.Del key) = IsKey key

-- a command that may stand in a batch, or outside, for a cluster of so many nodes
abbrev pub IsCommand : Bool → ℕ → Command → Type 0
IsCommand batch nodes (command.Begin name node) = IsName name × IfSome node (IsNode nodes)
IsCommand batch nodes (command.Operate None op) = (batch ≡ false) × IsOperation op
IsCommand batch nodes (command.Operate (Some name) op) = IsName name × IsOperation op
IsCommand batch nodes (command.Commit name) = (batch ≡ false) × IsName name
IsCommand batch nodes (command.Abort name) = (batch ≡ false) × IsName name
IsCommand batch nodes command.Batch = batch ≡ false
IsCommand batch nodes command.End = batch ≡ true
IsCommand batch nodes (command.Kill node) = (batch ≡ false) × IsNode nodes node
IsCommand batch nodes (command.KillAfter node after) = (batch ≡ true) × IsNode nodes node × (after ≤ 100000)
IsCommand batch nodes (command.Cut one other) = (batch ≡ false) × IsNode nodes one × IsNode nodes other
IsCommand batch nodes (command.Tick rounds) = (batch ≡ false) × (1 ≤ rounds) × (rounds ≤ 16)
IsCommand batch nodes command.Micro = Unit {0}
IsCommand batch nodes command.Gcp = Unit {0}
IsCommand batch nodes command.Lcp = Unit {0}
IsCommand batch nodes (command.Start node) = (batch ≡ false) × IsNode nodes node
IsCommand batch nodes command.Crash = batch ≡ false
IsCommand batch nodes command.Restart = batch ≡ false
IsCommand batch nodes (command.Rows node) = (batch ≡ false) × IsNode nodes node
IsCommand batch nodes (command.Digest node) = (batch ≡ false) × IsNode nodes node
IsCommand batch nodes command.View = batch ≡ false
IsCommand batch nodes command.Quit = batch ≡ false

-- a line that is read as a command has that command's words, and the command may stand there
abbrev pub LinesAreSpelled : Type 0
LinesAreSpelled =
    (batch : Bool) (nodes : ℕ) (line : List ℕ) (command : Command) → nodes < 2 ^ 64
    → parsed_line batch nodes line ≡ Ok (Some command)
    → (words (without_return line) ≡ spelled command) × IsCommand batch nodes command

-- a line with the words of a command that may stand there is read as it
abbrev pub SpellingsAreRead : Type 0
SpellingsAreRead =
    (batch : Bool) (nodes : ℕ) (line : List ℕ) (command : Command) → nodes < 2 ^ 64
    → IsCommand batch nodes command → words (without_return line) ≡ spelled command
    → parsed_line batch nodes line ≡ Ok (Some command)

-- no two commands that may stand in one place have the same words
abbrev pub SpellingsDiffer : Type 0
SpellingsDiffer =
    (batch : Bool) (nodes : ℕ) (one other : Command) → nodes < 2 ^ 64
    → IsCommand batch nodes one → IsCommand batch nodes other → spelled one ≡ spelled other → one ≡ other

-- each command that may stand there has a line
abbrev pub CommandsHaveLines : Type 0
CommandsHaveLines =
    (batch : Bool) (nodes : ℕ) (command : Command) → nodes < 2 ^ 64 → IsCommand batch nodes command
    → parsed_line batch nodes (line_of command) ≡ Ok (Some command)
