-- What a line asks of the session.
use Rattle.std.specs.Prelude.{ℕ, ◌==◌, Bool, true, false, ◌||◌, List, slice_index, codes, bytes_eq, if◌then◌else◌}
use Rattle.std.specs.Prelude.{Option, None, Some, Result, Ok, Err}
use Rattle.script_lang.specs.declared.command.Command.{Command}
use Rattle.script_lang.specs.declared.command.Command.TheVariants as command
use Rattle.script_lang.specs.declared.fault.LineFault.{LineFault}
use Rattle.script_lang.specs.declared.fault.LineFault.TheVariants.{UnknownCommand}
use Rattle.script_lang.specs.Line.{first_word, parsed_line}
use Rattle.shell_top.specs.declared.script.Parsed.{Parsed}
use Rattle.shell_top.specs.declared.script.Parsed.TheVariants.{Nothing, Ask, Quit, Fault}

-- what stands before a comment, and before the name of a transaction
abbrev pub is_sign : List ℕ → Bool
is_sign word = (slice_index word 0 == 35) || (slice_index word 0 == 64)

-- the operations
abbrev pub is_operation : List ℕ → Bool
is_operation word =
    bytes_eq word (codes "get") || bytes_eq word (codes "getx") || bytes_eq word (codes "put")
    || bytes_eq word (codes "ins") || bytes_eq word (codes "upd") || bytes_eq word (codes "del")

-- the other commands that the session serves by now: those on transactions, rows and the session
abbrev pub is_order : List ℕ → Bool
is_order word =
    bytes_eq word (codes "begin") || bytes_eq word (codes "commit") || bytes_eq word (codes "abort")
    || bytes_eq word (codes "tick")
    || bytes_eq word (codes "rows") || bytes_eq word (codes "digest") || bytes_eq word (codes "crash")
    || bytes_eq word (codes "restart") || bytes_eq word (codes "quit")

-- and those on nodes and epochs
abbrev pub is_operator : List ℕ → Bool
is_operator word =
    bytes_eq word (codes "kill") || bytes_eq word (codes "cut") || bytes_eq word (codes "micro")
    || bytes_eq word (codes "gcp") || bytes_eq word (codes "lcp") || bytes_eq word (codes "view")

-- the words that may begin a line by now
abbrev pub is_available : List ℕ → Bool
is_available word = is_sign word || is_operation word || is_order word || is_operator word

abbrev pub may_stand : Option (List ℕ) → Bool
may_stand None = true
may_stand (Some word) = is_available word

-- what a command asks for; those that the session doesn't serve yet are unknown
abbrev pub asked : Command → Parsed
asked command.Quit = Quit
asked (command.Begin name at) = Ask (command.Begin name at)
asked (command.Operate name op) = Ask (command.Operate name op)
asked (command.Commit name) = Ask (command.Commit name)
asked (command.Abort name) = Ask (command.Abort name)
asked (command.Kill at) = Ask (command.Kill at)
asked (command.Cut one other) = Ask (command.Cut one other)
asked (command.Tick rounds) = Ask (command.Tick rounds)
asked command.Micro = Ask command.Micro
asked command.Gcp = Ask command.Gcp
asked command.Lcp = Ask command.Lcp
asked command.View = Ask command.View
asked (command.Rows at) = Ask (command.Rows at)
asked (command.Digest at) = Ask (command.Digest at)
asked command.Crash = Ask command.Crash
asked command.Restart = Ask command.Restart
asked _ = Fault UnknownCommand

abbrev pub parsed_as : Result (Option Command) LineFault → Parsed
parsed_as (Ok None) = Nothing
parsed_as (Ok (Some command)) = asked command
parsed_as (Err fault) = Fault fault

-- what a line of the whole grammar asks for, in a cluster of so many nodes
abbrev pub available : ℕ → List ℕ → Parsed
available nodes line = parsed_as (parsed_line false nodes line)

-- what a line asks for
abbrev pub parsed : ℕ → List ℕ → Parsed
parsed nodes line = if may_stand (first_word line) then available nodes line else Fault UnknownCommand
