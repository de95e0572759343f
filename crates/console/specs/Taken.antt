-- The lines that the session takes.
use Rattle.std.specs.Prelude.{ℕ, ◌==◌, Bool, true, false, not, ◌&&◌, ◌||◌, nat_lt, List, length, slice_index, codes}
use Rattle.std.specs.Prelude.{bytes_eq, Option, None, Some, Result, Ok, Err}
use Rattle.script_lang.specs.declared.command.Command.{Command}
use Rattle.script_lang.specs.declared.command.Command.TheVariants as command
use Rattle.script_lang.specs.declared.fault.LineFault.{LineFault}
use Rattle.script_lang.specs.Line.{first_word, parsed_line}

-- the words that begin an operation
abbrev pub is_operation : List ℕ → Bool
is_operation word =
    bytes_eq word (codes "get") || bytes_eq word (codes "getx") || bytes_eq word (codes "put")
    || bytes_eq word (codes "ins") || bytes_eq word (codes "upd") || bytes_eq word (codes "del")

-- a command on transactions, rows or the session
abbrev pub is_order : List ℕ → Bool
is_order word =
    bytes_eq word (codes "begin") || bytes_eq word (codes "commit") || bytes_eq word (codes "abort")
    || bytes_eq word (codes "tick")
    || bytes_eq word (codes "rows") || bytes_eq word (codes "digest") || bytes_eq word (codes "quit")

-- and one on nodes or epochs
abbrev pub is_operator : List ℕ → Bool
is_operator word =
    bytes_eq word (codes "kill") || bytes_eq word (codes "cut") || bytes_eq word (codes "micro")
    || bytes_eq word (codes "gcp") || bytes_eq word (codes "lcp") || bytes_eq word (codes "view")
    || bytes_eq word (codes "crash") || bytes_eq word (codes "restart")

-- a command that the session serves
abbrev pub is_form : List ℕ → Bool
is_form word = is_operation word || is_order word || is_operator word

-- the line begins with the name of a transaction, or with such a command
abbrev pub may_begin : Option (List ℕ) → Bool
may_begin None = false
may_begin (Some word) = (slice_index word 0 == 64) || is_form word

-- the session serves it
abbrev pub is_served : Command → Bool
is_served command.Quit = true
is_served (command.Begin name at) = true
is_served (command.Operate name op) = true
is_served (command.Commit name) = true
is_served (command.Abort name) = true
is_served (command.Kill at) = true
is_served (command.Cut one other) = true
is_served (command.Tick rounds) = true
is_served command.Micro = true
is_served command.Gcp = true
is_served command.Lcp = true
is_served command.View = true
is_served command.Crash = true
is_served command.Restart = true
is_served (command.Rows at) = true
is_served (command.Digest at) = true
is_served _ = false

-- the grammar takes the line as a command that the session serves
abbrev pub asks : Result (Option Command) LineFault → Bool
asks (Ok None) = false
asks (Ok (Some command)) = is_served command
asks (Err fault) = false

-- a line, without its newline, that the session of so many nodes takes
abbrev pub is_taken : ℕ → List ℕ → Bool
is_taken nodes line =
    not (nat_lt 512 (length line)) && may_begin (first_word line) && asks (parsed_line false nodes line)
