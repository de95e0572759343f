-- What a line means.
use Rattle.std.specs.Prelude.{ℕ, ◌-◌, ◌==◌, Bool, true, false, List, [], ◌∷◌, length, take, drop, slice_index, codes}
use Rattle.std.specs.Prelude.{bytes_eq, if◌then◌else◌, Option, None, Some, Result, Ok, Err}
use Rattle.script_lang.specs.declared.command.Command.{Command}
use Rattle.script_lang.specs.declared.command.Command.TheVariants as command
use Rattle.script_lang.specs.declared.fault.LineFault.{LineFault}
use Rattle.script_lang.specs.declared.fault.LineFault.TheVariants.{UnknownCommand, Arity, BadWord, BadNumber}
use Rattle.script_lang.specs.declared.keyword.Keyword.{Keyword}
use Rattle.script_lang.specs.declared.keyword.Keyword.TheVariants as keyword
use Rattle.script_lang.specs.declared.keyword.OpKind.{OpKind}
use Rattle.script_lang.specs.Keyword.{keyword_of, operation_of, is_in}
use Rattle.script_lang.specs.Number.{number}
use Rattle.script_lang.specs.Operation.{operands, operate}
use Rattle.script_lang.specs.Words.{words, no_words, one_word, two_words, one_or_two}

-- names of transactions, and nodes of a cluster of so many
abbrev pub name : List ℕ → Option ℕ
name word = number 1 65535 word

abbrev pub node : ℕ → List ℕ → Option ℕ
node nodes word = number 1 nodes word

-- what a number leads to; a word that is none is a fault
abbrev pub with_number : {A : Type 0} → Option ℕ → (ℕ → Result A LineFault) → Result A LineFault
with_number None further = Err BadNumber
with_number (Some value) further = further value

-- a command without more words
abbrev pub bare : Command → List (List ℕ) → Result Command LineFault
bare command words = if no_words words then Ok command else Err Arity

-- the one number that there is
abbrev pub one_number_by : ℕ → ℕ → Option (List ℕ) → Result ℕ LineFault
one_number_by least most None = Err Arity
one_number_by least most (Some word) = with_number (number least most word) (λ value. Ok value)

abbrev pub one_number : ℕ → ℕ → List (List ℕ) → Result ℕ LineFault
one_number least most words = one_number_by least most (one_word words)

abbrev pub made : (ℕ → Command) → Result ℕ LineFault → Result Command LineFault
made make (Ok value) = Ok (make value)
made make (Err fault) = Err fault

-- `T` or `T N`
abbrev pub begin_at : ℕ → ℕ → List ℕ → Result Command LineFault
begin_at nodes name [] = Ok (command.Begin name None)
begin_at nodes name (byte ∷ word) =
    with_number (node nodes (byte ∷ word)) (λ value. Ok (command.Begin name (Some value)))

abbrev pub begin_by : ℕ → Option (List ℕ × List ℕ) → Result Command LineFault
begin_by nodes None = Err Arity
begin_by nodes (Some both) = with_number (name both.0) (λ value. begin_at nodes value both.1)

abbrev pub begin : ℕ → List (List ℕ) → Result Command LineFault
begin nodes words = begin_by nodes (one_or_two words)

-- `A B`
abbrev pub cut_by : ℕ → Option (List ℕ × List ℕ) → Result Command LineFault
cut_by nodes None = Err Arity
cut_by nodes (Some both) =
    with_number (node nodes both.0) (λ one. with_number (node nodes both.1) (λ other. Ok (command.Cut one other)))

abbrev pub cut : ℕ → List (List ℕ) → Result Command LineFault
cut nodes words = cut_by nodes (two_words words)

-- `N after R`
abbrev pub kill_at : ℕ → List ℕ → List ℕ → Result Command LineFault
kill_at node word count =
    if bytes_eq word (codes "after") then with_number (number 0 100000 count)
    (λ after. Ok (command.KillAfter node after)) else Err BadWord

abbrev pub kill_by : ℕ → List ℕ → Option (List ℕ × List ℕ) → Result Command LineFault
kill_by nodes first None = Err Arity
kill_by nodes first (Some both) = with_number (node nodes first) (λ value. kill_at value both.0 both.1)

abbrev pub kill_after : ℕ → List (List ℕ) → Result Command LineFault
kill_after nodes [] = Err Arity
kill_after nodes (first ∷ words) = kill_by nodes first (two_words words)

abbrev pub kill : Bool → ℕ → List (List ℕ) → Result Command LineFault
kill true nodes words = kill_after nodes words
kill false nodes words = made (λ node. command.Kill node) (one_number 1 nodes words)

-- an operation that is a transaction of its own
abbrev pub plain_by : OpKind → Option (List ℕ × List ℕ) → Result Command LineFault
plain_by kind None = Err Arity
plain_by kind (Some both) = operate None kind both.0 both.1

abbrev pub plain : OpKind → List (List ℕ) → Result Command LineFault
plain kind words = plain_by kind (operands kind words)

-- an operation of a transaction with a name; the name is judged after the number of words
abbrev pub named_with : List ℕ → OpKind → Option (List ℕ × List ℕ) → Result Command LineFault
named_with digits kind None = Err Arity
named_with digits kind (Some both) = with_number (name digits) (λ value. operate (Some value) kind both.0 both.1)

abbrev pub named_by : List ℕ → Option OpKind → List (List ℕ) → Result Command LineFault
named_by digits None words = Err UnknownCommand
named_by digits (Some kind) words = named_with digits kind (operands kind words)

abbrev pub named : List ℕ → List (List ℕ) → Result Command LineFault
named digits [] = Err Arity
named digits (first ∷ words) = named_by digits (operation_of first) words

-- what stands behind a keyword
abbrev pub with_keyword : Bool → ℕ → Keyword → List (List ℕ) → Result Command LineFault
with_keyword batch nodes (keyword.Operation kind) words = plain kind words
with_keyword batch nodes keyword.Begin words = begin nodes words
with_keyword batch nodes keyword.Commit words = made (λ name. command.Commit name) (one_number 1 65535 words)
with_keyword batch nodes keyword.Abort words = made (λ name. command.Abort name) (one_number 1 65535 words)
with_keyword batch nodes keyword.Batch words = bare command.Batch words
with_keyword batch nodes keyword.End words = bare command.End words
with_keyword batch nodes keyword.Kill words = kill batch nodes words
with_keyword batch nodes keyword.Cut words = cut nodes words
with_keyword batch nodes keyword.Tick words = made (λ rounds. command.Tick rounds) (one_number 1 16 words)
with_keyword batch nodes keyword.Micro words = bare command.Micro words
with_keyword batch nodes keyword.Gcp words = bare command.Gcp words
with_keyword batch nodes keyword.Lcp words = bare command.Lcp words
with_keyword batch nodes keyword.Start words = made (λ node. command.Start node) (one_number 1 nodes words)
with_keyword batch nodes keyword.Crash words = bare command.Crash words
with_keyword batch nodes keyword.Restart words = bare command.Restart words
with_keyword batch nodes keyword.Rows words = made (λ node. command.Rows node) (one_number 1 nodes words)
with_keyword batch nodes keyword.Digest words = made (λ node. command.Digest node) (one_number 1 nodes words)
with_keyword batch nodes keyword.View words = bare command.View words
with_keyword batch nodes keyword.Quit words = bare command.Quit words

-- a line that may begin so, in a batch or outside
abbrev pub if_known : Bool → ℕ → Option Keyword → List (List ℕ) → Result Command LineFault
if_known batch nodes None words = Err UnknownCommand
if_known batch nodes (Some keyword) words =
    if is_in batch keyword then with_keyword batch nodes keyword words else Err UnknownCommand

-- a first word that begins with @ is the name of a transaction
abbrev pub command_of : Bool → ℕ → List ℕ → List (List ℕ) → Result Command LineFault
command_of batch nodes first words =
    if slice_index first 0 == 64 then named (drop 1 first) words else if_known batch nodes (keyword_of first) words

abbrev pub meant : Result Command LineFault → Result (Option Command) LineFault
meant (Ok command) = Ok (Some command)
meant (Err fault) = Err fault

-- a first word that begins with # makes a comment of the line
abbrev pub parsed_words : Bool → ℕ → List (List ℕ) → Result (Option Command) LineFault
parsed_words batch nodes [] = Ok None
parsed_words batch nodes (first ∷ rest) =
    if slice_index first 0 == 35 then Ok None else meant (command_of batch nodes first rest)

-- a line without the carriage return at its end
abbrev pub without_return : List ℕ → List ℕ
without_return line = if slice_index line (length line - 1) == 13 then take (length line - 1) line else line

abbrev pub first_of : List (List ℕ) → Option (List ℕ)
first_of [] = None
first_of (first ∷ rest) = Some first

-- the first word of a line
abbrev pub first_word : List ℕ → Option (List ℕ)
first_word line = first_of (words (without_return line))

-- what a line means, in a batch or outside, for a cluster of so many nodes
abbrev pub parsed_line : Bool → ℕ → List ℕ → Result (Option Command) LineFault
parsed_line batch nodes line = parsed_words batch nodes (words (without_return line))
