-- Each command has a line.
use Rattle.std.proofs.Common.{◌≡◌, ℕ, ◌^◌, ◌<◌, ◌≤◌, Bool, true, false, List, [], ◌∷◌, length, refl, arith}
use Rattle.std.specs.Prelude.{None, Some, Option, Ok, Err, position, nat_lt, ◌||◌, if◌then◌else◌}
use Rattle.std.specs.Fmt.{decimal}
use Rattle.std.specs.List.{All, AllByRecursion}
use Rattle.std.specs.Str.Parse.{AllDigits}
use Rattle.std.proofs.lemmas.Bool.{and_from, or_parts, ltb-false, lt-ltb}
use Rattle.std.proofs.lemmas.Fmt.{decimal_is_IsNumeral}
use Rattle.std.proofs.lemmas.List.Elements.{All-weaker}
use Rattle.std.proofs.lemmas.List.Sums.{fails_before_first}
use Rattle.std.proofs.lemmas.Str.Parse.{digit_from_value}
use Rattle.sig_core.specs.declared.op.Op.{Op}
use Rattle.sig_core.specs.declared.op.Op.TheVariants as op
use Rattle.sig_core.specs.declared.word.WordFault.TheVariants.{Length}
use Rattle.sig_core.specs.Word.{if_word, unless_spoilt, is_unprintable}
use Rattle.script_lang.specs.declared.command.Command.{Command}
use Rattle.script_lang.specs.declared.command.Command.TheVariants as commands
use Rattle.script_lang.specs.Spelling.{spelled, line_of, operation_words, value_words, IsName, IsNode, IsKey, IsValue}
use Rattle.script_lang.specs.Spelling.{IsOperation, IsCommand, CommandsHaveLines}
use Rattle.script_lang.specs.Words.{is_word}
use Rattle.script_lang.proofs.SpelledIsRead.{spellings_are_read}
use Rattle.script_lang.proofs.WordCuts.{none_left}
use Rattle.script_lang.proofs.JoinedWords.{are_visible, IsShown, visible_all, words_of_joined}

-- a number is shown
long_word : (word : List ℕ) → 0 < length word → is_word word ≡ true
long_word [] long = absurd (omega arith)
long_word (byte ∷ word) long = refl

digits_visible : (word : List ℕ) → AllDigits 10 word → are_visible word ≡ true
digits_visible [] all = refl
digits_visible (byte ∷ word) all =
    let digit = digit_from_value byte all.0 in
    and_from (nat_lt 32 byte) (are_visible word) (lt-ltb 32 byte (omega (arith, digit.0))) (digits_visible word all.1)

number_shown : (value : ℕ) → value < 2 ^ 64 → IsShown (decimal value)
number_shown value small = let is = decimal_is_IsNumeral value small in
    (long_word (decimal value) is.0.0, digits_visible (decimal value) is.0.1)

name_shown : (name : ℕ) → IsName name → IsShown (decimal name)
name_shown name is = number_shown name (omega arith)

node_shown : (nodes node : ℕ) → nodes < 2 ^ 64 → IsNode nodes node → IsShown (decimal node)
node_shown nodes node small is = number_shown node (omega arith)

-- and so are keys and values
printable : (byte : ℕ) → is_unprintable byte ≡ false → 32 < byte
printable byte e = let low = ltb-false byte 33 (or_parts (nat_lt byte 33) (nat_lt 126 byte) e).0 in omega arith

none_found : (p : ℕ → Bool) (bytes : List ℕ) → position p bytes ≡ None → All (λ byte. p byte ≡ false) bytes
none_found p bytes e = λ k d within. fails_before_first p bytes k d (let past = none_left p bytes e in omega arith)

record IsGoodWord (least : ℕ) (bytes : List ℕ) : Type 0 where
  long : least ≤ length bytes
  visible : are_visible bytes ≡ true

word_taken : (least most : ℕ) (bytes : List ℕ) → if_word least most bytes bytes ≡ Ok bytes → IsGoodWord least bytes
word_taken least most bytes e = by_length (nat_lt (length bytes) least || nat_lt most (length bytes)) refl e
  where
    by_place : (o : Option ℕ) → position is_unprintable bytes ≡ o → unless_spoilt bytes o ≡ Ok bytes
        → least ≤ length bytes → IsGoodWord least bytes
    by_place None is e long =
        record {
          long = long;
          visible = visible_all bytes
              (All-weaker (λ byte. is_unprintable byte ≡ false) (λ byte. 32 < byte) printable bytes
              (none_found is_unprintable bytes is));
        }
    by_place (Some at) is e long = cc

    by_length : (b : Bool) → (nat_lt (length bytes) least || nat_lt most (length bytes)) ≡ b
        → (if b then Err (Length (length bytes)) else unless_spoilt bytes (position is_unprintable bytes)) ≡ Ok bytes
        → IsGoodWord least bytes
    by_length true test e = cc
    by_length false test e =
        by_place (position is_unprintable bytes) refl e
        (ltb-false (length bytes) least
        (or_parts (nat_lt (length bytes) least) (nat_lt most (length bytes)) test).0)

key_shown : (key : List ℕ) → IsKey key → IsShown key
key_shown key is = let good = word_taken 1 32 key is in (long_word key (omega (arith, good.long)), good.visible)

value_shown : (value : List ℕ) → IsValue value → AllByRecursion IsShown (value_words value)
value_shown [] is = tt
value_shown (byte ∷ value) is = ((refl, (word_taken 0 200 (byte ∷ value) is).visible), tt)

operation_shown : (operation : Op) → IsOperation operation → AllByRecursion IsShown (operation_words operation)
operation_shown (op.Get key) is = ((refl, refl), (key_shown key is, tt))
operation_shown (op.GetX key) is = ((refl, refl), (key_shown key is, tt))
operation_shown (op.Put key value) is = ((refl, refl), (key_shown key is.0, value_shown value is.1))
operation_shown (op.Ins key value) is = ((refl, refl), (key_shown key is.0, value_shown value is.1))
operation_shown (op.Upd key value) is = ((refl, refl), (key_shown key is.0, value_shown value is.1))
operation_shown (op.Del key) is = ((refl, refl), (key_shown key is, tt))

spelling_shown : (batch : Bool) (nodes : ℕ) (command : Command) → nodes < 2 ^ 64 → IsCommand batch nodes command
    → AllByRecursion IsShown (spelled command)
spelling_shown batch nodes (commands.Begin name None) small is = ((refl, refl), (name_shown name is.0, tt))
spelling_shown batch nodes (commands.Begin name (Some node)) small is =
    ((refl, refl), (name_shown name is.0, (node_shown nodes node small is.1, tt)))
spelling_shown batch nodes (commands.Operate None operation) small is = operation_shown operation is.1
spelling_shown batch nodes (commands.Operate (Some name) operation) small is =
    ((refl, (name_shown name is.0).1), operation_shown operation is.1)
spelling_shown batch nodes (commands.Commit name) small is = ((refl, refl), (name_shown name is.1, tt))
spelling_shown batch nodes (commands.Abort name) small is = ((refl, refl), (name_shown name is.1, tt))
spelling_shown batch nodes commands.Batch small is = ((refl, refl), tt)
spelling_shown batch nodes commands.End small is = ((refl, refl), tt)
spelling_shown batch nodes (commands.Kill node) small is = ((refl, refl), (node_shown nodes node small is.1, tt))
spelling_shown batch nodes (commands.KillAfter node after) small is =
    ((refl, refl), (node_shown nodes node small is.1, ((refl, refl), (number_shown after (omega (arith, is.2)), tt))))
spelling_shown batch nodes (commands.Cut one other) small is =
    ((refl, refl), (node_shown nodes one small is.1, (node_shown nodes other small is.2, tt)))
spelling_shown batch nodes (commands.Tick rounds) small is =
    ((refl, refl), (number_shown rounds (omega (arith, is.2)), tt))
spelling_shown batch nodes commands.Micro small is = ((refl, refl), tt)
spelling_shown batch nodes commands.Gcp small is = ((refl, refl), tt)
spelling_shown batch nodes commands.Lcp small is = ((refl, refl), tt)
spelling_shown batch nodes (commands.Start node) small is = ((refl, refl), (node_shown nodes node small is.1, tt))
spelling_shown batch nodes commands.Crash small is = ((refl, refl), tt)
spelling_shown batch nodes commands.Restart small is = ((refl, refl), tt)
spelling_shown batch nodes (commands.Rows node) small is = ((refl, refl), (node_shown nodes node small is.1, tt))
spelling_shown batch nodes (commands.Digest node) small is = ((refl, refl), (node_shown nodes node small is.1, tt))
spelling_shown batch nodes commands.View small is = ((refl, refl), tt)
spelling_shown batch nodes commands.Quit small is = ((refl, refl), tt)

pub commands_have_lines : CommandsHaveLines
commands_have_lines batch nodes command small is =
    spellings_are_read batch nodes (line_of command) command small is
    (words_of_joined (spelled command) (spelling_shown batch nodes command small is))
