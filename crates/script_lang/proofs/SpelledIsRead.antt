-- What is spelled as a command is read as it.
use Rattle.std.proofs.Common.{◌≡◌, ℕ, ◌^◌, ◌<◌, Bool, true, false, List, [], ◌∷◌, refl, ap, ◌∙◌, arith}
use Rattle.std.specs.Prelude.{Option, None, Some, Result, Ok, codes}
use Rattle.std.specs.Fmt.{decimal}
use Rattle.sig_core.specs.declared.op.Op.{Op}
use Rattle.sig_core.specs.declared.op.Op.TheVariants as op
use Rattle.sig_core.specs.Word.{if_word}
use Rattle.script_lang.specs.declared.command.Command.{Command}
use Rattle.script_lang.specs.declared.command.Command.TheVariants as commands
use Rattle.script_lang.specs.declared.fault.LineFault.{LineFault}
use Rattle.script_lang.specs.declared.keyword.OpKind.{OpKind}
use Rattle.script_lang.specs.declared.keyword.OpKind.TheVariants as kind
use Rattle.script_lang.specs.Line.{with_number, made, begin_at, kill_at, plain_by, named_with, meant, parsed_words}
use Rattle.script_lang.specs.Number.{number}
use Rattle.script_lang.specs.Operation.{operate, operate_if, op_with}
use Rattle.script_lang.specs.Words.{one_or_two}
use Rattle.script_lang.specs.Spelling.{spelled, operation_words, value_words, IsName, IsNode, IsKey, IsValue}
use Rattle.script_lang.specs.Spelling.{IsOperation, IsCommand, SpellingsAreRead, SpellingsDiffer}
use Rattle.script_lang.proofs.NumberLaws.{read}

name_read : (name : ℕ) → IsName name → number 1 65535 (decimal name) ≡ Some name
name_read name is = read 1 65535 name (omega arith) is.0 is.1

node_read : (nodes node : ℕ) → nodes < 2 ^ 64 → IsNode nodes node → number 1 nodes (decimal node) ≡ Some node
node_read nodes node small is = read 1 nodes node (omega arith) is.0 is.1

-- a command of one number, where that is told
of_number : (make : ℕ → Command) (value : ℕ) (o : Option ℕ) → o ≡ Some value
    → meant (made make (with_number o (λ value. Ok value))) ≡ Ok (Some (make value))
of_number make value o told = ap (λ o. meant (made make (with_number o (λ value. Ok value)))) told

-- `T N`, where the number is told
begin_with : (nodes name node : ℕ) (word : List ℕ) → number 1 nodes word ≡ Some node
    → begin_at nodes name word ≡ Ok (commands.Begin name (Some node))
begin_with nodes name node [] told = cc
begin_with nodes name node (byte ∷ word) told =
    ap (λ o. with_number o (λ value. Ok (commands.Begin name (Some value)))) told

-- a key and a value, or a key whose value is left out
key_and_value : (key value : List ℕ) → one_or_two (key ∷ value_words value) ≡ Some (key, value)
key_and_value key [] = refl
key_and_value key (byte ∷ value) = refl

operated : (name : Option ℕ) (kind : OpKind) (key value : List ℕ) → IsKey key → IsValue value
    → operate name kind key value ≡ Ok (commands.Operate name (op_with kind key value))
operated name kind key value is_key is_value =
    ap (λ r. operate_if name kind r (if_word 0 200 value value)) is_key ∙ ap (operate_if name kind (Ok key)) is_value

plain_read : (kind : OpKind) (key value : List ℕ) → IsKey key → IsValue value
    → meant (plain_by kind (Some (key, value))) ≡ Ok (Some (commands.Operate None (op_with kind key value)))
plain_read kind key value is_key is_value = ap meant (operated None kind key value is_key is_value)

named_read : (name : ℕ) (kind : OpKind) (key value : List ℕ) → IsName name → IsKey key → IsValue value
    → meant (named_with (decimal name) kind (Some (key, value)))
    ≡ Ok (Some (commands.Operate (Some name) (op_with kind key value)))
named_read name kind key value is_name is_key is_value =
    ap (λ o. meant (with_number o (λ name. operate (Some name) kind key value))) (name_read name is_name)
    ∙ ap meant (operated (Some name) kind key value is_key is_value)

plain_words_read : (nodes : ℕ) (operation : Op) → IsOperation operation
    → parsed_words false nodes (operation_words operation) ≡ Ok (Some (commands.Operate None operation))
plain_words_read nodes (op.Get key) is = plain_read kind.Get key [] is refl
plain_words_read nodes (op.GetX key) is = plain_read kind.GetX key [] is refl
plain_words_read nodes (op.Put key value) is =
    ap (λ both. meant (plain_by kind.Put both)) (key_and_value key value) ∙ plain_read kind.Put key value is.0 is.1
plain_words_read nodes (op.Ins key value) is =
    ap (λ both. meant (plain_by kind.Ins both)) (key_and_value key value) ∙ plain_read kind.Ins key value is.0 is.1
plain_words_read nodes (op.Upd key value) is =
    ap (λ both. meant (plain_by kind.Upd both)) (key_and_value key value) ∙ plain_read kind.Upd key value is.0 is.1
plain_words_read nodes (op.Del key) is = plain_read kind.Del key [] is refl

named_words_read : (batch : Bool) (nodes name : ℕ) (operation : Op) → IsName name → IsOperation operation
    → parsed_words batch nodes ((64 ∷ decimal name) ∷ operation_words operation)
    ≡ Ok (Some (commands.Operate (Some name) operation))
named_words_read batch nodes name (op.Get key) is_name is = named_read name kind.Get key [] is_name is refl
named_words_read batch nodes name (op.GetX key) is_name is = named_read name kind.GetX key [] is_name is refl
named_words_read batch nodes name (op.Put key value) is_name is =
    ap (λ both. meant (named_with (decimal name) kind.Put both)) (key_and_value key value)
    ∙ named_read name kind.Put key value is_name is.0 is.1
named_words_read batch nodes name (op.Ins key value) is_name is =
    ap (λ both. meant (named_with (decimal name) kind.Ins both)) (key_and_value key value)
    ∙ named_read name kind.Ins key value is_name is.0 is.1
named_words_read batch nodes name (op.Upd key value) is_name is =
    ap (λ both. meant (named_with (decimal name) kind.Upd both)) (key_and_value key value)
    ∙ named_read name kind.Upd key value is_name is.0 is.1
named_words_read batch nodes name (op.Del key) is_name is = named_read name kind.Del key [] is_name is refl

-- the words are read as the command
abbrev pub IsRead : Bool → ℕ → Command → Type 0
IsRead batch nodes command = parsed_words batch nodes (spelled command) ≡ Ok (Some command)

-- the same, in a batch or outside
there : (batch place : Bool) (nodes : ℕ) (command : Command) → batch ≡ place → IsRead place nodes command
    → IsRead batch nodes command
there batch place nodes command is told = ap (λ b. parsed_words b nodes (spelled command)) is ∙ told

pub words_read : (batch : Bool) (nodes : ℕ) (command : Command) → nodes < 2 ^ 64 → IsCommand batch nodes command
    → IsRead batch nodes command
words_read batch nodes (commands.Begin name None) small is =
    ap (λ o. meant (with_number o (λ value. begin_at nodes value []))) (name_read name is.0)
words_read batch nodes (commands.Begin name (Some node)) small is =
    ap (λ o. meant (with_number o (λ value. begin_at nodes value (decimal node)))) (name_read name is.0)
    ∙ ap meant (begin_with nodes name node (decimal node) (node_read nodes node small is.1))
words_read batch nodes (commands.Operate None operation) small is =
    there batch false nodes (commands.Operate None operation) is.0 (plain_words_read nodes operation is.1)
words_read batch nodes (commands.Operate (Some name) operation) small is =
    named_words_read batch nodes name operation is.0 is.1
words_read batch nodes (commands.Commit name) small is =
    there batch false nodes (commands.Commit name) is.0
    (of_number (λ name. commands.Commit name) name _ (name_read name is.1))
words_read batch nodes (commands.Abort name) small is =
    there batch false nodes (commands.Abort name) is.0
    (of_number (λ name. commands.Abort name) name _ (name_read name is.1))
words_read batch nodes commands.Batch small is = there batch false nodes commands.Batch is refl
words_read batch nodes commands.End small is = there batch true nodes commands.End is refl
words_read batch nodes (commands.Kill node) small is =
    there batch false nodes (commands.Kill node) is.0
    (of_number (λ node. commands.Kill node) node _ (node_read nodes node small is.1))
words_read batch nodes (commands.KillAfter node after) small is =
    there batch true nodes (commands.KillAfter node after) is.0 (
    ap (λ o. meant (with_number o (λ value. kill_at value (codes "after") (decimal after))))
    (node_read nodes node small is.1)
    ∙ ap (λ o. meant (with_number o (λ after. Ok (commands.KillAfter node after))))
    (read 0 100000 after (omega arith) (omega arith) is.2))
words_read batch nodes (commands.Cut one other) small is =
    there batch false nodes (commands.Cut one other) is.0 (
    ap (λ o. meant (with_number o (λ one. with_number (number 1 nodes (decimal other))
    (λ other. Ok (commands.Cut one other))))) (node_read nodes one small is.1)
    ∙ ap (λ o. meant (with_number o (λ other. Ok (commands.Cut one other)))) (node_read nodes other small is.2))
words_read batch nodes (commands.Tick rounds) small is =
    there batch false nodes (commands.Tick rounds) is.0
    (of_number (λ rounds. commands.Tick rounds) rounds _ (read 1 16 rounds (omega arith) is.1 is.2))
words_read batch nodes commands.Micro small is = refl
words_read batch nodes commands.Gcp small is = refl
words_read batch nodes commands.Lcp small is = refl
words_read batch nodes (commands.Start node) small is =
    there batch false nodes (commands.Start node) is.0
    (of_number (λ node. commands.Start node) node _ (node_read nodes node small is.1))
words_read batch nodes commands.Crash small is = there batch false nodes commands.Crash is refl
words_read batch nodes commands.Restart small is = there batch false nodes commands.Restart is refl
words_read batch nodes (commands.Rows node) small is =
    there batch false nodes (commands.Rows node) is.0
    (of_number (λ node. commands.Rows node) node _ (node_read nodes node small is.1))
words_read batch nodes (commands.Digest node) small is =
    there batch false nodes (commands.Digest node) is.0
    (of_number (λ node. commands.Digest node) node _ (node_read nodes node small is.1))
words_read batch nodes commands.View small is = there batch false nodes commands.View is refl
words_read batch nodes commands.Quit small is = there batch false nodes commands.Quit is refl

pub spellings_are_read : SpellingsAreRead
spellings_are_read batch nodes line command small is words_are =
    ap (parsed_words batch nodes) words_are ∙ words_read batch nodes command small is

same_command : (one other : Command) (r : Result (Option Command) LineFault) → r ≡ Ok (Some one) → r ≡ Ok (Some other)
    → one ≡ other
same_command one other r is_one is_other = cc

pub spellings_differ : SpellingsDiffer
spellings_differ batch nodes one other small is_one is_other same =
    same_command one other (parsed_words batch nodes (spelled one)) (words_read batch nodes one small is_one)
    (ap (parsed_words batch nodes) same ∙ words_read batch nodes other small is_other)
