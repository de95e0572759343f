-- What is read as a command is spelled as it.
use Rattle.std.proofs.Common.{◌≡◌, ℕ, ◌^◌, ◌<◌, ◌≤◌, Bool, true, false, List, [], ◌∷◌, refl, ap, sym, subst, ◌∙◌, lit<}
use Rattle.std.specs.Prelude.{Option, None, Some, IfSome, Result, Ok, Err, codes, bytes_eq, ◌==◌, slice_index}
use Rattle.std.specs.Prelude.{if◌then◌else◌}
use Rattle.std.specs.Fmt.{decimal}
use Rattle.std.proofs.lemmas.Bool.{eqb-true}
use Rattle.std.proofs.lemmas.Slice.Eq.{bytes_eq-Decides}
use Rattle.script_lang.specs.declared.command.Command.{Command}
use Rattle.script_lang.specs.declared.command.Command.TheVariants as commands
use Rattle.script_lang.specs.declared.fault.LineFault.{LineFault}
use Rattle.script_lang.specs.declared.fault.LineFault.TheVariants.{UnknownCommand, BadWord}
use Rattle.script_lang.specs.declared.keyword.Keyword.{Keyword}
use Rattle.script_lang.specs.declared.keyword.Keyword.TheVariants as keyword
use Rattle.script_lang.specs.declared.keyword.OpKind.{OpKind}
use Rattle.script_lang.specs.Keyword.{operation_of, keyword_of, is_in}
use Rattle.script_lang.specs.Line.{with_number, bare, made, begin_at, begin_by, begin, cut_by, cut, kill_at, kill_by}
use Rattle.script_lang.specs.Line.{kill_after, plain_by, plain, named_with, named_by, named, with_keyword, if_known}
use Rattle.script_lang.specs.Line.{command_of, meant, parsed_words, without_return}
use Rattle.script_lang.specs.Number.{number}
use Rattle.script_lang.specs.Operation.{operands, operate, op_with}
use Rattle.script_lang.specs.Words.{words, is_word, one_or_two, two_words}
use Rattle.script_lang.specs.Spelling.{spelled, value_words, node_words, IsNode, IsCommand, LinesAreSpelled}
use Rattle.script_lang.proofs.KeywordInversion.{operation_word, operation_named, keyword_word, keyword_named}
use Rattle.script_lang.proofs.PartInversion.{AreWords, words_of_line, good, good_same, with_number_read}
use Rattle.script_lang.proofs.PartInversion.{one_number_read, one_or_two_are, two_words_are, operands_spelled}
use Rattle.script_lang.proofs.PartInversion.{operate_read}

-- the words are those of a command that may stand here
abbrev AreSpelled : Bool → ℕ → List (List ℕ) → Command → Type 0
AreSpelled batch nodes line command = (line ≡ spelled command) × IsCommand batch nodes command

-- a command that was made is the one that was read
as_made : (batch : Bool) (nodes : ℕ) (line : List (List ℕ)) (made command : Command) → made ≡ command
    → line ≡ spelled made → IsCommand batch nodes made → AreSpelled batch nodes line command
as_made batch nodes line made command is words_are may = subst (AreSpelled batch nodes line) is (words_are, may)

plain_spelled : (nodes : ℕ) (kind : OpKind) (line : List (List ℕ)) (command : Command) → AreWords line
    → plain kind line ≡ Ok command → AreSpelled false nodes (operation_word kind ∷ line) command
plain_spelled nodes kind line command all e = by_operands (operands kind line) refl e
  where
    by_operands : (o : Option (List ℕ × List ℕ)) → operands kind line ≡ o → plain_by kind o ≡ Ok command
        → AreSpelled false nodes (operation_word kind ∷ line) command
    by_operands None is e = cc
    by_operands (Some both) is e =
        let found = operate_read None kind both.0 both.1 command e in
        as_made false nodes (operation_word kind ∷ line) (commands.Operate None (op_with kind both.0 both.1)) command
        found.is (operands_spelled kind line both all is) (refl, found.may)

-- an operation behind a name
named_with_spelled : (batch : Bool) (nodes : ℕ) (digits : List ℕ) (kind : OpKind) (line : List (List ℕ))
    (command : Command) → AreWords line
    → named_with digits kind (operands kind line) ≡ Ok command
    → AreSpelled batch nodes ((64 ∷ digits) ∷ operation_word kind ∷ line) command
named_with_spelled batch nodes digits kind line command all e = by_operands (operands kind line) refl e
  where
    by_operands : (o : Option (List ℕ × List ℕ)) → operands kind line ≡ o → named_with digits kind o ≡ Ok command
        → AreSpelled batch nodes ((64 ∷ digits) ∷ operation_word kind ∷ line) command
    by_operands None is e = cc
    by_operands (Some both) is e =
        let name =
        with_number_read 1 65535 digits (λ value. operate (Some value) kind both.0 both.1) command (lit< tt) e in
        let found = operate_read (Some name.value) kind both.0 both.1 command name.rest in
        as_made batch nodes ((64 ∷ digits) ∷ operation_word kind ∷ line)
        (commands.Operate (Some name.value) (op_with kind both.0 both.1)) command found.is
        (ap (λ digits. (64 ∷ digits) ∷ operation_word kind ∷ line) name.same
        ∙ ap (λ rest. (64 ∷ decimal name.value) ∷ rest) (operands_spelled kind line both all is))
        ((name.low, name.high), found.may)

named_spelled : (batch : Bool) (nodes : ℕ) (digits : List ℕ) (line : List (List ℕ)) (command : Command) → AreWords line
    → named digits line ≡ Ok command → AreSpelled batch nodes ((64 ∷ digits) ∷ line) command
named_spelled batch nodes digits [] command all e = cc
named_spelled batch nodes digits (first ∷ line) command all e = by_kind (operation_of first) refl e
  where
    by_kind : (o : Option OpKind) → operation_of first ≡ o → named_by digits o line ≡ Ok command
        → AreSpelled batch nodes ((64 ∷ digits) ∷ first ∷ line) command
    by_kind None is e = cc
    by_kind (Some kind) is e =
        subst (λ word. AreSpelled batch nodes ((64 ∷ digits) ∷ word ∷ line) command)
        (sym (operation_named first kind is)) (named_with_spelled batch nodes digits kind line command all.1 e)

bare_spelled : (batch : Bool) (nodes : ℕ) (word : List ℕ) (made : Command) (line : List (List ℕ)) (command : Command)
    → word ∷ [] ≡ spelled made → IsCommand batch nodes made
    → bare made line ≡ Ok command → AreSpelled batch nodes (word ∷ line) command
bare_spelled batch nodes word made [] command words_are may e =
    as_made batch nodes (word ∷ []) made command (good_same made command e) words_are may
bare_spelled batch nodes word made (first ∷ more) command words_are may e = cc

-- `T` or `T N`
record ReadsNode (nodes name : ℕ) (word : List ℕ) (command : Command) : Type 0 where
  node : Option ℕ
  same : value_words word ≡ node_words node
  may : IfSome node (IsNode nodes)
  is : commands.Begin name node ≡ command

begin_at_read : (nodes name : ℕ) (word : List ℕ) (command : Command) → nodes < 2 ^ 64
    → begin_at nodes name word ≡ Ok command → ReadsNode nodes name word command
begin_at_read nodes name [] command small e = record {
  node = None;
  same = refl;
  may = tt;
  is = good_same (commands.Begin name None) command e;
}
begin_at_read nodes name (byte ∷ word) command small e =
    let node =
    with_number_read 1 nodes (byte ∷ word) (λ value. good (commands.Begin name (Some value))) command small e in
    record {
      node = Some node.value;
      same = ap (λ word. word ∷ []) node.same;
      may = (node.low, node.high);
      is = good_same (commands.Begin name (Some node.value)) command node.rest;
    }

begin_spelled : (batch : Bool) (nodes : ℕ) (line : List (List ℕ)) (command : Command) → nodes < 2 ^ 64 → AreWords line
    → begin nodes line ≡ Ok command
    → AreSpelled batch nodes (codes "begin" ∷ line) command
begin_spelled batch nodes line command small all e = by_words (one_or_two line) refl e
  where
    by_words : (o : Option (List ℕ × List ℕ)) → one_or_two line ≡ o → begin_by nodes o ≡ Ok command
        → AreSpelled batch nodes (codes "begin" ∷ line) command
    by_words None is e = cc
    by_words (Some both) is e =
        let name = with_number_read 1 65535 both.0 (λ value. begin_at nodes value both.1) command (lit< tt) e in
        let node = begin_at_read nodes name.value both.1 command small name.rest in
        as_made batch nodes (codes "begin" ∷ line) (commands.Begin name.value node.node) command node.is
        (ap (λ line. codes "begin" ∷ line) (one_or_two_are line both all is)
        ∙ ap (λ word. codes "begin" ∷ word ∷ value_words both.1) name.same
        ∙ ap (λ words. codes "begin" ∷ decimal name.value ∷ words) node.same)
        ((name.low, name.high), node.may)

cut_spelled : (nodes : ℕ) (line : List (List ℕ)) (command : Command) → nodes < 2 ^ 64 → cut nodes line ≡ Ok command
    → AreSpelled false nodes (codes "cut" ∷ line) command
cut_spelled nodes line command small e = by_words (two_words line) refl e
  where
    by_words : (o : Option (List ℕ × List ℕ)) → two_words line ≡ o → cut_by nodes o ≡ Ok command
        → AreSpelled false nodes (codes "cut" ∷ line) command
    by_words None is e = cc
    by_words (Some both) is e =
        let one = with_number_read 1 nodes both.0
        (λ one. with_number (number 1 nodes both.1) (λ other. good (commands.Cut one other))) command small e in
        let other =
        with_number_read 1 nodes both.1 (λ other. good (commands.Cut one.value other)) command small one.rest in
        as_made false nodes (codes "cut" ∷ line) (commands.Cut one.value other.value) command
        (good_same (commands.Cut one.value other.value) command other.rest)
        (ap (λ line. codes "cut" ∷ line) (two_words_are line both is)
        ∙ ap (λ word. codes "cut" ∷ word ∷ both.1 ∷ []) one.same
        ∙ ap (λ word. codes "cut" ∷ decimal one.value ∷ word ∷ []) other.same)
        (refl, (one.low, one.high), (other.low, other.high))

-- `N after R`
record ReadsAfter (node : ℕ) (word count : List ℕ) (command : Command) : Type 0 where
  value : ℕ
  is_after : word ≡ codes "after"
  same : count ≡ decimal value
  high : value ≤ 100000
  is : commands.KillAfter node value ≡ command

kill_at_read : (node : ℕ) (word count : List ℕ) (command : Command) → kill_at node word count ≡ Ok command
    → ReadsAfter node word count command
kill_at_read node word count command e = by_word (bytes_eq word (codes "after")) refl e
  where
    by_word : (b : Bool) → bytes_eq word (codes "after") ≡ b
        → (if b then with_number (number 0 100000 count) (λ after. good (commands.KillAfter node after)) else Err
        BadWord) ≡ Ok command → ReadsAfter node word count command
    by_word true is e =
        let after =
        with_number_read 0 100000 count (λ after. good (commands.KillAfter node after)) command (lit< tt) e in
        record {
          value = after.value;
          is_after = (bytes_eq-Decides word (codes "after")).0 is;
          same = after.same;
          high = after.high;
          is = good_same (commands.KillAfter node after.value) command after.rest;
        }
    by_word false is e = cc

kill_after_spelled : (nodes : ℕ) (line : List (List ℕ)) (command : Command) → nodes < 2 ^ 64
    → kill_after nodes line ≡ Ok command → AreSpelled true nodes (codes "kill" ∷ line) command
kill_after_spelled nodes [] command small e = cc
kill_after_spelled nodes (first ∷ line) command small e = by_words (two_words line) refl e
  where
    by_words : (o : Option (List ℕ × List ℕ)) → two_words line ≡ o → kill_by nodes first o ≡ Ok command
        → AreSpelled true nodes (codes "kill" ∷ first ∷ line) command
    by_words None is e = cc
    by_words (Some both) is e =
        let node = with_number_read 1 nodes first (λ value. kill_at value both.0 both.1) command small e in
        let after = kill_at_read node.value both.0 both.1 command node.rest in
        as_made true nodes (codes "kill" ∷ first ∷ line) (commands.KillAfter node.value after.value) command after.is
        (ap (λ word. codes "kill" ∷ word ∷ line) node.same
        ∙ ap (λ line. codes "kill" ∷ decimal node.value ∷ line) (two_words_are line both is)
        ∙ ap (λ word. codes "kill" ∷ decimal node.value ∷ word ∷ both.1 ∷ []) after.is_after
        ∙ ap (λ word. codes "kill" ∷ decimal node.value ∷ codes "after" ∷ word ∷ []) after.same)
        (refl, (node.low, node.high), after.high)

-- what stands behind a keyword, outside a batch
outside_spelled : (nodes : ℕ) (keyword : Keyword) (line : List (List ℕ)) (command : Command) → nodes < 2 ^ 64
    → AreWords line → is_in false keyword ≡ true
    → with_keyword false nodes keyword line ≡ Ok command → AreSpelled false nodes (keyword_word keyword ∷ line) command
outside_spelled nodes (keyword.Operation kind) line command small all may e =
    plain_spelled nodes kind line command all e
outside_spelled nodes keyword.Begin line command small all may e = begin_spelled false nodes line command small all e
outside_spelled nodes keyword.Commit line command small all may e =
    let name = one_number_read 1 65535 line (λ name. commands.Commit name) command (lit< tt) e in
    as_made false nodes (codes "commit" ∷ line) (commands.Commit name.value) command name.is
    (ap (λ line. codes "commit" ∷ line) name.same) (refl, (name.low, name.high))
outside_spelled nodes keyword.Abort line command small all may e =
    let name = one_number_read 1 65535 line (λ name. commands.Abort name) command (lit< tt) e in
    as_made false nodes (codes "abort" ∷ line) (commands.Abort name.value) command name.is
    (ap (λ line. codes "abort" ∷ line) name.same) (refl, (name.low, name.high))
outside_spelled nodes keyword.Batch line command small all may e =
    bare_spelled false nodes (codes "batch") commands.Batch line command refl refl e
outside_spelled nodes keyword.End line command small all may e = cc
outside_spelled nodes keyword.Kill line command small all may e =
    let node = one_number_read 1 nodes line (λ node. commands.Kill node) command small e in
    as_made false nodes (codes "kill" ∷ line) (commands.Kill node.value) command node.is
    (ap (λ line. codes "kill" ∷ line) node.same) (refl, (node.low, node.high))
outside_spelled nodes keyword.Cut line command small all may e = cut_spelled nodes line command small e
outside_spelled nodes keyword.Tick line command small all may e =
    let rounds = one_number_read 1 16 line (λ rounds. commands.Tick rounds) command (lit< tt) e in
    as_made false nodes (codes "tick" ∷ line) (commands.Tick rounds.value) command rounds.is
    (ap (λ line. codes "tick" ∷ line) rounds.same) (refl, rounds.low, rounds.high)
outside_spelled nodes keyword.Micro line command small all may e =
    bare_spelled false nodes (codes "micro") commands.Micro line command refl tt e
outside_spelled nodes keyword.Gcp line command small all may e =
    bare_spelled false nodes (codes "gcp") commands.Gcp line command refl tt e
outside_spelled nodes keyword.Lcp line command small all may e =
    bare_spelled false nodes (codes "lcp") commands.Lcp line command refl tt e
outside_spelled nodes keyword.Start line command small all may e =
    let node = one_number_read 1 nodes line (λ node. commands.Start node) command small e in
    as_made false nodes (codes "start" ∷ line) (commands.Start node.value) command node.is
    (ap (λ line. codes "start" ∷ line) node.same) (refl, (node.low, node.high))
outside_spelled nodes keyword.Crash line command small all may e =
    bare_spelled false nodes (codes "crash") commands.Crash line command refl refl e
outside_spelled nodes keyword.Restart line command small all may e =
    bare_spelled false nodes (codes "restart") commands.Restart line command refl refl e
outside_spelled nodes keyword.Rows line command small all may e =
    let node = one_number_read 1 nodes line (λ node. commands.Rows node) command small e in
    as_made false nodes (codes "rows" ∷ line) (commands.Rows node.value) command node.is
    (ap (λ line. codes "rows" ∷ line) node.same) (refl, (node.low, node.high))
outside_spelled nodes keyword.Digest line command small all may e =
    let node = one_number_read 1 nodes line (λ node. commands.Digest node) command small e in
    as_made false nodes (codes "digest" ∷ line) (commands.Digest node.value) command node.is
    (ap (λ line. codes "digest" ∷ line) node.same) (refl, (node.low, node.high))
outside_spelled nodes keyword.View line command small all may e =
    bare_spelled false nodes (codes "view") commands.View line command refl refl e
outside_spelled nodes keyword.Quit line command small all may e =
    bare_spelled false nodes (codes "quit") commands.Quit line command refl refl e

-- and in a batch
inside_spelled : (nodes : ℕ) (keyword : Keyword) (line : List (List ℕ)) (command : Command) → nodes < 2 ^ 64
    → AreWords line → is_in true keyword ≡ true
    → with_keyword true nodes keyword line ≡ Ok command → AreSpelled true nodes (keyword_word keyword ∷ line) command
inside_spelled nodes keyword.Begin line command small all may e = begin_spelled true nodes line command small all e
inside_spelled nodes keyword.Kill line command small all may e = kill_after_spelled nodes line command small e
inside_spelled nodes keyword.Micro line command small all may e =
    bare_spelled true nodes (codes "micro") commands.Micro line command refl tt e
inside_spelled nodes keyword.Gcp line command small all may e =
    bare_spelled true nodes (codes "gcp") commands.Gcp line command refl tt e
inside_spelled nodes keyword.Lcp line command small all may e =
    bare_spelled true nodes (codes "lcp") commands.Lcp line command refl tt e
inside_spelled nodes keyword.End line command small all may e =
    bare_spelled true nodes (codes "end") commands.End line command refl refl e
inside_spelled nodes _ line command small all may e = cc

keyword_spelled : (batch : Bool) (nodes : ℕ) (keyword : Keyword) (line : List (List ℕ)) (command : Command)
    → nodes < 2 ^ 64 → AreWords line → is_in batch keyword ≡ true
    → with_keyword batch nodes keyword line ≡ Ok command → AreSpelled batch nodes (keyword_word keyword ∷ line) command
keyword_spelled false = outside_spelled
keyword_spelled true = inside_spelled

known_spelled : (batch : Bool) (nodes : ℕ) (first : List ℕ) (line : List (List ℕ)) (command : Command) → nodes < 2 ^ 64
    → AreWords line
    → if_known batch nodes (keyword_of first) line ≡ Ok command → AreSpelled batch nodes (first ∷ line) command
known_spelled batch nodes first line command small all e = by_keyword (keyword_of first) refl e
  where
    by_place : (keyword : Keyword) (b : Bool) → is_in batch keyword ≡ b
        → (if b then with_keyword batch nodes keyword line else Err UnknownCommand) ≡ Ok command
        → AreSpelled batch nodes (keyword_word keyword ∷ line) command
    by_place keyword true may e = keyword_spelled batch nodes keyword line command small all may e
    by_place keyword false may e = cc

    by_keyword : (o : Option Keyword) → keyword_of first ≡ o → if_known batch nodes o line ≡ Ok command
        → AreSpelled batch nodes (first ∷ line) command
    by_keyword None is e = cc
    by_keyword (Some keyword) is e = subst (λ word. AreSpelled batch nodes (word ∷ line) command)
        (sym (keyword_named first keyword is)) (by_place keyword (is_in batch keyword) refl e)

command_spelled : (batch : Bool) (nodes : ℕ) (first : List ℕ) (line : List (List ℕ)) (command : Command)
    → nodes < 2 ^ 64 → is_word first ≡ true → AreWords line
    → command_of batch nodes first line ≡ Ok command → AreSpelled batch nodes (first ∷ line) command
command_spelled batch nodes [] line command small is all e = cc
command_spelled batch nodes (byte ∷ word) line command small is all e = by_byte (byte == 64) refl e
  where
    by_byte : (b : Bool) → (byte == 64) ≡ b
        → (if b then named word line else if_known batch nodes (keyword_of (byte ∷ word)) line) ≡ Ok command
        → AreSpelled batch nodes ((byte ∷ word) ∷ line) command
    by_byte true test e = subst (λ byte. AreSpelled batch nodes ((byte ∷ word) ∷ line) command)
        (sym (eqb-true byte 64 test)) (named_spelled batch nodes word line command all e)
    by_byte false test e = known_spelled batch nodes (byte ∷ word) line command small all e

meant_read : (r : Result Command LineFault) (command : Command) → meant r ≡ Ok (Some command) → r ≡ Ok command
meant_read (Ok made) command e = cc
meant_read (Err fault) command e = cc

words_spelled : (batch : Bool) (nodes : ℕ) (line : List (List ℕ)) (command : Command) → nodes < 2 ^ 64 → AreWords line
    → parsed_words batch nodes line ≡ Ok (Some command) → AreSpelled batch nodes line command
words_spelled batch nodes [] command small all e = cc
words_spelled batch nodes (first ∷ line) command small all e = by_mark (slice_index first 0 == 35) e
  where
    by_mark : (b : Bool) → (if b then Ok None else meant (command_of batch nodes first line)) ≡ Ok (Some command)
        → AreSpelled batch nodes (first ∷ line) command
    by_mark true e = cc
    by_mark false e = command_spelled batch nodes first line command small all.0 all.1
        (meant_read (command_of batch nodes first line) command e)

pub lines_are_spelled : LinesAreSpelled
lines_are_spelled batch nodes line command small e =
    words_spelled batch nodes (words (without_return line)) command small (words_of_line (without_return line)) e
