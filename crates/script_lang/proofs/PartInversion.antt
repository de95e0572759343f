-- What the parts of a command are that were read: its words, numbers, keys and values.
use Rattle.std.proofs.Common.{◌≡◌, ℕ, ◌^◌, ◌<◌, ◌≤◌, Bool, true, false, List, [], ◌∷◌, refl, ap, sym, ◌∙◌}
use Rattle.std.specs.Prelude.{Option, None, Some, Result, Ok, Err, codes, length, position, nat_lt, ◌||◌, if◌then◌else◌}
use Rattle.std.specs.List.{slice_split, AllByRecursion}
use Rattle.std.specs.Fmt.{decimal}
use Rattle.std.proofs.lemmas.List.Elements.{filter_passes, recursion_from_All}
use Rattle.sig_core.specs.declared.word.WordFault.{WordFault}
use Rattle.sig_core.specs.declared.word.WordFault.TheVariants.{Length}
use Rattle.sig_core.specs.Word.{if_word, unless_spoilt, is_unprintable}
use Rattle.script_lang.specs.declared.command.Command.{Command}
use Rattle.script_lang.specs.declared.command.Command.TheVariants as commands
use Rattle.script_lang.specs.declared.fault.LineFault.{LineFault}
use Rattle.script_lang.specs.declared.keyword.OpKind.{OpKind}
use Rattle.script_lang.specs.declared.keyword.OpKind.TheVariants as kind
use Rattle.script_lang.specs.Line.{with_number, one_number, made}
use Rattle.script_lang.specs.Number.{number}
use Rattle.script_lang.specs.Operation.{only_key, operands, operate, operate_if, op_with}
use Rattle.script_lang.specs.Words.{words, is_space, is_word, one_word, one_or_two, two_words}
use Rattle.script_lang.specs.Spelling.{operation_words, value_words, IsKey, IsValue, IsOperation}
use Rattle.script_lang.proofs.KeywordInversion.{operation_word}
use Rattle.script_lang.proofs.NumberLaws as numbers

-- words as a line has them: none is empty
abbrev pub AreWords : List (List ℕ) → Type 0
AreWords = AllByRecursion (λ word. is_word word ≡ true)

pub words_of_line : (line : List ℕ) → AreWords (words line)
words_of_line line =
    recursion_from_All (λ word. is_word word ≡ true) (words line) (filter_passes is_word (slice_split is_space line))

abbrev pub good : Command → Result Command LineFault
good command = Ok command

pub good_same : (one other : Command) → good one ≡ good other → one ≡ other
good_same one other e = cc

-- a word that was read as a number, and what it led to
pub record Reads {A : Type 0} (least most : ℕ) (word : List ℕ) (further : ℕ → Result A LineFault) (answer : A) : Type 0
  where
    pub value : ℕ
    pub same : word ≡ decimal value
    pub low : least ≤ value
    pub high : value ≤ most
    pub rest : further value ≡ Ok answer

pub with_number_read : {A : Type 0} (least most : ℕ) (word : List ℕ) (further : ℕ → Result A LineFault) (answer : A)
    → most < 2 ^ 64
    → with_number (number least most word) further ≡ Ok answer → Reads least most word further answer
with_number_read {A} least most word further answer small e = by_number (number least most word) refl e
  where
    by_number : (o : Option ℕ) → number least most word ≡ o → with_number o further ≡ Ok answer
        → Reads least most word further answer
    by_number None is e = cc
    by_number (Some value) is e =
        let found = numbers.spelled least most value word small is in
        record { value = value; same = found.0; low = found.1; high = found.2; rest = e }

-- the one number behind a keyword
pub record ReadsOne (least most : ℕ) (line : List (List ℕ)) (make : ℕ → Command) (command : Command) : Type 0 where
  pub value : ℕ
  pub same : line ≡ decimal value ∷ []
  pub low : least ≤ value
  pub high : value ≤ most
  pub is : make value ≡ command

pub one_number_read : (least most : ℕ) (line : List (List ℕ)) (make : ℕ → Command) (command : Command) → most < 2 ^ 64
    → made make (one_number least most line) ≡ Ok command → ReadsOne least most line make command
one_number_read least most [] make command small e = cc
one_number_read least most (word ∷ []) make command small e = by_number (number least most word) refl e
  where
    by_number : (o : Option ℕ) → number least most word ≡ o → made make (with_number o (λ value. Ok value)) ≡ Ok command
        → ReadsOne least most (word ∷ []) make command
    by_number None is e = cc
    by_number (Some value) is e =
        let found = numbers.spelled least most value word small is in
        record {
          value = value;
          same = ap (λ word. word ∷ []) found.0;
          low = found.1;
          high = found.2;
          is = good_same (make value) command e;
        }
one_number_read least most (word ∷ second ∷ more) make command small e = cc

some_pair : (one other : List ℕ × List ℕ) → Some one ≡ Some other → one ≡ other
some_pair one other e = cc

-- one word, one or two, and two
key_is : (line : List (List ℕ)) (both : List ℕ × List ℕ) → only_key (one_word line) ≡ Some both → line ≡ both.0 ∷ []
key_is [] both e = cc
key_is (first ∷ []) both e = ap (λ both. both.0 ∷ []) (some_pair (first, []) both e)
key_is (first ∷ second ∷ more) both e = cc

pub one_or_two_are : (line : List (List ℕ)) (both : List ℕ × List ℕ) → AreWords line → one_or_two line ≡ Some both
    → line ≡ both.0 ∷ value_words both.1
one_or_two_are [] both all e = cc
one_or_two_are (first ∷ []) both all e = ap (λ both. both.0 ∷ value_words both.1) (some_pair (first, []) both e)
one_or_two_are (first ∷ [] ∷ []) both all e = let empty : false ≡ true = all.1.0 in cc
one_or_two_are (first ∷ (byte ∷ second) ∷ []) both all e =
    ap (λ both. both.0 ∷ value_words both.1) (some_pair (first, byte ∷ second) both e)
one_or_two_are (first ∷ second ∷ third ∷ more) both all e = cc

pub two_words_are : (line : List (List ℕ)) (both : List ℕ × List ℕ) → two_words line ≡ Some both
    → line ≡ both.0 ∷ both.1 ∷ []
two_words_are [] both e = cc
two_words_are (first ∷ []) both e = cc
two_words_are (first ∷ second ∷ []) both e = ap (λ both. both.0 ∷ both.1 ∷ []) (some_pair (first, second) both e)
two_words_are (first ∷ second ∷ third ∷ more) both e = cc

-- the words of an operation
pub operands_spelled : (kind : OpKind) (line : List (List ℕ)) (both : List ℕ × List ℕ) → AreWords line
    → operands kind line ≡ Some both
    → operation_word kind ∷ line ≡ operation_words (op_with kind both.0 both.1)
operands_spelled kind.Get line both all e = ap (λ line. codes "get" ∷ line) (key_is line both e)
operands_spelled kind.GetX line both all e = ap (λ line. codes "getx" ∷ line) (key_is line both e)
operands_spelled kind.Put line both all e = ap (λ line. codes "put" ∷ line) (one_or_two_are line both all e)
operands_spelled kind.Ins line both all e = ap (λ line. codes "ins" ∷ line) (one_or_two_are line both all e)
operands_spelled kind.Upd line both all e = ap (λ line. codes "upd" ∷ line) (one_or_two_are line both all e)
operands_spelled kind.Del line both all e = ap (λ line. codes "del" ∷ line) (key_is line both e)

if_word_same : (least most : ℕ) (bytes got : List ℕ) → if_word least most bytes bytes ≡ Ok got → bytes ≡ got
if_word_same least most bytes got e = by_length (nat_lt (length bytes) least || nat_lt most (length bytes)) e
  where
    by_place : (o : Option ℕ) → unless_spoilt bytes o ≡ Ok got → bytes ≡ got
    by_place None e = cc
    by_place (Some at) e = cc

    by_length : (b : Bool)
        → (if b then Err (Length (length bytes)) else unless_spoilt bytes (position is_unprintable bytes)) ≡ Ok got
        → bytes ≡ got
    by_length true e = cc
    by_length false e = by_place (position is_unprintable bytes) e

-- an operation that was read
pub record Operates (name : Option ℕ) (kind : OpKind) (key value : List ℕ) (command : Command) : Type 0 where
  pub may : IsOperation (op_with kind key value)
  pub is : commands.Operate name (op_with kind key value) ≡ command

is_operation : (kind : OpKind) (key value : List ℕ) → IsKey key → IsValue value → IsOperation (op_with kind key value)
is_operation kind.Get key value is_key is_value = is_key
is_operation kind.GetX key value is_key is_value = is_key
is_operation kind.Put key value is_key is_value = (is_key, is_value)
is_operation kind.Ins key value is_key is_value = (is_key, is_value)
is_operation kind.Upd key value is_key is_value = (is_key, is_value)
is_operation kind.Del key value is_key is_value = is_key

pub operate_read : (name : Option ℕ) (kind : OpKind) (key value : List ℕ) (command : Command)
    → operate name kind key value ≡ Ok command → Operates name kind key value command
operate_read name kind key value command e = by_both (if_word 1 32 key key) (if_word 0 200 value value) refl refl e
  where
    by_both : (k v : Result (List ℕ) WordFault) → if_word 1 32 key key ≡ k → if_word 0 200 value value ≡ v
        → operate_if name kind k v ≡ Ok command → Operates name kind key value command
    by_both (Ok one) (Ok other) is_key is_value e =
        let same : key ≡ one = if_word_same 1 32 key one is_key in
        let others : value ≡ other = if_word_same 0 200 value other is_value in
        record {
          may = is_operation kind key value (is_key ∙ ap Ok (sym same)) (is_value ∙ ap Ok (sym others));
          is = ap (λ key. commands.Operate name (op_with kind key value)) same
              ∙ ap (λ value. commands.Operate name (op_with kind one value)) others
              ∙ good_same (commands.Operate name (op_with kind one other)) command e;
        }
    by_both (Ok one) (Err fault) is_key is_value e = cc
    by_both (Err fault) v is_key is_value e = cc
