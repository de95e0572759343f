-- What a word is that names an operation or a command.
use Rattle.std.proofs.Common.{◌≡◌, ℕ, Bool, true, false, List, refl, ap, ◌∙◌}
use Rattle.std.specs.Prelude.{codes, bytes_eq, if◌then◌else◌, Option, None, Some}
use Rattle.std.proofs.lemmas.Slice.Eq.{bytes_eq-Decides}
use Rattle.script_lang.specs.declared.keyword.OpKind.{OpKind}
use Rattle.script_lang.specs.declared.keyword.OpKind.TheVariants as kind
use Rattle.script_lang.specs.declared.keyword.Keyword.{Keyword}
use Rattle.script_lang.specs.declared.keyword.Keyword.TheVariants as keyword
use Rattle.script_lang.specs.Keyword.{operation_of, transaction_word, operator_word, keyword_else, keyword_by}
use Rattle.script_lang.specs.Keyword.{keyword_of}

abbrev pub operation_word : OpKind → List ℕ
operation_word kind.Get = codes "get"
operation_word kind.GetX = codes "getx"
operation_word kind.Put = codes "put"
operation_word kind.Ins = codes "ins"
operation_word kind.Upd = codes "upd"
operation_word kind.Del = codes "del"

abbrev pub keyword_word : Keyword → List ℕ
keyword_word (keyword.Operation kind) = operation_word kind
keyword_word keyword.Begin = codes "begin"
keyword_word keyword.Commit = codes "commit"
keyword_word keyword.Abort = codes "abort"
keyword_word keyword.Batch = codes "batch"
keyword_word keyword.End = codes "end"
keyword_word keyword.Kill = codes "kill"
keyword_word keyword.Cut = codes "cut"
keyword_word keyword.Tick = codes "tick"
keyword_word keyword.Micro = codes "micro"
keyword_word keyword.Gcp = codes "gcp"
keyword_word keyword.Lcp = codes "lcp"
keyword_word keyword.Start = codes "start"
keyword_word keyword.Crash = codes "crash"
keyword_word keyword.Restart = codes "restart"
keyword_word keyword.Rows = codes "rows"
keyword_word keyword.Digest = codes "digest"
keyword_word keyword.View = codes "view"
keyword_word keyword.Quit = codes "quit"

-- one test of a chain: what is found is what the word spells, if that holds of the tests behind it
link : {A : Type 0} (spelling : A → List ℕ) (word : List ℕ) (it found : A) (rest : Option A)
    → (rest ≡ Some found → word ≡ spelling found)
    → (if bytes_eq word (spelling it) then Some it else rest) ≡ Some found → word ≡ spelling found
link {A} spelling word it found rest further e = by_test (bytes_eq word (spelling it)) refl e
  where
    by_test : (b : Bool) → bytes_eq word (spelling it) ≡ b → (if b then Some it else rest) ≡ Some found
        → word ≡ spelling found
    by_test true test e = let is : it ≡ found = cc in (bytes_eq-Decides word (spelling it)).0 test ∙ ap spelling is
    by_test false test e = further e

nothing : {A : Type 0} {P : Type 0} (found : A) → None ≡ Some found → P
nothing found e = cc

pub operation_named : (word : List ℕ) (found : OpKind) → operation_of word ≡ Some found → word ≡ operation_word found
operation_named word found =
    link operation_word word kind.Get found _ (
    link operation_word word kind.GetX found _ (
    link operation_word word kind.Put found _ (
    link operation_word word kind.Ins found _ (
    link operation_word word kind.Upd found _ (
    link operation_word word kind.Del found _ (
    nothing found))))))

transaction_named : (word : List ℕ) (found : Keyword) → transaction_word word ≡ Some found → word ≡ keyword_word found
transaction_named word found =
    link keyword_word word keyword.Begin found _ (
    link keyword_word word keyword.Commit found _ (
    link keyword_word word keyword.Abort found _ (
    link keyword_word word keyword.Batch found _ (
    link keyword_word word keyword.End found _ (
    link keyword_word word keyword.Tick found _ (
    link keyword_word word keyword.Rows found _ (
    link keyword_word word keyword.Digest found _ (
    link keyword_word word keyword.Quit found _ (
    nothing found)))))))))

operator_named : (word : List ℕ) (found : Keyword) → operator_word word ≡ Some found → word ≡ keyword_word found
operator_named word found =
    link keyword_word word keyword.Kill found _ (
    link keyword_word word keyword.Cut found _ (
    link keyword_word word keyword.Micro found _ (
    link keyword_word word keyword.Gcp found _ (
    link keyword_word word keyword.Lcp found _ (
    link keyword_word word keyword.Start found _ (
    link keyword_word word keyword.Crash found _ (
    link keyword_word word keyword.Restart found _ (
    link keyword_word word keyword.View found _ (
    nothing found)))))))))

some_keyword : (one other : Keyword) → Some one ≡ Some other → one ≡ other
some_keyword one other e = cc

pub keyword_named : (word : List ℕ) (found : Keyword) → keyword_of word ≡ Some found → word ≡ keyword_word found
keyword_named word found e = by_operation (operation_of word) refl e
  where
    by_transaction : (o : Option Keyword) → transaction_word word ≡ o → keyword_else o (operator_word word) ≡ Some found
        → word ≡ keyword_word found
    by_transaction (Some it) is e = transaction_named word it is ∙ ap keyword_word (some_keyword it found e)
    by_transaction None is e = operator_named word found e

    by_operation : (o : Option OpKind) → operation_of word ≡ o → keyword_by o word ≡ Some found
        → word ≡ keyword_word found
    by_operation (Some it) is e =
        operation_named word it is ∙ ap keyword_word (some_keyword (keyword.Operation it) found e)
    by_operation None is e = by_transaction (transaction_word word) refl e
