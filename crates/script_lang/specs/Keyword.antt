-- The words that name commands.
use Rattle.std.specs.Prelude.{ℕ, Bool, true, not, List, codes, bytes_eq, if◌then◌else◌, Option, None, Some}
use Rattle.script_lang.specs.declared.keyword.OpKind.{OpKind}
use Rattle.script_lang.specs.declared.keyword.OpKind.TheVariants as kind
use Rattle.script_lang.specs.declared.keyword.Keyword.{Keyword}
use Rattle.script_lang.specs.declared.keyword.Keyword.TheVariants.{Operation, Begin, Commit, Abort, Batch, End, Kill}
use Rattle.script_lang.specs.declared.keyword.Keyword.TheVariants.{Cut, Tick, Micro, Gcp, Lcp, Start, Crash, Restart}
use Rattle.script_lang.specs.declared.keyword.Keyword.TheVariants.{Rows, Digest, View, Quit}

-- the operation that a word names
abbrev pub operation_of : List ℕ → Option OpKind
operation_of word =
    if bytes_eq word (codes "get") then Some kind.Get else (
    if bytes_eq word (codes "getx") then Some kind.GetX else (
    if bytes_eq word (codes "put") then Some kind.Put else (
    if bytes_eq word (codes "ins") then Some kind.Ins else (
    if bytes_eq word (codes "upd") then Some kind.Upd else (
    if bytes_eq word (codes "del") then Some kind.Del else (
    None))))))

-- the commands on transactions, batches and the session
abbrev pub transaction_word : List ℕ → Option Keyword
transaction_word word =
    if bytes_eq word (codes "begin") then Some Begin else (
    if bytes_eq word (codes "commit") then Some Commit else (
    if bytes_eq word (codes "abort") then Some Abort else (
    if bytes_eq word (codes "batch") then Some Batch else (
    if bytes_eq word (codes "end") then Some End else (
    if bytes_eq word (codes "tick") then Some Tick else (
    if bytes_eq word (codes "rows") then Some Rows else (
    if bytes_eq word (codes "digest") then Some Digest else (
    if bytes_eq word (codes "quit") then Some Quit else (
    None)))))))))

-- the commands on nodes and checkpoints
abbrev pub operator_word : List ℕ → Option Keyword
operator_word word =
    if bytes_eq word (codes "kill") then Some Kill else (
    if bytes_eq word (codes "cut") then Some Cut else (
    if bytes_eq word (codes "micro") then Some Micro else (
    if bytes_eq word (codes "gcp") then Some Gcp else (
    if bytes_eq word (codes "lcp") then Some Lcp else (
    if bytes_eq word (codes "start") then Some Start else (
    if bytes_eq word (codes "crash") then Some Crash else (
    if bytes_eq word (codes "restart") then Some Restart else (
    if bytes_eq word (codes "view") then Some View else (
    None)))))))))

abbrev pub keyword_else : Option Keyword → Option Keyword → Option Keyword
keyword_else (Some keyword) other = Some keyword
keyword_else None other = other

abbrev pub keyword_by : Option OpKind → List ℕ → Option Keyword
keyword_by (Some kind) word = Some (Operation kind)
keyword_by None word = keyword_else (transaction_word word) (operator_word word)

-- what a word names
abbrev pub keyword_of : List ℕ → Option Keyword
keyword_of word = keyword_by (operation_of word) word

-- whether a line may begin so, in a batch or outside
abbrev pub is_in : Bool → Keyword → Bool
is_in batch Begin = true
is_in batch Kill = true
is_in batch Micro = true
is_in batch Gcp = true
is_in batch Lcp = true
is_in batch End = batch
is_in batch keyword = not batch
