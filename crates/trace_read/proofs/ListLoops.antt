-- Lists that are read item by item.
use Rattle.std.proofs.Common.{◌≡◌, ℕ, zero, suc, ◌+◌, ◌-◌, ◌≤◌, ◌<◌, List, [], ◌∷◌, ◌++◌, refl, ap, sym, ◌∙◌, arith}
use Rattle.std.specs.Prelude.{Result, Ok, Err}
use Rattle.redo_format.specs.Reading.{◌>>=◌}
use Rattle.trace_bytes.specs.Numbers.{u64_at}
use Rattle.trace_bytes.specs.Lists.{more_at, list_at, few_at, short_list_at}
use Rattle.trace_bytes.proofs.ListForms.{Item, list_is, short_list_is}
use Rattle.trace_read.specs.declared.stop.Stop.{Stop}
use Rattle.trace_read.specs.Reading.{StopsAt}
use Rattle.trace_read.proofs.Stops.{stops}

-- and all are left
pub list_begins : {A : Type 0} (item : Item A) (bytes rest : List ℕ) (count : ℕ) → u64_at bytes ≡ Ok (count, rest)
    → more_at item [] (count - 0) rest ≡ list_at item bytes
list_begins item bytes rest count is =
    let all : count - 0 ≡ count = omega arith in
    ap (λ n. more_at item [] n rest) all ∙ sym (list_is item bytes rest count is)

pub short_list_begins : {A : Type 0} (most : ℕ) (item : Item A) (bytes rest : List ℕ) (count : ℕ)
    → few_at most bytes ≡ Ok (count, rest)
    → more_at item [] (count - 0) rest ≡ short_list_at most item bytes
short_list_begins most item bytes rest count is =
    let all : count - 0 ≡ count = omega arith in
    ap (λ n. more_at item [] n rest) all ∙ sym (short_list_is most item bytes rest count is)

-- an item is read, and the others are left
pub one_read : {A : Type 0} (item : Item A) (read more : List A) (count at : ℕ) (bytes rest : List ℕ) (x : A)
    (whole : Result (List A × List ℕ) ℕ)
    → more_at item read (count - at) bytes ≡ whole → at < count → item bytes ≡ Ok (x, rest) → more ≡ read ++ x ∷ []
    → more_at item more (count - (at + 1)) rest ≡ whole
unfolding more_at
one_read item read more count at bytes rest x whole leads few is all =
    let left : count - at ≡ suc (count - (at + 1)) = omega (arith, few) in
    ap (λ xs. more_at item xs (count - (at + 1)) rest) all
    ∙ ap (λ found. found >>= λ y. more_at item (read ++ y.0 ∷ []) (count - (at + 1)) y.1) (sym is)
    ∙ ap (λ n. more_at item read n bytes) (sym left)
    ∙ leads

-- an item isn't read
pub none_read : {A : Type 0} (item : Item A) (read : List A) (count at : ℕ) (bytes : List ℕ) (why : Stop)
    (whole : Result (List A × List ℕ) ℕ)
    → more_at item read (count - at) bytes ≡ whole → at < count → StopsAt why (item bytes) → StopsAt why whole
unfolding more_at
none_read item read count at bytes why whole leads few is =
    let left : count - at ≡ suc (count - (at + 1)) = omega (arith, few) in
    let same : (item bytes >>= λ y. more_at item (read ++ y.0 ∷ []) (count - (at + 1)) y.1) ≡ whole =
    ap (λ n. more_at item read n bytes) (sym left) ∙ leads in
    rw (← same) (stops why (item bytes) (λ y. more_at item (read ++ y.0 ∷ []) (count - (at + 1)) y.1) is)

pub left_unread : {A : Type 0} (item : Item A) (read : List A) (count at : ℕ) (bytes : List ℕ) (left : ℕ)
    (whole : Result (List A × List ℕ) ℕ)
    → more_at item read (count - at) bytes ≡ whole → at < count → item bytes ≡ Err left → whole ≡ Err left
unfolding more_at
left_unread item read count at bytes left whole leads few is =
    let more : count - at ≡ suc (count - (at + 1)) = omega (arith, few) in
    sym leads ∙ ap (λ n. more_at item read n bytes) more
    ∙ ap (λ found. found >>= λ y. more_at item (read ++ y.0 ∷ []) (count - (at + 1)) y.1) is

-- no item is left
pub all_read : {A : Type 0} (item : Item A) (read : List A) (count at : ℕ) (bytes : List ℕ)
    (whole : Result (List A × List ℕ) ℕ)
    → more_at item read (count - at) bytes ≡ whole → count ≤ at → whole ≡ Ok (read, bytes)
unfolding more_at
all_read item read count at bytes whole leads none =
    let left : count - at ≡ 0 = omega (arith, none) in
    sym leads ∙ ap (λ n. more_at item read n bytes) left
