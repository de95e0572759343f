-- A kind that stands in front of something, and the count that stands in front of the items of a list.
use Rattle.std.proofs.Common.{◌≡◌, ℕ, List, [], refl, ap, ◌∙◌}
use Rattle.std.specs.Prelude.{Result, Ok, Err}
use Rattle.redo_format.specs.Reading.{◌>>=◌, and_then, told, byte_at}
use Rattle.trace_bytes.specs.Numbers.{u64_at}
use Rattle.trace_bytes.specs.Lists.{more_at, list_at, few_at, short_list_at}

-- with a kind in front, and then without it
abbrev pub with_kind : {A : Type 0} → ℕ → A × List ℕ → Result ((ℕ × A) × List ℕ) ℕ
with_kind kind y = Ok ((kind, y.0), y.1)

abbrev pub without_kind : {A : Type 0} → (ℕ × A) × List ℕ → Result (A × List ℕ) ℕ
without_kind z = Ok (z.0.1, z.1)

abbrev pub past_kind : {A : Type 0} → ℕ → Result (A × List ℕ) ℕ → Result (A × List ℕ) ℕ
past_kind kind read = (read >>= with_kind kind) >>= without_kind

-- with it and without it
told_back : {B : Type 0} (n : ℕ) (r : Result (B × List ℕ) ℕ) → past_kind n r ≡ r
told_back n (Ok y) = refl
told_back n (Err left) = refl

-- what is read behind a kind
pub behind_kind : {A : Type 0} (least most : ℕ) (of : ℕ → List ℕ → Result (A × List ℕ) ℕ) (bytes rest : List ℕ)
    (kind : ℕ)
    → byte_at least most bytes ≡ Ok (kind, rest)
    → told (λ x. x.1) (and_then (byte_at least most) of) bytes ≡ of kind rest
behind_kind least most of bytes rest kind e =
    ap (λ (found : Result (ℕ × List ℕ) ℕ). (found >>= λ x. of x.0 x.1 >>= with_kind x.0) >>= without_kind) e
    ∙ told_back kind (of kind rest)

abbrev pub Item : Type 0 → Type 0
Item A = List ℕ → Result (A × List ℕ) ℕ

abbrev counted : {A : Type 0} → Item A → ℕ × List ℕ → Result ((ℕ × List A) × List ℕ) ℕ
counted item x = more_at item [] x.0 x.1 >>= with_kind x.0

abbrev items_of : {A : Type 0} → Item A → Result (ℕ × List ℕ) ℕ → Result (List A × List ℕ) ℕ
items_of item found = (found >>= counted item) >>= without_kind

-- behind the count the items stand
pub list_is : {A : Type 0} (item : Item A) (bytes rest : List ℕ) (count : ℕ) → u64_at bytes ≡ Ok (count, rest)
    → list_at item bytes ≡ more_at item [] count rest
unfolding list_at
list_is item bytes rest count is = ap (items_of item) is ∙ told_back count (more_at item [] count rest)

pub short_list_is : {A : Type 0} (most : ℕ) (item : Item A) (bytes rest : List ℕ) (count : ℕ)
    → few_at most bytes ≡ Ok (count, rest)
    → short_list_at most item bytes ≡ more_at item [] count rest
unfolding short_list_at
short_list_is most item bytes rest count is = ap (items_of item) is ∙ told_back count (more_at item [] count rest)
