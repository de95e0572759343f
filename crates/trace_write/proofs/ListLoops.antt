-- Lists that are written item by item.
use Rattle.std.proofs.Common.{◌≡◌, ℕ, ◌+◌, ◌≤◌, ◌<◌, List, [], ◌∷◌, ◌++◌, length, get_or, take, ap, sym, ◌∙◌}
use Rattle.std.proofs.Common.{append_assoc, append-nil, add-one}
use Rattle.std.specs.Prelude.{flat_map}
use Rattle.std.proofs.Math.Seq.{take-suc}
use Rattle.std.proofs.lemmas.List.{take_all}
use Rattle.trace_bytes.specs.Numbers.{u64_bytes}
use Rattle.trace_bytes.specs.Lists.{list_bytes}

append_item : {A : Type 0} (spelled : A → List ℕ) (xs : List A) (y : A)
    → flat_map spelled (xs ++ y ∷ []) ≡ flat_map spelled xs ++ spelled y
append_item spelled [] y = append-nil (spelled y)
append_item spelled (x ∷ xs) y =
    ap (λ w. spelled x ++ w) (append_item spelled xs y)
    ∙ sym (append_assoc (spelled x) (flat_map spelled xs) (spelled y))

pub one_written : {A : Type 0} (spelled : A → List ℕ) (items : List A) (at : ℕ) (x : A) (start out more : List ℕ)
    → out ≡ start ++ flat_map spelled (take at items) → at < length items → x ≡ get_or items at x
    → more ≡ out ++ spelled x
    → more ≡ start ++ flat_map spelled (take (at + 1) items)
one_written spelled items at x start out more is few here goes =
    let front : take (at + 1) items ≡ take at items ++ (x ∷ []) =
    rw add-one (take-suc items at x few ∙ ap (λ y. take at items ++ (y ∷ [])) (sym here)) in
    goes
    ∙ ap (λ w. w ++ spelled x) is
    ∙ append_assoc start (flat_map spelled (take at items)) (spelled x)
    ∙ ap (λ w. start ++ w) (sym (append_item spelled (take at items) x))
    ∙ ap (λ xs. start ++ flat_map spelled xs) (sym front)

pub all_written : {A : Type 0} (spelled : A → List ℕ) (items : List A) (at : ℕ) (start front out : List ℕ)
    → out ≡ front ++ flat_map spelled (take at items) → length items ≤ at → front ≡ start ++ u64_bytes (length items)
    → out ≡ start ++ list_bytes spelled items
unfolding list_bytes
all_written spelled items at start front out is all told =
    is
    ∙ ap (λ xs. front ++ flat_map spelled xs) (take_all at items all)
    ∙ ap (λ w. w ++ flat_map spelled items) told
    ∙ append_assoc start (u64_bytes (length items)) (flat_map spelled items)
