-- Loops over a list that leave something of each item.
use Rattle.std.proofs.Common.{◌≡◌, ◌<◌, ◌+◌, ◌++◌, ℕ, suc, List, [], ◌∷◌, length, take, drop, map, get_or, slice_set}
use Rattle.std.proofs.Common.{ap, sym, ◌∙◌, arith, append_assoc, drop-cons}
use Rattle.std.proofs.lemmas.List.{take_more_set, drop-set-lt, drop_more}

-- the next item is changed: what was passed and what is left lead to the same list
pub map_one_more : {A : Type 0} (f : A → A) (items : List A) (i : ℕ) (v d : A) → i < length items
    → v ≡ f (get_or items i d)
    → take (i + 1) (slice_set items i v) ++ map f (drop (i + 1) (slice_set items i v))
    ≡ take i items ++ map f (drop i items)
map_one_more f items i v d inside is =
    let next : i + 1 ≡ suc i = omega arith in
    ap (λ xs. xs ++ map f (drop (i + 1) (slice_set items i v))) (take_more_set items i v inside)
    ∙ ap (λ xs. (take i items ++ v ∷ []) ++ map f xs) (drop-set-lt (i + 1) items i v (omega arith))
    ∙ append_assoc (take i items) (v ∷ []) (map f (drop (i + 1) items))
    ∙ ap (λ x. take i items ++ x ∷ map f (drop (i + 1) items)) is
    ∙ ap (λ n. take i items ++ f (get_or items i d) ∷ map f (drop n items)) next
    ∙ ap (λ xs. take i items ++ map f xs) (sym (drop-cons items i d inside))

-- what is made of the next item is put behind the rest: what was put there and what is left lead to the same list
pub push_one_more : {A B : Type 0} (f : A → B) (items : List A) (made : List B) (i : ℕ) (d : A) → i < length items
    → (made ++ f (get_or items i d) ∷ []) ++ map f (drop (i + 1) items) ≡ made ++ map f (drop i items)
push_one_more f items made i d inside =
    append_assoc made (f (get_or items i d) ∷ []) (map f (drop (i + 1) items))
    ∙ ap (λ xs. made ++ map f xs) (sym (drop_more items i d inside))
