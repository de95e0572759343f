-- What std's sort ensures of references, said of what they refer to.
use Rattle.std.proofs.Common.{◌≡◌, ◌∙◌, ℕ, ◌+◌, ◌<◌, Bool, List, [], ◌∷◌, ap, map, length, arith, Ordering}
use Rattle.std.proofs.Common.{Bor}
use Rattle.std.proofs.lemmas.Fn.{always_returns_same}
use Rattle.std.proofs.lemmas.List.{get_or-map, length-map}
use Rattle.std.proofs.lemmas.List.Sorted.{ranks_by}
use Rattle.std.specs.Cmp.{IsStrictWeakOrder}
use Rattle.std.specs.Cmp.Lexicographic.{nat_list_cmp_total}
use Rattle.std.specs.Fn.{Called, ComparesAs, Mut}
use Rattle.std.specs.List.Sorted.{IsSortedBy}
use Rattle.std.specs.Ordering.{is_lt}
use Rattle.row_map.proofs.HashedLemmas.{in_order, is_before}

sorted_map : {X Y : Type 0} (f : X → Y) (lt : Y → Y → Bool) (xs : List X) → IsSortedBy (λ a b. lt (f a) (f b)) xs
    → IsSortedBy lt (map f xs)
sorted_map f lt [] up k d a b = absurd (omega arith)
sorted_map f lt (x ∷ xs) up k d a b =
    let l = x ∷ xs in
    let within : k + 1 < length l = omega (arith, length-map l f) in
    (λ j. lt (get_or-map f l (k + 1) x d within j) (get_or-map f l k x d (omega arith) j)) ∙ up k x a within

-- sorted by a closure that compares the texts of what elements show, they show such as are sorted by their texts
pub in_order_by : {F X Y : Type 0} {g : Mut F (Bor X × (Bor X × Unit {0})) Ordering} {f : F}
    (show : X → Y) (text : Y → List ℕ) (xs : List X)
    → ((lt : X → X → Bool) → IsStrictWeakOrder lt → ComparesAs g lt f → IsSortedBy lt xs)
    → ((a : Bor X × (Bor X × Unit {0})) (r : Ordering) (f' : F) → Called g f a r f'
    → (r ≡ in_order (text (show a.0.now)) (text (show a.1.0.now))) × (f' ≡ f))
    → IsSortedBy (λ a b. is_before (text a) (text b)) (map show xs)
in_order_by {X = X} {g = g} {f = f} show text xs up compares =
    let lt : X → X → Bool = λ x y. is_before (text (show x)) (text (show y)) in
    sorted_map show (λ a b. is_before (text a) (text b)) xs
    (up lt (ranks_by nat_list_cmp_total (λ x. text (show x)))
    (always_returns_same g (λ a r. is_lt r ≡ lt a.0.now a.1.0.now) f
    (λ a r f' called. let is = compares a r f' called in (ap is_lt is.0, is.1))))
