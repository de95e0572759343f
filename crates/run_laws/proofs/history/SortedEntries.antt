-- The entries of a cut stand in the order of their stamps.
use Rattle.std.proofs.Common.{◌≡◌, ◌≤◌, ◌<◌, ℕ, zero, suc, Bool, true, false, cond, ◌&&◌, ◌||◌, List, [], ◌∷◌, ◌++◌}
use Rattle.std.proofs.Common.{filter, refl, sym, ap, ◌∙◌, subst, inl, inr, arith}
use Rattle.std.specs.Prelude.{◌==◌, nat_lt, if◌then◌else◌}
use Rattle.std.proofs.lemmas.Bool.{eqb-true, ltb-false, ltb-true}
use Rattle.run_theory.specs.Lists.{Each, IsIn}
use Rattle.run_theory.proofs.Pasts.{each_filter, each_in, each_map}
use Rattle.sig_core.specs.declared.entry.Entry.{Entry}
use Rattle.world_core.specs.Steps.{HostStep}
use Rattle.world_core.specs.Entries.{entries, entries_of, insert, insert_all, is_before}
use Rattle.world_core.specs.History.{history, is_kept}
use Rattle.world_core.specs.Strict.{StandsBefore}
use Rattle.run_laws.proofs.history.EachEntry.{each_insert}

abbrev pub AreSorted : List Entry → Type 0
AreSorted [] = Unit {0}
AreSorted (a ∷ rest) = Each (λ (b : Entry). a.stamp ≤ b.stamp) rest × AreSorted rest

-- entries of one view compare by their stamps first
before_le : (v w s t h k : ℕ) → v ≡ w → (nat_lt v w || ((v == w) && (nat_lt s t || ((s == t) && nat_lt h k)))) ≡ true
    → s ≤ t
before_le v w s t h k same is = by (nat_lt v w) (v == w) (nat_lt s t) (s == t) (nat_lt h k) refl refl refl is
  where
    by : (a b c d e : Bool) → nat_lt v w ≡ a → nat_lt s t ≡ c → (s == t) ≡ d → (a || (b && (c || (d && e)))) ≡ true
        → s ≤ t
    by true b c d e f g i is = absurd (let lt : v < w = ltb-true v w f in omega (arith, lt, same))
    by false true true d e f g i is = let lt : s < t = ltb-true s t g in omega (arith, lt)
    by false true false true e f g i is = let one : s ≡ t = eqb-true s t i in omega (arith, one)
    by false true false false e f g i is = absurd cc
    by false false c d e f g i is = absurd cc

not_before_le : (v w s t h k : ℕ) → v ≡ w
    → (nat_lt v w || ((v == w) && (nat_lt s t || ((s == t) && nat_lt h k)))) ≡ false → t ≤ s
not_before_le v w s t h k same is = by (nat_lt v w) (v == w) (nat_lt s t) ((s == t) && nat_lt h k) refl refl is
  where
    itself : (v == w) ≡ true
    itself = subst (λ n. (v == n) ≡ true) same (grind arith)

    by : (a b c d : Bool) → (v == w) ≡ b → nat_lt s t ≡ c → (a || (b && (c || d))) ≡ false → t ≤ s
    by true b c d f g is = absurd cc
    by false true true d f g is = absurd cc
    by false true false d f g is = ltb-false s t g
    by false false c d f g is = absurd (let both : true ≡ false = sym itself ∙ f in cc)

-- all are of this view
module _ (number : ℕ) where
  abbrev InView : Entry → Type 0
  InView b = b.view ≡ number

  sorted_insert : (a : Entry) (xs : List Entry) → InView a → Each InView xs → AreSorted xs → AreSorted (insert a xs)
  sorted_insert a [] view views sorted = (tt, tt)
  sorted_insert a (b ∷ rest) view views sorted = go (is_before a b) refl (sorted_insert a rest view views.1 sorted.1)
    where
      go : (test : Bool) → is_before a b ≡ test → AreSorted (insert a rest)
          → AreSorted (if test then a ∷ b ∷ rest else b ∷ insert a rest)
      go true e more =
          let le = before_le a.view b.view a.stamp b.stamp a.host.0 b.host.0 (view ∙ sym views.0) e in (
            (
              le,
              each_map (λ (c : Entry). b.stamp ≤ c.stamp) (λ (c : Entry). a.stamp ≤ c.stamp) rest
                  (λ c lower. omega (arith, le, lower)) sorted.0,
            ),
            sorted,
          )
      go false e more =
          let le = not_before_le a.view b.view a.stamp b.stamp a.host.0 b.host.0 (view ∙ sym views.0) e in
          (each_insert (λ (c : Entry). b.stamp ≤ c.stamp) a rest le sorted.0, more)

  views_all : (xs into : List Entry) → Each InView xs → Each InView into → Each InView (insert_all xs into)
  views_all [] into all rest = rest
  views_all (a ∷ more) into all rest =
      each_insert InView a (insert_all more into) all.0 (views_all more into all.1 rest)

  sorted_all : (xs into : List Entry) → Each InView xs → Each InView into → AreSorted into
      → AreSorted (insert_all xs into)
  sorted_all [] into all views sorted = sorted
  sorted_all (a ∷ more) into all views sorted =
      sorted_insert a (insert_all more into) all.0 (views_all more into all.1 views)
      (sorted_all more into all.1 views sorted)

  views_entries : (n : ℕ) (logs : ℕ → List HostStep) → ((h : ℕ) → Each InView (entries_of h (logs h)))
      → Each InView (entries n logs)
  views_entries zero logs all = tt
  views_entries (suc n) logs all = views_all (entries_of n (logs n)) (entries n logs) (all n) (views_entries n logs all)

  sorted_entries : (n : ℕ) (logs : ℕ → List HostStep) → ((h : ℕ) → Each InView (entries_of h (logs h)))
      → AreSorted (entries n logs)
  sorted_entries zero logs all = tt
  sorted_entries (suc n) logs all = sorted_all (entries_of n (logs n)) (entries n logs) (all n)
      (views_entries n logs all) (sorted_entries n logs all)

  sorted_filter : (p : Entry → Bool) (xs : List Entry) → AreSorted xs → AreSorted (filter p xs)
  sorted_filter p [] sorted = tt
  sorted_filter p (x ∷ xs) sorted = go (p x) (sorted_filter p xs sorted.1)
    where
      go : (b : Bool) → AreSorted (filter p xs) → AreSorted (cond b (x ∷ filter p xs) (filter p xs))
      go true more = (each_filter (λ (b : Entry). x.stamp ≤ b.stamp) p xs sorted.0, more)
      go false more = more

  pub sorted_history : (n : ℕ) (logs : ℕ → List HostStep) → ((h : ℕ) → Each InView (entries_of h (logs h)))
      → AreSorted (history n logs)
  sorted_history n logs all = sorted_filter (is_kept n logs) (entries n logs) (sorted_entries n logs all)

-- an entry of a list, and what is in front of it and behind it
record Splits (b : Entry) (xs : List Entry) : Type 0 where
  front : List Entry
  back : List Entry
  is : xs ≡ front ++ b ∷ back

splits : (b : Entry) (xs : List Entry) → IsIn b xs → Splits b xs
splits b [] inside = absurd inside
splits b (x ∷ xs) (inl same) = record { front = []; back = xs; is = ap (λ y. y ∷ xs) (sym same) }
splits b (x ∷ xs) (inr rest) = let more = splits b xs rest in record {
  front = x ∷ more.front;
  back = more.back;
  is = ap (λ ys. x ∷ ys) more.is;
}

-- of two entries of a sorted list the one with the lesser stamp stands before the other
pub stands_before : (a b : Entry) (xs : List Entry) → AreSorted xs → IsIn a xs → IsIn b xs → a.stamp < b.stamp
    → StandsBefore a b xs
stands_before a b [] sorted left right lt = absurd left
stands_before a b (x ∷ xs) sorted (inl same) (inl other) lt =
    absurd (let one : a.stamp ≡ b.stamp = ap (λ (e : Entry). e.stamp) (same ∙ sym other) in omega (arith, one, lt))
stands_before a b (x ∷ xs) sorted (inl same) (inr rest) lt =
    let split = splits b xs rest in
    record {
      front = [];
      between = split.front;
      back = split.back;
      is = ap (λ y. y ∷ xs) (sym same) ∙ ap (λ ys. a ∷ ys) split.is;
    }
stands_before a b (x ∷ xs) sorted (inr rest) (inl other) lt =
    absurd (let le : x.stamp ≤ a.stamp = each_in (λ (e : Entry). x.stamp ≤ e.stamp) a xs sorted.0 rest in
    let one : b.stamp ≡ x.stamp = ap (λ (e : Entry). e.stamp) other in omega (arith, one, le, lt))
stands_before a b (x ∷ xs) sorted (inr left) (inr right) lt =
    let more = stands_before a b xs sorted.1 left right lt in
    record { front = x ∷ more.front; between = more.between; back = more.back; is = ap (λ ys. x ∷ ys) more.is }
