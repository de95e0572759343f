-- How many items of a list pass a test.
use Rattle.std.proofs.Common.{◌≡◌, ◌+◌, ◌≤◌, List, [], ◌∷◌, ◌++◌, Bool, true, false, cond, refl, ap, sym, ◌∙◌, arith}
use Rattle.std.proofs.Common.{inl, inr}
use Rattle.std.specs.Prelude.{◌&&◌}
use Rattle.run_theory.specs.Lists.{Each, IsIn, IsPast}
use Rattle.run_theory.specs.Counts.{one_if, tally}

pub and_few : (a b : Bool) → one_if (a && b) ≤ one_if b
and_few true b = omega arith
and_few false b = omega arith

pub tally_append : {A : Type 0} (p : A → Bool) (xs ys : List A) → tally p (xs ++ ys) ≡ tally p xs + tally p ys
tally_append p [] ys = omega arith
tally_append p (x ∷ xs) ys = omega (arith, tally_append p xs ys)

-- an item between others
pub tally_between : {A : Type 0} (p : A → Bool) (front : List A) (x : A) (back all : List A) → all ≡ front ++ x ∷ back
    → tally p all ≡ tally p (front ++ back) + one_if (p x)
tally_between p front x back all is =
    omega (arith, ap (tally p) is, tally_append p front (x ∷ back), tally_append p front back)

-- an older part has no more
pub tally_past : {A : Type 0} (p : A → Bool) {xs ys : List A} → IsPast xs ys → tally p xs ≤ tally p ys
tally_past p {xs} past = omega (arith, ap (tally p) past.is, tally_append p past.newer xs)

-- an item that passes is counted
pub tally_in : {A : Type 0} (p : A → Bool) (x : A) (xs : List A) → IsIn x xs → p x ≡ true → 1 ≤ tally p xs
tally_in p x [] i e = absurd i
tally_in p x (y ∷ ys) (inl same) e = omega (arith, ap one_if (ap p (sym same) ∙ e))
tally_in p x (y ∷ ys) (inr i) e = omega (arith, tally_in p x ys i e)

-- where some are counted there is one
pub record Counted {A : Type 0} (p : A → Bool) (xs : List A) : Type 0 where
  pub item : A
  pub inside : IsIn item xs
  pub passes : p item ≡ true

pub counted : {A : Type 0} (p : A → Bool) (xs : List A) → 1 ≤ tally p xs → Counted p xs
counted p [] some = absurd (omega (arith, some))
counted p (x ∷ xs) some = go (p x) refl some (counted p xs)
  where
    go : (b : Bool) → p x ≡ b → 1 ≤ cond b 1 0 + tally p xs → (1 ≤ tally p xs → Counted p xs) → Counted p (x ∷ xs)
    go true e some rest = record { item = x; inside = inl refl; passes = e }
    go false e some rest =
        let r = rest (omega (arith, some)) in
        record { item = r.item; inside = inr r.inside; passes = r.passes }

-- of two that pass, where there is no more than one, both are the same
pub only_one : {A : Type 0} (p : A → Bool) (xs : List A) (x y : A) → tally p xs ≤ 1 → IsIn x xs → IsIn y xs → p x ≡ true
    → p y ≡ true → x ≡ y
only_one p [] x y few i j e f = absurd i
only_one p (z ∷ zs) x y few (inl a) (inl b) e f = a ∙ sym b
only_one p (z ∷ zs) x y few (inl a) (inr j) e f =
    let more : 1 ≤ tally p zs = tally_in p y zs j f in
    absurd (omega (arith, few, more, ap one_if (ap p (sym a) ∙ e)))
only_one p (z ∷ zs) x y few (inr i) (inl b) e f =
    let more : 1 ≤ tally p zs = tally_in p x zs i e in
    absurd (omega (arith, few, more, ap one_if (ap p (sym b) ∙ f)))
only_one p (z ∷ zs) x y few (inr i) (inr j) e f = only_one p zs x y (omega (arith, few)) i j e f

-- a test that fails on every item counts none
pub tally_none : {A : Type 0} (p : A → Bool) (xs : List A) → Each (λ x. p x ≡ false) xs → tally p xs ≡ 0
tally_none p [] none = refl
tally_none p (x ∷ xs) none = omega (arith, ap one_if none.0, tally_none p xs none.1)

pub none_if : (a : Bool) → one_if (a && false) + 0 ≡ 0
none_if true = refl
none_if false = refl
