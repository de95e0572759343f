-- What a row does where it looks for an open transaction.
use Rattle.std.proofs.Common.{◌≡◌, ◌<◌, ℕ, zero, suc, List, [], ◌∷◌, length, Bool, true, false, cond, refl, sym, ap}
use Rattle.std.proofs.Common.{subst, arith}
use Rattle.std.specs.Prelude.{if◌then◌else◌, Option, None, Some, nat_lt, not, position}
use Rattle.std.specs.List.{prefix_len}
use Rattle.std.proofs.lemmas.Bool.Decides.{nat_tests}
use Rattle.run_theory.specs.Counts.{tally}
use Rattle.run_theory.proofs.Focus.{IsFocus, absent, found}
use Rattle.api_block.specs.declared.opened.OpenTransaction.{OpenTransaction}
use Rattle.api_block.specs.Opened.{if_inside, if_there, where_at}

-- what is so of what is said where there is none, and of what is said of each that is found, is so of what is said
pub where_found : {A : Type 0} (p : OpenTransaction → Bool) (xs : List OpenTransaction) (none : A)
    (some : ℕ → OpenTransaction → A) (P : A → Type 0)
    → (tally p xs ≡ 0 → P none) → ((at : ℕ) (f : IsFocus p xs at) → P (some at f.item))
    → P (where_at xs none some (position p xs))
where_found {A} p xs none some P missing present = go (nat_lt (prefix_len (λ x. not (p x)) xs) (length xs)) refl
  where
    go : (b : Bool) → nat_lt (prefix_len (λ x. not (p x)) xs) (length xs) ≡ b
        → P (where_at xs none some (cond b (Some (prefix_len (λ x. not (p x)) xs)) None))
    go true e =
        let f = found p xs (grind (arith, nat_tests, e)) in
        subst (λ o. P (if_there none (some (prefix_len (λ x. not (p x)) xs)) o)) (sym f.get)
        (present (prefix_len (λ x. not (p x)) xs) f)
    go false e = missing (absent p xs (grind (arith, nat_tests, e)))

-- any item
abbrev any : {A : Type 0} → A → Bool
any x = true

-- the item at a place, with what stands before and behind it
at_place : {A : Type 0} (xs : List A) (at : ℕ) → at < length xs → IsFocus any xs at
at_place [] at low = absurd (omega (arith, low))
at_place (x ∷ xs) zero low = record {
  item = x;
  front = [];
  back = xs;
  is = refl;
  passes = refl;
  get = refl;
  set = λ other. refl;
  removed = refl;
}
at_place (x ∷ xs) (suc at) low = further (at_place xs at (omega (arith, low)))
  where
    further : IsFocus any xs at → IsFocus any (x ∷ xs) (suc at)
    further f = record {
      item = f.item;
      front = x ∷ f.front;
      back = f.back;
      is = ap (λ ys. x ∷ ys) f.is;
      passes = refl;
      get = f.get;
      set = λ other. ap (λ ys. x ∷ ys) (f.set other);
      removed = ap (λ ys. x ∷ ys) f.removed;
    }

-- likewise of the one that the last command is about
pub where_own : {A : Type 0} (xs : List OpenTransaction) (none : A) (some : ℕ → OpenTransaction → A) (own : Option ℕ)
    (P : A → Type 0) → P none → ((p : OpenTransaction → Bool) (at : ℕ) (f : IsFocus p xs at) → P (some at f.item))
    → P (where_at xs none some (if_inside xs own))
where_own xs none some None P missing present = missing
where_own {A} xs none some (Some at) P missing present = by (nat_lt at (length xs)) refl
  where
    by : (b : Bool) → nat_lt at (length xs) ≡ b → P (where_at xs none some (if b then Some at else None))
    by true low =
        let f = at_place xs at (grind (arith, nat_tests, low)) in
        subst (λ o. P (if_there none (some at) o)) (sym f.get) (present any at f)
    by false low = missing
