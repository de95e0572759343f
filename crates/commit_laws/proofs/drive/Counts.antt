-- Of the items of a list that pass a test there is one, which is the first to pass another: when it is taken out none
-- is left.
use Rattle.std.proofs.Common.{◌≡◌, ◌+◌, ◌∙◌, Bool, true, false, List, [], ◌∷◌, sym, ap, arith}
use Rattle.std.proofs.lemmas.Bool.{true≢false}
use Rattle.std.specs.List.{count_by}
use Rattle.std.specs.Prelude.{if◌then◌else◌, Some}
use Rattle.run_theory.proofs.Pasts.{each_map}
use Rattle.run_theory.specs.Lists.{Each}
use Rattle.sig_core.specs.Firsts.{drop_first, first}
use Rattle.tc_block.specs.Complete.{one_if}
use Rattle.outcome_laws.proofs.coordinators.Lists.{count_more, none_passes}

module _ {A : Type 0} (t p : A → Bool) (q : A) (own : t q ≡ true) where
  pub first_dropped : (xs : List A) → first p xs ≡ Some q → count_by t xs ≡ 1 + count_by t (drop_first p xs)
  first_dropped [] is = absurd cc
  first_dropped (x ∷ xs) is = by (p x) is (λ more. first_dropped xs more)
    where
      by : (b : Bool) → (if b then Some x else first p xs) ≡ Some q
          → (first p xs ≡ Some q → count_by t xs ≡ 1 + count_by t (drop_first p xs))
          → count_by t (x ∷ xs) ≡ 1 + count_by t (if b then xs else x ∷ drop_first p xs)
      by true is more =
          let same : x ≡ q = cc in
          count_more t x xs ∙ ap (λ b. one_if b + count_by t xs) (ap t same ∙ own)
      by false is more =
          omega (arith, count_more t x xs, more is, count_more t x (drop_first p xs))

  -- the only one
  pub first_alone : (xs : List A) → first p xs ≡ Some q → count_by t xs ≡ 1 → Each (λ y. t y ≡ true → y ≡ q) xs
  first_alone [] is one = tt
  first_alone (x ∷ xs) is one = by (p x) is (λ more. first_alone xs more)
    where
      by : (b : Bool) → (if b then Some x else first p xs) ≡ Some q
          → (first p xs ≡ Some q → count_by t xs ≡ 1 → Each (λ y. t y ≡ true → y ≡ q) xs)
          → Each (λ y. t y ≡ true → y ≡ q) (x ∷ xs)
      by true is more =
          let same : x ≡ q = cc in (
            (λ passes. same),
            each_map (λ y. t y ≡ false) (λ y. t y ≡ true → y ≡ q) xs
                (λ y off passes. absurd (true≢false (sym passes ∙ off)))
                (none_passes t xs (omega (arith, one, count_more t x xs, ap one_if (ap t same ∙ own)))),
          )
      by false is more =
          let some = first_dropped xs is in (
            (λ passes. absurd (omega (arith, one, count_more t x xs, ap one_if passes, some))),
            more is (omega (arith, one, count_more t x xs, some)),
          )
