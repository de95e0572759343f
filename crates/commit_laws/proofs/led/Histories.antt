-- One entry more: the row that it leaves, and when it is right.
use Rattle.std.proofs.Common.{◌≡◌, ℕ, Bool, true, false, cond, List, [], ◌∷◌, ◌++◌, filter, refl, ap}
use Rattle.std.specs.Prelude.{Option}
use Rattle.sig_core.specs.declared.entry.Entry.{Entry}
use Rattle.key_laws.specs.OneKey.{AreRight, IsRightAt, ops_on, row_after_all, row_at_end}

pub right_last : (key : List ℕ) (row : Option (List ℕ)) (xs : List Entry) (z : Entry) → IsRightAt key row xs
    → AreRight (row_at_end key row xs) (ops_on key z.ops) → IsRightAt key row (xs ++ z ∷ [])
right_last key row [] z right own = (own, tt)
right_last key row (x ∷ xs) z right own =
    (right.0, right_last key (row_after_all row (ops_on key x.ops)) xs z right.1 own)

pub end_last : (key : List ℕ) (row : Option (List ℕ)) (xs : List Entry) (z : Entry)
    → row_at_end key row (xs ++ z ∷ []) ≡ row_after_all (row_at_end key row xs) (ops_on key z.ops)
end_last key row [] z = refl
end_last key row (x ∷ xs) z = end_last key (row_after_all row (ops_on key x.ops)) xs z

-- the last one passes the test or not
pub filter_last : {A : Type 0} (p : A → Bool) (xs : List A) (z : A) → p z ≡ true
    → filter p (xs ++ z ∷ []) ≡ filter p xs ++ z ∷ []
filter_last p [] z is = ap (λ b. cond b (z ∷ []) []) is
filter_last {A} p (x ∷ xs) z is = by (p x) (filter_last p xs z is)
  where
    by : (b : Bool) → filter p (xs ++ z ∷ []) ≡ filter p xs ++ z ∷ []
        → cond b (x ∷ filter p (xs ++ z ∷ [])) (filter p (xs ++ z ∷ []))
        ≡ cond b (x ∷ filter p xs) (filter p xs) ++ z ∷ []
    by true more = ap (λ w. x ∷ w) more
    by false more = more

pub filter_not_last : {A : Type 0} (p : A → Bool) (xs : List A) (z : A) → p z ≡ false
    → filter p (xs ++ z ∷ []) ≡ filter p xs
filter_not_last p [] z is = ap (λ b. cond b (z ∷ []) []) is
filter_not_last p (x ∷ xs) z is = ap (λ w. cond (p x) (x ∷ w) w) (filter_not_last p xs z is)
