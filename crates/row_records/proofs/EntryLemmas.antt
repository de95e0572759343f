-- The entry of a map where a key that passes a test is found first.
use Rattle.std.proofs.Common.{◌≡◌, ℕ, zero, suc, Bool, true, false, List, [], ◌∷◌, arith, refl, ap, sym, ◌∙◌}
use Rattle.std.specs.Prelude.{Option, None, Some, position, slice_get}
use Rattle.std.specs.Map.{keys_of, lookup, values_of}
use Rattle.sig_core.proofs.Firsts.{place_by, position-cons}
use Rattle.indexmap.proofs.MapLemmas.{Found-position, Missing-position}

behind : (rest : Option ℕ) (at : ℕ) → place_by false rest ≡ Some (suc at) → rest ≡ Some at
behind None at is = cc
behind (Some before) at is = let same_place : suc before ≡ suc at = cc in ap (λ n. Some n) (omega (arith, same_place))

never_first : (rest : Option ℕ) → place_by false rest ≡ Some 0 → ⊥
never_first None is = cc
never_first (Some before) is = let same_place : suc before ≡ 0 = cc in omega (arith, same_place)

module _ {K V : Type 0} (test : K → Bool) where
  -- an entry with this value, and a key that passes
  pub record HasEntry (entries : List (K × V)) (at : ℕ) (value : V) : Type 0 where
    pub key : K
    pub there : slice_get entries at ≡ Some (key, value)
    pub passes : test key ≡ true

  pub entry_found : (entries : List (K × V)) (at : ℕ) (value : V) → position test (keys_of entries) ≡ Some at
      → slice_get (values_of entries) at ≡ Some value → HasEntry entries at value
  entry_found [] at value place is = cc
  entry_found (entry ∷ entries) zero value place is = by (test entry.0) refl
    where
      by : (b : Bool) → test entry.0 ≡ b → HasEntry (entry ∷ entries) 0 value
      by true passes =
          let one : entry.1 ≡ value = cc in
          record { key = entry.0; there = ap (λ v. Some (entry.0, v)) one; passes = passes }
      by false passes =
          absurd (never_first (position test (keys_of entries))
          (sym (ap (λ b. place_by b (position test (keys_of entries))) passes)
          ∙ sym (position-cons test entry.0 (keys_of entries)) ∙ place))
  entry_found (entry ∷ entries) (suc at) value place is =
      by (test entry.0) refl (entry_found entries at value)
    where
      by : (b : Bool) → test entry.0 ≡ b
          → (position test (keys_of entries) ≡ Some at → slice_get (values_of entries) at ≡ Some value → HasEntry
          entries at value)
          → HasEntry (entry ∷ entries) (suc at) value
      by true passes further =
          let first : Some 0 ≡ Some (suc at) =
          sym (ap (λ b. place_by b (position test (keys_of entries))) passes)
          ∙ sym (position-cons test entry.0 (keys_of entries)) ∙ place in
          let same_place : 0 ≡ suc at = cc in
          absurd (omega (arith, same_place))
      by false passes further =
          let found = further (behind (position test (keys_of entries)) at
          (sym (ap (λ b. place_by b (position test (keys_of entries))) passes)
          ∙ sym (position-cons test entry.0 (keys_of entries)) ∙ place)) is in
          record { key = found.key; there = found.there; passes = found.passes }

  -- the look-up finds nothing where nothing stands
  pub none_found : (entries : List (K × V)) → position test (keys_of entries) ≡ None → lookup test entries ≡ None
  none_found entries place = (Missing-position test entries place).value
