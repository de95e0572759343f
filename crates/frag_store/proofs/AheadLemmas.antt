-- Whether the index leads a key to where it is, or to the least free place.
use Rattle.std.proofs.Common.{◌≡◌, ℕ, Bool, true, false, nat_eq, ◌||◌, List, get_or, refl, ap, sym, ◌∙◌}
use Rattle.std.specs.Prelude.{Option, None, Some}
use Rattle.std.specs.FinMap as map
use Rattle.std.proofs.lemmas.Bool.{eqb-true}
use Rattle.linear_hash.specs.Places as linear_hash
use Rattle.sig_core.specs.Rows.{is_at, place_of}
use Rattle.tuple_pages.specs.Free.{first_free}
use Rattle.tuple_pages.specs.Places.{PagesState}
use Rattle.frag_store.specs.Places.{IsAhead, IsIndexed, ahead_of, places_state}
use Rattle.frag_store.proofs.PlaceLemmas.{elsewhere_spare, eq-self, found_elsewhere, found_nowhere, found_there}
use Rattle.frag_store.proofs.PlaceLemmas.{one_place}

other_of : (b c : Bool) → (b || c) ≡ true → b ≡ false → c ≡ true
other_of true c e off = cc
other_of false true e off = refl
other_of false false e off = cc

or_true : (b c : Bool) → c ≡ true → (b || c) ≡ true
or_true true c e = refl
or_true false true e = refl
or_true false false e = cc

first_of : (b c : Bool) → (b || c) ≡ false → b ≡ false
first_of true c e = cc
first_of false c e = refl

module _ (pages : PagesState) (index : linear_hash.PlaceMap) (spare : Option (List ℕ))
    (is : IsIndexed pages.slots index spare) (key : List ℕ) where
  -- it is led to a place
  module _ (at : ℕ) (leads : map.get index key ≡ Some at) where
    pub right_sound : (is_at key (get_or pages.slots at None) || nat_eq at (first_free pages.slots)) ≡ true
        → place_of pages.slots key ≡ None → IsAhead (places_state pages index spare) key
    right_sound right none = by (is_at key (get_or pages.slots at None)) refl
      where
        by : (b : Bool) → is_at key (get_or pages.slots at None) ≡ b → IsAhead (places_state pages index spare) key
        by true here =
            let both : Some at ≡ None = found_there pages.slots index spare is key at (sym leads) here ∙ none in cc
        by false away =
            let one : spare ≡ Some key = elsewhere_spare pages.slots index spare is key at leads away in
            let place : at ≡ first_free pages.slots =
            eqb-true at (first_free pages.slots) (other_of (is_at key (get_or pages.slots at None))
            (nat_eq at (first_free pages.slots)) right away) in
            record {
              spare = one;
              ahead = ap (ahead_of index) one ∙ leads ∙ ap (λ n. Some n) place;
            }

    pub right_told : IsAhead (places_state pages index spare) key
        → (is_at key (get_or pages.slots at None) || nat_eq at (first_free pages.slots)) ≡ true
    right_told ahead =
        let place : at ≡ first_free pages.slots =
        one_place at (first_free pages.slots) (sym leads ∙ sym (ap (ahead_of index) ahead.spare) ∙ ahead.ahead) in
        or_true (is_at key (get_or pages.slots at None)) (nat_eq at (first_free pages.slots))
        (eq-self at (first_free pages.slots) place)

    pub right_new : (is_at key (get_or pages.slots at None) || nat_eq at (first_free pages.slots)) ≡ false
        → place_of pages.slots key ≡ None
    right_new wrong =
        sym (found_elsewhere pages.slots index spare is key at (sym leads)
        (first_of (is_at key (get_or pages.slots at None)) (nat_eq at (first_free pages.slots)) wrong))

  -- it is led nowhere
  pub nowhere_told : map.get index key ≡ None → IsAhead (places_state pages index spare) key → ⊥
  nowhere_told none ahead =
      let both : None ≡ Some (first_free pages.slots) =
      sym none ∙ sym (ap (ahead_of index) ahead.spare) ∙ ahead.ahead in cc

  pub nowhere_new : map.get index key ≡ None → place_of pages.slots key ≡ None
  nowhere_new none = sym (found_nowhere pages.slots index spare is key (sym none))
