-- Places and the index of their keys.
use Rattle.std.proofs.Common.{◌≡◌, ◌≢◌, ◌<◌, ◌⊎◌, inl, inr, ℕ, zero, suc, Bool, true, false, cond, nat_eq}
use Rattle.std.proofs.Common.{List, [], ◌∷◌, length, get_or, set, refl, ap, sym, ◌∙◌, arith}
use Rattle.std.specs.Prelude.{Option, None, Some, is_some, position}
use Rattle.std.specs.FinMap as map
use Rattle.std.specs.Ordering.{nat_cmp}
use Rattle.std.specs.Cmp.Lexicographic.{slice_cmp}
use Rattle.std.proofs.lemmas.Bool.{cases_eq, eqb-true, false≢true}
use Rattle.std.proofs.lemmas.Bool.Decides.{nat_tests}
use Rattle.std.proofs.lemmas.List.{get_or-set_same, get_or-set_other}
use Rattle.linear_hash.specs.Places as linear_hash
use Rattle.sig_core.specs.declared.rows.Slot.{Slot}
use Rattle.sig_core.specs.Rows.{freed_by, freed_if, has_row, is_at, no_row, place_of, placed, row_in, set_row}
use Rattle.sig_core.specs.Rows.{set_row_by, with_place, with_place_by, with_row}
use Rattle.sig_core.specs.Same.{same_key}
use Rattle.sig_core.proofs.Firsts.{place_by, position-cons}
use Rattle.sig_core.proofs.Keys.{same_key-self}
use Rattle.tuple_pages.specs.Free.{first_free}
use Rattle.tuple_pages.specs.Places.{rewritten}
use Rattle.frag_store.specs.Places.{IsIndexed, ahead_of, is_spare}
use Rattle.row_records.proofs.KeyLemmas.{same}

-- the first item that passes a test, by its place
module _ {X : Type 0} (p : X → Bool) (d : X) where
  pub alone : (xs : List X) (at : ℕ) → p d ≡ false → p (get_or xs at d) ≡ true
      → ((i : ℕ) → p (get_or xs i d) ≡ true → i ≡ at) → position p xs ≡ Some at
  alone [] at off is only = absurd (false≢true (sym off ∙ is))
  alone (x ∷ xs) zero off is only = position-cons p x xs ∙ ap (λ b. place_by b (position p xs)) is
  alone (x ∷ xs) (suc at) off is only = position-cons p x xs ∙ by (p x) refl (alone xs at off is)
    where
      by : (b : Bool) → p x ≡ b → (((i : ℕ) → p (get_or xs i d) ≡ true → i ≡ at) → position p xs ≡ Some at)
          → place_by b (position p xs) ≡ Some (suc at)
      by true e further = absurd (omega (arith, only 0 e))
      by false e further = ap (place_by false) (further (λ i there. omega (arith, only (suc i) there)))

  pub nowhere : (xs : List X) → ((i : ℕ) → p (get_or xs i d) ≡ false) → position p xs ≡ None
  nowhere [] off = refl
  nowhere (x ∷ xs) off =
      position-cons p x xs ∙ ap (λ b. place_by b (position p xs)) (off 0)
      ∙ ap (place_by false) (nowhere xs (λ i. off (suc i)))

  pub there : (xs : List X) (at : ℕ) → position p xs ≡ Some at → p (get_or xs at d) ≡ true
  there [] at e = cc
  there (x ∷ xs) at e = by (p x) refl (position p xs) refl (sym (position-cons p x xs) ∙ e) (there xs)
    where
      by : (b : Bool) → p x ≡ b → (o : Option ℕ) → position p xs ≡ o → place_by b o ≡ Some at
          → ((m : ℕ) → position p xs ≡ Some m → p (get_or xs m d) ≡ true) → p (get_or (x ∷ xs) at d) ≡ true
      by true passes o found e further =
          let first : 0 ≡ at = cc in
          ap (λ n. p (get_or (x ∷ xs) n d)) (sym first) ∙ passes
      by false passes None found e further = cc
      by false passes (Some m) found e further =
          let next : suc m ≡ at = cc in
          ap (λ n. p (get_or (x ∷ xs) n d)) (sym next) ∙ further m found

  pub never : (xs : List X) (i : ℕ) → p d ≡ false → position p xs ≡ None → p (get_or xs i d) ≡ false
  never [] i off none = off
  never (x ∷ xs) i off none = by (p x) refl (position p xs) refl (sym (position-cons p x xs) ∙ none) i (never xs)
    where
      by : (b : Bool) → p x ≡ b → (o : Option ℕ) → position p xs ≡ o → place_by b o ≡ None → (n : ℕ)
          → ((m : ℕ) → p d ≡ false → position p xs ≡ None → p (get_or xs m d) ≡ false) → p (get_or (x ∷ xs) n d) ≡ false
      by true passes o found e n further = cc
      by false passes (Some m) found e n further = cc
      by false passes None found e zero further = passes
      by false passes None found e (suc n) further = further n off found

-- a place that a key is at is among the others, and taken by it
pub at-within : (slots : List (Option Slot)) (key : List ℕ) (at : ℕ) → is_at key (get_or slots at None) ≡ true
    → at < length slots
at-within [] key at is = cc
at-within (slot ∷ slots) key zero is = omega arith
at-within (slot ∷ slots) key (suc at) is = omega (arith, at-within slots key at is)

pub at-taken : (key : List ℕ) (slot : Option Slot) → is_at key slot ≡ true → is_some slot ≡ true
at-taken key None is = cc
at-taken key (Some slot) is = refl

at-rewritten : (key q : List ℕ) (slot : Option Slot) (row : Option (List ℕ)) (epoch : ℕ)
    → is_at q (rewritten slot row epoch) ≡ is_at q slot
at-rewritten key q None row epoch = refl
at-rewritten key q (Some slot) row epoch = refl

row-rewritten : (key : List ℕ) (slot : Option Slot) (row : Option (List ℕ)) (epoch : ℕ) → is_at key slot ≡ true
    → rewritten slot row epoch ≡ Some (with_row key row epoch)
row-rewritten key None row epoch is = cc
row-rewritten key (Some slot) row epoch is = ap (λ k. Some (with_row k row epoch)) (same slot.key key is)

suc-eq : (m n : ℕ) → nat_eq (suc m) (suc n) ≡ nat_eq m n
suc-eq m n = grind (arith, nat_tests)

zero-suc : (n : ℕ) → nat_eq 0 (suc n) ≡ false
zero-suc n = grind (arith, nat_tests)

suc-zero : (n : ℕ) → nat_eq (suc n) 0 ≡ false
suc-zero n = grind (arith, nat_tests)

-- the least free place is taken
pub get-placed : (slots : List (Option Slot)) (slot : Slot) (i : ℕ)
    → get_or (placed slot slots) i None ≡ cond (nat_eq (first_free slots) i) (Some slot) (get_or slots i None)
get-placed [] slot zero = refl
get-placed [] slot (suc i) = sym (ap (λ b. cond b (Some slot) None) (zero-suc i))
get-placed (None ∷ slots) slot zero = refl
get-placed (None ∷ slots) slot (suc i) = sym (ap (λ b. cond b (Some slot) (get_or slots i None)) (zero-suc i))
get-placed (Some other ∷ slots) slot zero =
    sym (ap (λ b. cond b (Some slot) (Some other)) (suc-zero (first_free slots)))
get-placed (Some other ∷ slots) slot (suc i) =
    get-placed slots slot i ∙ sym (ap (λ b. cond b (Some slot) (get_or slots i None)) (suc-eq (first_free slots) i))

pub eq-self : (m n : ℕ) → m ≡ n → nat_eq m n ≡ true
eq-self m n e = grind (arith, nat_tests)

-- one place of two
pub one_place : (m n : ℕ) → ◌≡◌ {A = Option ℕ} (Some m) (Some n) → m ≡ n
one_place m n e = cc

-- the least free place is free
pub free-there : (slots : List (Option Slot)) → ◌≡◌ {A = Option Slot} (get_or slots (first_free slots) None) None
free-there [] = refl
free-there (None ∷ slots) = refl
free-there (Some slot ∷ slots) = free-there slots

-- one key at most is at a place
pub at-same : (key q : List ℕ) (slot : Option Slot) → is_at key slot ≡ true → is_at q slot ≡ same_key key q
at-same key q None is = cc
at-same key q (Some slot) is = ap (λ k. same_key k q) (same slot.key key is)

module _ (slots : List (Option Slot)) (index : linear_hash.PlaceMap) (spare : Option (List ℕ))
    (is : IsIndexed slots index spare) where
  pub found_there : (key : List ℕ) (at : ℕ) → Some at ≡ map.get index key → is_at key (get_or slots at None) ≡ true
      → Some at ≡ place_of slots key
  found_there key at leads here =
      sym (alone (is_at key) None slots at refl here (λ i more. one_place i at (sym (is.leads key i more) ∙ sym leads)))

  pub found_elsewhere : (key : List ℕ) (at : ℕ) → Some at ≡ map.get index key → is_at key (get_or slots at None) ≡ false
      → None ≡ place_of slots key
  found_elsewhere key at leads away =
      sym (nowhere (is_at key) None slots (λ i. by i (is_at key (get_or slots i None)) refl))
    where
      by : (i : ℕ) (b : Bool) → is_at key (get_or slots i None) ≡ b → is_at key (get_or slots i None) ≡ false
      by i true e =
          let one : at ≡ i = one_place at i (leads ∙ is.leads key i e) in
          absurd (false≢true (sym away ∙ ap (λ n. is_at key (get_or slots n None)) one ∙ e))
      by i false e = e

  pub found_nowhere : (key : List ℕ) → None ≡ map.get index key → None ≡ place_of slots key
  found_nowhere key none = sym (nowhere (is_at key) None slots (λ i. by i (is_at key (get_or slots i None)) refl))
    where
      by : (i : ℕ) (b : Bool) → is_at key (get_or slots i None) ≡ b → is_at key (get_or slots i None) ≡ false
      by i true e = let both : Some i ≡ None = sym (is.leads key i e) ∙ sym none in cc
      by i false e = e

  -- a place that is taken is that of its key
  pub own_place : (slot : Slot) (at : ℕ) → get_or slots at None ≡ Some slot → place_of slots slot.key ≡ Some at
  own_place slot at there =
      let here : is_at slot.key (get_or slots at None) ≡ true =
      ap (is_at slot.key) there ∙ same_key-self slot.key in
      sym (found_there slot.key at (sym (is.leads slot.key at here)) here)

  pub is_there : (key : List ℕ) (at : ℕ) → place_of slots key ≡ Some at → is_at key (get_or slots at None) ≡ true
  is_there key at e = there (is_at key) None slots at e

  pub is_taken : (key : List ℕ) (at : ℕ) → place_of slots key ≡ Some at → is_some (get_or slots at None) ≡ true
  is_taken key at e = at-taken key (get_or slots at None) (is_there key at e)

  -- the index changes for a key without a place
  kept-leads : (after : linear_hash.PlaceMap) (key : List ℕ) → place_of slots key ≡ None
      → ((q : List ℕ) → same_key key q ≡ false → map.get after q ≡ map.get index q)
      → (q : List ℕ) (at : ℕ) → is_at q (get_or slots at None) ≡ true → map.get after q ≡ Some at
  kept-leads after key none others q at here = by (same_key key q) refl
    where
      by : (b : Bool) → same_key key q ≡ b → map.get after q ≡ Some at
      by true e =
          let off = never (is_at key) None slots at refl none in
          absurd (false≢true (sym off ∙ ap (λ k. is_at k (get_or slots at None)) (same key q e) ∙ here))
      by false e = others q e ∙ is.leads q at here

  -- which is the spare one then
  pub led_indexed : (after : linear_hash.PlaceMap) (key : List ℕ) → place_of slots key ≡ None → spare ≡ None
      → ((q : List ℕ) → same_key key q ≡ false → map.get after q ≡ map.get index q) → IsIndexed slots after (Some key)
  led_indexed after key none alone others = record {
    leads = kept-leads after key none others;
    no_other = λ q at apart leads.
        is.no_other q at (ap (λ s. is_spare s q) alone) (sym (others q apart) ∙ leads);
  }

  -- the spare key is led nowhere
  pub left_indexed : (after : linear_hash.PlaceMap) (key : List ℕ) → place_of slots key ≡ None → spare ≡ Some key
      → map.get after key ≡ None
      → ((q : List ℕ) → same_key key q ≡ false → map.get after q ≡ map.get index q) → IsIndexed slots after None
  left_indexed after key none one gone others = record {
    leads = kept-leads after key none others;
    no_other = λ q at apart leads. by q at leads (same_key key q) refl;
  }
    where
      by : (q : List ℕ) (at : ℕ) → map.get after q ≡ Some at → (b : Bool) → same_key key q ≡ b
          → is_at q (get_or slots at None) ≡ true
      by q at leads true e =
          let both : Some at ≡ None = sym leads ∙ ap (map.get after) (sym (same key q e)) ∙ gone in cc
      by q at leads false e = is.no_other q at (ap (λ s. is_spare s q) one ∙ e) (sym (others q e) ∙ leads)

  -- the spare key has a place
  pub spare_placed : (key : List ℕ) (at : ℕ) → place_of slots key ≡ Some at → spare ≡ Some key
      → IsIndexed slots index None
  spare_placed key at there one = record {
    leads = is.leads;
    no_other = λ q i apart leads. by q i leads (same_key key q) refl;
  }
    where
      by : (q : List ℕ) (i : ℕ) → map.get index q ≡ Some i → (b : Bool) → same_key key q ≡ b
          → is_at q (get_or slots i None) ≡ true
      by q i leads true e =
          let here = is_there key at there in
          let place : at ≡ i =
          one_place at i (sym (is.leads key at here) ∙ ap (map.get index) (same key q e) ∙ leads) in
          ap (λ k. is_at k (get_or slots i None)) (sym (same key q e))
          ∙ ap (λ n. is_at key (get_or slots n None)) (sym place) ∙ here
      by q i leads false e = is.no_other q i (ap (λ s. is_spare s q) one ∙ e) leads

  -- a key takes the least free place, where the index leads it
  placed_indexed : (key : List ℕ) → map.get index key ≡ Some (first_free slots)
      → IsIndexed (placed (no_row key) slots) index spare
  placed_indexed key leads = record {
    leads = λ q at here. by q at (nat_eq (first_free slots) at) refl
        (sym (ap (is_at q) (get-placed slots (no_row key) at)) ∙ here);
    no_other = λ q at apart led. ap (is_at q) (get-placed slots (no_row key) at)
        ∙ other q at (is.no_other q at apart led) (nat_eq (first_free slots) at) refl;
  }
    where
      by : (q : List ℕ) (at : ℕ) (b : Bool) → nat_eq (first_free slots) at ≡ b
          → is_at q (cond b (Some (no_row key)) (get_or slots at None)) ≡ true → map.get index q ≡ Some at
      by q at true e here =
          ap (map.get index) (sym (same key q here)) ∙ leads ∙ ap (λ n. Some n) (eqb-true (first_free slots) at e)
      by q at false e here = is.leads q at here

      other : (q : List ℕ) (at : ℕ) → is_at q (get_or slots at None) ≡ true → (b : Bool)
          → nat_eq (first_free slots) at ≡ b
          → is_at q (cond b (Some (no_row key)) (get_or slots at None)) ≡ true
      other q at here true e =
          let free : is_at q (get_or slots at None) ≡ false =
          ap (λ n. is_at q (get_or slots n None)) (sym (eqb-true (first_free slots) at e))
          ∙ ap (is_at q) (free-there slots) in
          absurd (false≢true (sym free ∙ here))
      other q at here false e = here

  -- and is the spare one no more
  pub claimed_indexed : (key : List ℕ) → spare ≡ Some key → ahead_of index spare ≡ Some (first_free slots)
      → IsIndexed (placed (no_row key) slots) index None
  claimed_indexed key one ahead = record {
    leads = (placed_indexed key leads).leads;
    no_other = λ q at apart led. by q at led (same_key key q) refl;
  }
    where
      leads : map.get index key ≡ Some (first_free slots)
      leads = sym (ap (ahead_of index) one) ∙ ahead

      by : (q : List ℕ) (at : ℕ) → map.get index q ≡ Some at → (b : Bool) → same_key key q ≡ b
          → is_at q (get_or (placed (no_row key) slots) at None) ≡ true
      by q at led true e =
          let place : first_free slots ≡ at =
          one_place (first_free slots) at (sym leads ∙ ap (map.get index) (same key q e) ∙ led) in
          ap (is_at q) (get-placed slots (no_row key) at)
          ∙ ap (λ b. is_at q (cond b (Some (no_row key)) (get_or slots at None))) (eq-self (first_free slots) at place)
          ∙ e
      by q at led false e = (placed_indexed key leads).no_other q at (ap (λ s. is_spare s q) one ∙ e) led

  -- where no key is spare, one without a place is led nowhere
  pub alone_absent : (key : List ℕ) → spare ≡ None → place_of slots key ≡ None → map.get index key ≡ None
  alone_absent key alone none = by (map.get index key) refl
    where
      by : (o : Option ℕ) → map.get index key ≡ o → map.get index key ≡ None
      by None e = e
      by (Some at) e =
          absurd (false≢true (sym (never (is_at key) None slots at refl none)
          ∙ is.no_other key at (ap (λ s. is_spare s key) alone) e))

  -- a key that is led to where it isn't is the spare one
  pub elsewhere_spare : (key : List ℕ) (at : ℕ) → map.get index key ≡ Some at → is_at key (get_or slots at None) ≡ false
      → spare ≡ Some key
  elsewhere_spare key at leads away = by spare refl
    where
      by : (o : Option (List ℕ)) → spare ≡ o → spare ≡ Some key
      by None e = absurd (false≢true (sym away ∙ is.no_other key at (ap (λ s. is_spare s key) e) leads))
      by (Some other) e = here (same_key other key) refl
        where
          here : (b : Bool) → same_key other key ≡ b → spare ≡ Some key
          here true s = e ∙ ap (λ k. Some k) (same other key s)
          here false s =
              absurd (false≢true (sym away ∙ is.no_other key at (ap (λ o. is_spare o key) e ∙ s) leads))

  -- its row is written
  at-written : (key q : List ℕ) (at i : ℕ) (row : Option (List ℕ)) (epoch : ℕ) → place_of slots key ≡ Some at
      → is_at q (get_or (set slots at (rewritten (get_or slots at None) row epoch)) i None)
      ≡ is_at q (get_or slots i None)
  at-written key q at i row epoch e = by (cases_eq i at)
    where
      by : (i ≡ at) ⊎ (i ≢ at)
          → is_at q (get_or (set slots at (rewritten (get_or slots at None) row epoch)) i None)
          ≡ is_at q (get_or slots i None)
      by (inl one) =
          ap (λ n. is_at q (get_or (set slots at (rewritten (get_or slots at None) row epoch)) n None)) one
          ∙ ap (is_at q) (get_or-set_same slots at (rewritten (get_or slots at None) row epoch) None
          (at-within slots key at (is_there key at e)))
          ∙ at-rewritten key q (get_or slots at None) row epoch ∙ ap (λ n. is_at q (get_or slots n None)) (sym one)
      by (inr other) =
          ap (is_at q) (get_or-set_other slots at i (rewritten (get_or slots at None) row epoch) None other)

  pub rewritten_indexed : (key : List ℕ) (at : ℕ) (row : Option (List ℕ)) (epoch : ℕ) → place_of slots key ≡ Some at
      → IsIndexed (set slots at (rewritten (get_or slots at None) row epoch)) index spare
  rewritten_indexed key at row epoch e = record {
    leads = λ q i here. is.leads q i (sym (at-written key q at i row epoch e) ∙ here);
    no_other = λ q i apart leads. at-written key q at i row epoch e ∙ is.no_other q i apart leads;
  }

  pub row_written : (key : List ℕ) (at : ℕ) (row : Option (List ℕ)) (epoch : ℕ) → place_of slots key ≡ Some at
      → set slots at (rewritten (get_or slots at None) row epoch) ≡ set_row slots key row epoch
  row_written key at row epoch e =
      ap (set slots at) (row-rewritten key (get_or slots at None) row epoch (is_there key at e))
      ∙ ap (set_row_by slots key row epoch) (sym e)

  -- its place is freed
  pub freed_indexed : (after : linear_hash.PlaceMap) (key : List ℕ) (at : ℕ) → place_of slots key ≡ Some at
      → map.get after key ≡ None
      → ((q : List ℕ) → same_key key q ≡ false → map.get after q ≡ map.get index q)
      → IsIndexed (set slots at None) after spare
  freed_indexed after key at e gone others = record {
    leads = λ q i here. by q i here (cases_eq i at);
    no_other = λ q i apart leads. kept q i apart leads (same_key key q) refl;
  }
    where
      here-key : is_at key (get_or slots at None) ≡ true
      here-key = is_there key at e

      by : (q : List ℕ) (i : ℕ) → is_at q (get_or (set slots at None) i None) ≡ true → (i ≡ at) ⊎ (i ≢ at)
          → map.get after q ≡ Some i
      by q i here (inl one) =
          let gone : is_at q (get_or (set slots at None) i None) ≡ false =
          ap (λ n. is_at q (get_or (set slots at None) n None)) one
          ∙ ap (is_at q) (get_or-set_same slots at None None (at-within slots key at here-key)) in
          absurd (false≢true (sym gone ∙ here))
      by q i here (inr other) =
          let was : is_at q (get_or slots i None) ≡ true =
          sym (ap (is_at q) (get_or-set_other slots at i None None other)) ∙ here in
          apart q i was other (same_key key q) refl
        where
          apart : (q : List ℕ) (i : ℕ) → is_at q (get_or slots i None) ≡ true → i ≢ at → (b : Bool) → same_key key q ≡ b
              → map.get after q ≡ Some i
          apart q i was other true s =
              let leads : map.get index key ≡ Some at = is.leads key at here-key in
              absurd (other (one_place i at (sym (is.leads q i was) ∙ ap (map.get index) (sym (same key q s)) ∙ leads)))
          apart q i was other false s = others q s ∙ is.leads q i was

      kept : (q : List ℕ) (i : ℕ) → is_spare spare q ≡ false → map.get after q ≡ Some i → (b : Bool)
          → same_key key q ≡ b
          → is_at q (get_or (set slots at None) i None) ≡ true
      kept q i apart leads true s =
          let both : Some i ≡ None = sym leads ∙ ap (map.get after) (sym (same key q s)) ∙ gone in cc
      kept q i apart leads false s = still (is.no_other q i apart (sym (others q s) ∙ leads)) (cases_eq i at)
        where
          still : is_at q (get_or slots i None) ≡ true → (i ≡ at) ⊎ (i ≢ at)
              → is_at q (get_or (set slots at None) i None) ≡ true
          still here (inl one) =
              absurd (false≢true (sym s ∙ sym (at-same key q (get_or slots at None) here-key)
              ∙ ap (λ n. is_at q (get_or slots n None)) (sym one) ∙ here))
          still here (inr other) = ap (is_at q) (get_or-set_other slots at i None None other) ∙ here

  -- its key has none then
  pub freed_gone : (key : List ℕ) (at : ℕ) → place_of slots key ≡ Some at → place_of (set slots at None) key ≡ None
  freed_gone key at e = nowhere (is_at key) None (set slots at None) (λ i. by i (cases_eq i at))
    where
      by : (i : ℕ) → (i ≡ at) ⊎ (i ≢ at) → is_at key (get_or (set slots at None) i None) ≡ false
      by i (inl one) =
          ap (λ n. is_at key (get_or (set slots at None) n None)) one
          ∙ ap (is_at key) (get_or-set_same slots at None None (at-within slots key at (is_there key at e)))
      by i (inr other) = ap (is_at key) (get_or-set_other slots at i None None other)
          ∙ away (is_at key (get_or slots i None)) refl
        where
          away : (b : Bool) → is_at key (get_or slots i None) ≡ b → is_at key (get_or slots i None) ≡ false
          away true here =
              absurd (other (one_place i at (sym (is.leads key i here) ∙ is.leads key at (is_there key at e))))
          away false here = here

-- the key that gets the least free place is there
pub placed_place : (slots : List (Option Slot)) (key : List ℕ) → place_of slots key ≡ None
    → place_of (placed (no_row key) slots) key ≡ Some (first_free slots)
placed_place slots key none =
    alone (is_at key) None (placed (no_row key) slots) (first_free slots) refl here
    (λ i there. only i (nat_eq (first_free slots) i) refl
    (sym (ap (is_at key) (get-placed slots (no_row key) i)) ∙ there))
  where
    here : is_at key (get_or (placed (no_row key) slots) (first_free slots) None) ≡ true
    here =
        ap (is_at key) (get-placed slots (no_row key) (first_free slots))
        ∙ ap (λ b. is_at key (cond b (Some (no_row key)) (get_or slots (first_free slots) None)))
        (eq-self (first_free slots) (first_free slots) refl)
        ∙ same_key-self key

    only : (i : ℕ) (b : Bool) → nat_eq (first_free slots) i ≡ b
        → is_at key (cond b (Some (no_row key)) (get_or slots i None)) ≡ true → i ≡ first_free slots
    only i true e there = sym (eqb-true (first_free slots) i e)
    only i false e there = absurd (false≢true (sym (never (is_at key) None slots i refl none) ∙ there))

-- a key with a place is there still
pub placed-found : (slots : List (Option Slot)) (key : List ℕ) (at : ℕ) → Some at ≡ place_of slots key
    → place_of (with_place slots key) key ≡ Some at
placed-found slots key at e =
    ap (λ o. place_of (with_place_by slots key o) key) (sym e) ∙ sym e

-- no places
pub none_indexed : IsIndexed [] linear_hash.no_places.at None
none_indexed = record {
  leads = λ q at here. absurd (false≢true here);
  no_other = λ q at apart leads. let both : None ≡ Some at = sym (map.get-empty (slice_cmp nat_cmp) q) ∙ leads in cc;
}

-- a place is freed where its key is idle and has no row
pub freed-free : (slots : List (Option Slot)) (at : ℕ) (idle : Bool) (place : Option ℕ) → Some at ≡ place
    → idle ≡ true → has_row (get_or slots at None) ≡ false → set slots at None ≡ freed_by slots idle place
freed-free slots at idle place e free bare =
    by (row_in (get_or slots at None)) idle free bare ∙ ap (freed_by slots idle) e
  where
    by : (row : Option (List ℕ)) (b : Bool) → b ≡ true → is_some row ≡ false
        → set slots at None ≡ freed_if slots at row b
    by None true f e = refl
    by (Some row) b f e = cc
    by None false f e = cc

pub freed-row : (slots : List (Option Slot)) (at : ℕ) (idle : Bool) (place : Option ℕ) → Some at ≡ place
    → has_row (get_or slots at None) ≡ true → slots ≡ freed_by slots idle place
freed-row slots at idle place e full = by (row_in (get_or slots at None)) idle full ∙ ap (freed_by slots idle) e
  where
    by : (row : Option (List ℕ)) (b : Bool) → is_some row ≡ true → slots ≡ freed_if slots at row b
    by None b e = cc
    by (Some row) true e = refl
    by (Some row) false e = refl

pub freed-busy : (slots : List (Option Slot)) (at : ℕ) (idle : Bool) (place : Option ℕ) → Some at ≡ place
    → idle ≡ false → slots ≡ freed_by slots idle place
freed-busy slots at idle place e busy = by (row_in (get_or slots at None)) idle busy ∙ ap (freed_by slots idle) e
  where
    by : (row : Option (List ℕ)) (b : Bool) → b ≡ false → slots ≡ freed_if slots at row b
    by None true e = cc
    by None false e = refl
    by (Some row) true e = cc
    by (Some row) false e = refl

pub freed-none : (slots : List (Option Slot)) (idle : Bool) (place : Option ℕ) → None ≡ place
    → slots ≡ freed_by slots idle place
freed-none slots idle place e = ap (freed_by slots idle) e

pub placed-new : (slots : List (Option Slot)) (key : List ℕ) → place_of slots key ≡ None
    → placed (no_row key) slots ≡ with_place slots key
placed-new slots key none = ap (with_place_by slots key) (sym none)

pub placed-old : (slots : List (Option Slot)) (key : List ℕ) → is_some (place_of slots key) ≡ true
    → slots ≡ with_place slots key
placed-old slots key some = by (place_of slots key) some
  where
    by : (o : Option ℕ) → is_some o ≡ true → slots ≡ with_place_by slots key o
    by None e = cc
    by (Some at) e = refl

pub ruleset founds = (found_there, found_elsewhere, found_nowhere)

pub ruleset claims = (placed-new, placed-old, placed-found)

pub ruleset indexes = (
  led_indexed,
  left_indexed,
  spare_placed,
  claimed_indexed,
  freed_indexed,
  freed_gone,
  alone_absent,
  placed_place,
  is_taken,
  placed-new,
)

pub ruleset writes = (rewritten_indexed, row_written, is_taken, is_there)

pub ruleset frees = (freed-free, freed-row, freed-busy, freed-none)
