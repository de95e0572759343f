-- How many records are on the key of each place, as places are taken and freed.
use Rattle.std.proofs.Common.{◌≡◌, ◌≢◌, ◌⊎◌, inl, inr, ℕ, zero, suc, ◌+◌, ◌<◌, ◌≤◌, Bool, true, false, cond, nat_eq}
use Rattle.std.proofs.Common.{List, [], ◌∷◌, length, get_or, set, length-set, refl, ap, sym, ◌∙◌, arith, subst}
use Rattle.std.specs.Prelude.{Option, None, Some, is_some, position}
use Rattle.std.proofs.lemmas.Bool.{cases_eq, eqb-true, false≢true}
use Rattle.std.proofs.lemmas.List.{get_or-set_same, get_or-set_other}
use Rattle.sig_core.specs.declared.rows.Slot.{Slot}
use Rattle.sig_core.specs.Rows.{freed_by, freed_if, has_row, is_at, no_row, place_of, placed, row_in, set_row}
use Rattle.sig_core.specs.Rows.{set_row_by}
use Rattle.sig_core.specs.Rows.{with_place, with_place_by, with_row}
use Rattle.sig_core.specs.Same.{same_key}
use Rattle.sig_core.proofs.Firsts.{place_by, position-cons}
use Rattle.tuple_pages.specs.Free.{first_free}
use Rattle.frag_store.specs.HeldPlaces.{AreHeld, HeldState, held_at, records_on}
use Rattle.frag_store.proofs.PlaceLemmas.{at-same, at-within, free-there, get-placed, nowhere, one_place, placed_place}
use Rattle.frag_store.proofs.PlaceLemmas.{there}
use Rattle.row_records.proofs.KeyLemmas.{same}

-- a test that lists pass at the same places is passed first at the same place
same_positions : {X : Type 0} (p : X → Bool) (d : X) → p d ≡ false → (xs ys : List X)
    → ((i : ℕ) → p (get_or xs i d) ≡ p (get_or ys i d)) → position p xs ≡ position p ys
same_positions p d off [] [] alike = refl
same_positions p d off [] (y ∷ ys) alike = sym (nowhere p d (y ∷ ys) (λ i. sym (alike i) ∙ off))
same_positions p d off (x ∷ xs) [] alike = nowhere p d (x ∷ xs) (λ i. alike i ∙ off)
same_positions p d off (x ∷ xs) (y ∷ ys) alike =
    position-cons p x xs ∙ ap (λ b. place_by b (position p xs)) (alike 0)
    ∙ ap (place_by (p y)) (same_positions p d off xs ys (λ i. alike (suc i))) ∙ sym (position-cons p y ys)

first-most : (slots : List (Option Slot)) → first_free slots ≤ length slots
first-most [] = omega arith
first-most (None ∷ slots) = omega arith
first-most (Some slot ∷ slots) = omega (arith, first-most slots)

long-placed : (slots : List (Option Slot)) (slot : Slot) (n : ℕ) → length slots ≤ n → first_free slots < n
    → length (placed slot slots) ≤ n
long-placed [] slot n long free = omega (arith, free)
long-placed (None ∷ slots) slot n long free = long
long-placed (Some other ∷ slots) slot zero long free = absurd (omega (arith, free))
long-placed (Some other ∷ slots) slot (suc n) long free =
    omega (arith, long-placed slots slot n (omega (arith, long)) (omega (arith, free)))

-- a key with records has a place
pub held_placed : (held : List ℕ) (place : Option ℕ) → 0 < held_at held place → is_some place ≡ true
held_placed held None some = absurd (omega (arith, some))
held_placed held (Some at) some = refl

-- no places
pub empty_held : (slots : List (Option Slot)) (held : List ℕ) → slots ≡ [] → held ≡ [] → AreHeld slots held
empty_held slots held no_slots none =
    let P : List (Option Slot) → Type 0 = λ ps. AreHeld ps held in
    let Q : List ℕ → Type 0 = λ hs. AreHeld [] hs in
    subst P (sym no_slots) (subst Q (sym none) (record { long = omega arith; free = λ at e. refl }))

pub none_on : (p : HeldState) (q : List ℕ) → p.places.slots ≡ [] → records_on p q ≡ 0
none_on p q e = ap (λ ps. held_at p.held (place_of ps q)) e

pub ruleset beginnings = (empty_held, none_on)

pub first_within : (slots : List (Option Slot)) (held : List ℕ) → AreHeld slots held → first_free slots ≤ length held
first_within slots held are = omega (arith, first-most slots, are.long)

-- a key gets the least free place, unless it has one
module _ (slots : List (Option Slot)) (held : List ℕ) (are : AreHeld slots held) (key : List ℕ) where
  others_placed : (q : List ℕ) → same_key key q ≡ false → place_of (placed (no_row key) slots) q ≡ place_of slots q
  others_placed q apart = same_positions (is_at q) None refl (placed (no_row key) slots) slots
      (λ i. ap (is_at q) (get-placed slots (no_row key) i) ∙ by i (nat_eq (first_free slots) i) refl)
    where
      by : (i : ℕ) (b : Bool) → nat_eq (first_free slots) i ≡ b
          → is_at q (cond b (Some (no_row key)) (get_or slots i None)) ≡ is_at q (get_or slots i None)
      by i true e =
          let free : is_at q (get_or slots i None) ≡ false =
          ap (λ n. is_at q (get_or slots n None)) (sym (eqb-true (first_free slots) i e))
          ∙ ap (is_at q) (free-there slots) in
          apart ∙ sym free
      by i false e = refl

  pub claimed_records : (q : List ℕ)
      → held_at held (place_of (with_place slots key) q) ≡ held_at held (place_of slots q)
  claimed_records q = by (place_of slots key) refl
    where
      by : (o : Option ℕ) → place_of slots key ≡ o
          → held_at held (place_of (with_place_by slots key o) q) ≡ held_at held (place_of slots q)
      by (Some at) e = refl
      by None e = here (same_key key q) refl
        where
          here : (b : Bool) → same_key key q ≡ b
              → held_at held (place_of (placed (no_row key) slots) q) ≡ held_at held (place_of slots q)
          here true s =
              ap (λ k. held_at held (place_of (placed (no_row key) slots) k)) (sym (same key q s))
              ∙ ap (held_at held) (placed_place slots key e)
              ∙ are.free (first_free slots) (free-there slots)
              ∙ sym (ap (λ k. held_at held (place_of slots k)) (sym (same key q s)) ∙ ap (held_at held) e)
          here false s = ap (held_at held) (others_placed q s)

  pub claimed_held : first_free slots < length held → AreHeld (with_place slots key) held
  claimed_held wide = by (place_of slots key)
    where
      by : (o : Option ℕ) → AreHeld (with_place_by slots key o) held
      by (Some at) = are
      by None = record {
        long = long-placed slots (no_row key) (length held) are.long wide;
        free = λ i e. free i (nat_eq (first_free slots) i) (sym (get-placed slots (no_row key) i) ∙ e);
      }
        where
          free : (i : ℕ) (b : Bool) → cond b (Some (no_row key)) (get_or slots i None) ≡ None → get_or held i 0 ≡ 0
          free i true e = cc
          free i false e = are.free i e

  -- where it is there is a number
  pub claimed_within : (at : ℕ) → first_free slots < length held → place_of (with_place slots key) key ≡ Some at
      → at < length held
  claimed_within at wide is = by (place_of slots key) refl is
    where
      by : (o : Option ℕ) → place_of slots key ≡ o → place_of (with_place_by slots key o) key ≡ Some at
          → at < length held
      by (Some other) e here =
          omega (arith, at-within slots key at (there (is_at key) None slots at here), are.long)
      by None e here =
          let place : first_free slots ≡ at = one_place (first_free slots) at (sym (placed_place slots key e) ∙ here) in
          omega (arith, wide, place)

-- one number is written, of a key that is at a place
module _ (slots : List (Option Slot)) (held : List ℕ) (key : List ℕ) (at : ℕ) (is : place_of slots key ≡ Some at)
    (within : at < length held) (count : ℕ) where
  pub own_number : held_at (set held at count) (place_of slots key) ≡ count
  own_number = ap (held_at (set held at count)) is ∙ get_or-set_same held at count 0 within

  other_number : (q : List ℕ) → same_key key q ≡ false
      → held_at (set held at count) (place_of slots q) ≡ held_at held (place_of slots q)
  other_number q apart = by (place_of slots q) refl
    where
      by : (o : Option ℕ) → place_of slots q ≡ o → held_at (set held at count) o ≡ held_at held o
      by None e = refl
      by (Some i) e =
          get_or-set_other held at i count 0 (λ one. clash (ap (λ n. is_at q (get_or slots n None)) (sym one)
          ∙ there (is_at q) None slots i e))
        where
          clash : is_at q (get_or slots at None) ≡ true → ⊥
          clash here =
              false≢true (sym apart ∙ sym (at-same key q (get_or slots at None) (there (is_at key) None slots at is)) ∙
              here)

  pub more_held : get_or held at 0 + 1 ≡ count → (q : List ℕ)
      → held_at (set held at count) (place_of slots q) ≡ held_at held (place_of slots q) + cond (same_key key q) 1 0
  more_held more q = by (same_key key q) refl
    where
      was : held_at held (place_of slots key) ≡ get_or held at 0
      was = ap (held_at held) is

      by : (b : Bool) → same_key key q ≡ b
          → held_at (set held at count) (place_of slots q) ≡ held_at held (place_of slots q) + cond b 1 0
      by true e =
          let step : count ≡ held_at held (place_of slots key) + 1 = omega (arith, more, was) in
          ap (λ k. held_at (set held at count) (place_of slots k)) (sym (same key q e)) ∙ own_number
          ∙ step ∙ ap (λ k. held_at held (place_of slots k) + 1) (same key q e)
      by false e = omega (arith, other_number q e)

  pub less_held : count + 1 ≡ get_or held at 0 → (q : List ℕ)
      → held_at (set held at count) (place_of slots q) + cond (same_key key q) 1 0 ≡ held_at held (place_of slots q)
  less_held less q = by (same_key key q) refl
    where
      was : held_at held (place_of slots key) ≡ get_or held at 0
      was = ap (held_at held) is

      by : (b : Bool) → same_key key q ≡ b
          → held_at (set held at count) (place_of slots q) + cond b 1 0 ≡ held_at held (place_of slots q)
      by true e =
          let step : held_at (set held at count) (place_of slots key) + 1 ≡ held_at held (place_of slots key) =
          omega (arith, less, was, own_number) in
          ap (λ k. held_at (set held at count) (place_of slots k) + 1) (sym (same key q e))
          ∙ step ∙ ap (λ k. held_at held (place_of slots k)) (same key q e)
      by false e = omega (arith, other_number q e)

  pub written_held : AreHeld slots held → AreHeld slots (set held at count)
  written_held are = record {
    long = omega (arith, are.long, length-set held at count);
    free = λ i e. free i e (cases_eq i at);
  }
    where
      free : (i : ℕ) → get_or slots i None ≡ None → (i ≡ at) ⊎ (i ≢ at) → get_or (set held at count) i 0 ≡ 0
      free i e (inl one) =
          let away : is_at key (get_or slots at None) ≡ false =
          ap (λ n. is_at key (get_or slots n None)) (sym one) ∙ ap (is_at key) e in
          absurd (false≢true (sym away ∙ there (is_at key) None slots at is))
      free i e (inr other) = get_or-set_other held at i count 0 other ∙ are.free i e

-- a place that has a key has a number
pub placed_within : (slots : List (Option Slot)) (held : List ℕ) → AreHeld slots held → (key : List ℕ) (at : ℕ)
    → place_of slots key ≡ Some at → at < length held
placed_within slots held are key at is =
    omega (arith, at-within slots key at (there (is_at key) None slots at is), are.long)

-- a row is written
module _ (slots : List (Option Slot)) (key : List ℕ) (row : Option (List ℕ)) (epoch : ℕ) where
  at-row : (at i : ℕ) → place_of slots key ≡ Some at → (q : List ℕ)
      → is_at q (get_or (set slots at (Some (with_row key row epoch))) i None) ≡ is_at q (get_or slots i None)
  at-row at i is q = by (cases_eq i at)
    where
      here : is_at key (get_or slots at None) ≡ true
      here = there (is_at key) None slots at is

      by : (i ≡ at) ⊎ (i ≢ at)
          → is_at q (get_or (set slots at (Some (with_row key row epoch))) i None) ≡ is_at q (get_or slots i None)
      by (inl one) =
          ap (λ n. is_at q (get_or (set slots at (Some (with_row key row epoch))) n None)) one
          ∙ ap (is_at q) (get_or-set_same slots at (Some (with_row key row epoch)) None (at-within slots key at here))
          ∙ sym (at-same key q (get_or slots at None) here) ∙ ap (λ n. is_at q (get_or slots n None)) (sym one)
      by (inr other) = ap (is_at q) (get_or-set_other slots at i (Some (with_row key row epoch)) None other)

  pub row_places : (q : List ℕ) → place_of (set_row slots key row epoch) q ≡ place_of slots q
  row_places q = by (place_of slots key) refl
    where
      by : (o : Option ℕ) → place_of slots key ≡ o → place_of (set_row_by slots key row epoch o) q ≡ place_of slots q
      by None e = refl
      by (Some at) e = same_positions (is_at q) None refl (set slots at (Some (with_row key row epoch))) slots
          (λ i. at-row at i e q)

  pub row_held : (held : List ℕ) → AreHeld slots held → AreHeld (set_row slots key row epoch) held
  row_held held are = by (place_of slots key) refl
    where
      by : (o : Option ℕ) → place_of slots key ≡ o → AreHeld (set_row_by slots key row epoch o) held
      by None e = are
      by (Some at) e = record {
        long = omega (arith, are.long, length-set slots at (Some (with_row key row epoch)));
        free = λ i free. kept i free (cases_eq i at);
      }
        where
          kept : (i : ℕ) → get_or (set slots at (Some (with_row key row epoch))) i None ≡ None → (i ≡ at) ⊎ (i ≢ at)
              → get_or held i 0 ≡ 0
          kept i free (inl one) =
              let both : Some (with_row key row epoch) ≡ None =
              sym (get_or-set_same slots at (Some (with_row key row epoch)) None
              (at-within slots key at (there (is_at key) None slots at e)))
              ∙ ap (λ n. get_or (set slots at (Some (with_row key row epoch))) n None) (sym one) ∙ free in cc
          kept i free (inr other) =
              are.free i (sym (get_or-set_other slots at i (Some (with_row key row epoch)) None other) ∙ free)

-- the place of a key without records is freed, if it has no row
module _ (slots after : List (Option Slot)) (held : List ℕ) (are : AreHeld slots held) (key : List ℕ) (at : ℕ)
    (is : place_of slots key ≡ Some at) (idle : held_at held (place_of slots key) ≡ 0)
    (freed : after ≡ freed_by slots true (place_of slots key))
    (gone : has_row (get_or slots at None) ≡ false → place_of after key ≡ None) where
  number : get_or held at 0 ≡ 0
  number = sym (ap (held_at held) is) ∙ idle

  seen_freed : after ≡ freed_if slots at (row_in (get_or slots at None)) true
  seen_freed = freed ∙ ap (freed_by slots true) is

  others_freed : (q : List ℕ) → same_key key q ≡ false → place_of (set slots at None) q ≡ place_of slots q
  others_freed q apart = same_positions (is_at q) None refl (set slots at None) slots (λ i. by i (cases_eq i at))
    where
      here : is_at key (get_or slots at None) ≡ true
      here = there (is_at key) None slots at is

      by : (i : ℕ) → (i ≡ at) ⊎ (i ≢ at) → is_at q (get_or (set slots at None) i None) ≡ is_at q (get_or slots i None)
      by i (inl one) =
          ap (λ n. is_at q (get_or (set slots at None) n None)) one
          ∙ ap (is_at q) (get_or-set_same slots at None None (at-within slots key at here))
          ∙ sym apart ∙ sym (at-same key q (get_or slots at None) here)
          ∙ ap (λ n. is_at q (get_or slots n None)) (sym one)
      by i (inr other) = ap (is_at q) (get_or-set_other slots at i None None other)

  pub freed_records : (q : List ℕ) → held_at held (place_of after q) ≡ held_at held (place_of slots q)
  freed_records q = by (row_in (get_or slots at None)) refl
    where
      by : (row : Option (List ℕ)) → row_in (get_or slots at None) ≡ row
          → held_at held (place_of after q) ≡ held_at held (place_of slots q)
      by (Some row) e =
          ap (λ ps. held_at held (place_of ps q)) (seen_freed ∙ ap (λ r. freed_if slots at r true) e)
      by None e = here (same_key key q) refl
        where
          here : (b : Bool) → same_key key q ≡ b → held_at held (place_of after q) ≡ held_at held (place_of slots q)
          here true s =
              ap (λ k. held_at held (place_of after k)) (sym (same key q s))
              ∙ ap (held_at held) (gone (ap is_some e)) ∙ sym idle
              ∙ ap (λ k. held_at held (place_of slots k)) (same key q s)
          here false s =
              ap (λ ps. held_at held (place_of ps q)) (seen_freed ∙ ap (λ r. freed_if slots at r true) e)
              ∙ ap (held_at held) (others_freed q s)

  pub freed_held : AreHeld after held
  freed_held = by (row_in (get_or slots at None)) refl
    where
      by : (row : Option (List ℕ)) → row_in (get_or slots at None) ≡ row → AreHeld after held
      by (Some row) e =
          let P : List (Option Slot) → Type 0 = λ ps. AreHeld ps held in
          subst P (sym (seen_freed ∙ ap (λ r. freed_if slots at r true) e)) are
      by None e =
          let P : List (Option Slot) → Type 0 = λ ps. AreHeld ps held in
          subst P (sym (seen_freed ∙ ap (λ r. freed_if slots at r true) e)) (record {
            long = omega (arith, are.long, length-set {A = Option Slot} slots at None);
            free = λ i free. kept i free (cases_eq i at);
          })
        where
          kept : (i : ℕ) → get_or (set slots at None) i None ≡ None → (i ≡ at) ⊎ (i ≢ at) → get_or held i 0 ≡ 0
          kept i free (inl one) = ap (λ n. get_or held n 0) one ∙ number
          kept i free (inr other) = are.free i (sym (get_or-set_other slots at i None None other) ∙ free)
