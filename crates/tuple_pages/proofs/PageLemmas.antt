-- What a call on one slot does to the places that pages hold.
use Rattle.std.proofs.Common.{◌≡◌, ◌≢◌, ◌≤◌, ◌<◌, ◌⊎◌, inl, inr, ℕ, zero, suc, ◌+◌, ◌-◌, ◌*◌, ◌/◌, ◌%◌, Bool, true}
use Rattle.std.proofs.Common.{false, cond, nat_eq, nat_lt}
use Rattle.std.proofs.Common.{List, [], ◌∷◌, ◌++◌, drop, map, length, min, get_or, set, refl, ap, sym, ◌∙◌, arith}
use Rattle.std.proofs.Common.{subst, length-append}
use Rattle.std.specs.Prelude.{Option, Some, None, is_some, position, slice_get}
use Rattle.std.specs.List.{range_with_len}
use Rattle.std.specs.BinaryHeap.{HeapUnchanged, IsHeap, IsUpperBound, heap_capacity, heap_items, heap_len}
use Rattle.std.specs.Ordering.{nat_cmp}
use Rattle.std.specs.declared.cmp.Reverse.{Reverse}
use Rattle.std.specs.declared.collections.BinaryHeap.{BinaryHeap}
use Rattle.std.proofs.lemmas.Bool.{and_parts, cases_eq, cases_lt, false≢true, ltb-true, ne_eqb, true≢false}
use Rattle.std.proofs.lemmas.Bool.Decides.{nat_tests}
use Rattle.std.proofs.lemmas.List.{drop_all, drop_more, ext_get_or, get_or-set_same, get_or-set_other}
use Rattle.std.proofs.lemmas.List.{get_or_append_left, get_or_push, length-set}
use Rattle.std.proofs.lemmas.List.FromFn.{get_or-map-range_with_len, length-map-range_with_len, map-range_with_len_more}
use Rattle.std.proofs.Math.ListN.{get_or-eq_default}
use Rattle.std.proofs.lemmas.Nat.{div-add-mod', mod_below}
use Rattle.sig_core.proofs.Firsts.{place_by, position-cons}
use Rattle.sig_core.specs.declared.rows.Slot.{Slot}
use Rattle.sig_core.specs.Rows.{has_row, next_by, placed, taken, with_row}
use Rattle.tuple_pages.specs.declared.page.TheConstants.{PAGE_SLOTS}
use Rattle.tuple_pages.specs.Free.{HoldsFree, first_free, listed}
use Rattle.tuple_pages.specs.Places.{ArePages, AreWhole, has_spare, place_at, places_in, rewritten, written}
use Rattle.tuple_pages.proofs.FreeLemmas.{IsTaken, Popped, empty_behind, grown_holds, is_taken, peek_least}
use Rattle.tuple_pages.proofs.FreeLemmas.{placed-behind, placed-within}
use Rattle.tuple_pages.proofs.FreeLemmas.{popped_holds, set_holds, top_least, top_within}

abbrev Slots : Type 0
Slots = List (Option Slot)

pub itself : (n : ℕ) → nat_eq n n ≡ true
itself n = grind (arith, nat_tests)

-- the page of a place, and its slot there
pub page_below : (pages : List Slots) (at : ℕ) → at < PAGE_SLOTS * length pages → at / PAGE_SLOTS < length pages
page_below pages at within = omega (arith, within, div-add-mod' at PAGE_SLOTS)

pub slot_below : (pages : List Slots) (at : ℕ) → AreWhole pages → at < PAGE_SLOTS * length pages
    → at % PAGE_SLOTS < length (get_or pages (at / PAGE_SLOTS) [])
slot_below pages at whole within =
    let all = whole (at / PAGE_SLOTS) (page_below pages at within) in
    omega (arith, all, mod_below at PAGE_SLOTS (omega arith))

-- one slot is written, and the others are as they were
module _ (pages : List Slots) (at : ℕ) (slot : Option Slot) (page : at / PAGE_SLOTS < length pages)
    (within : at % PAGE_SLOTS < length (get_or pages (at / PAGE_SLOTS) [])) where
  abbrev home : Slots
  home = get_or pages (at / PAGE_SLOTS) []

  place-written : (q : ℕ) → place_at (written pages at slot) q ≡ cond (nat_eq at q) slot (place_at pages q)
  unfolding place_at written
  place-written q = by (cases_eq (q / PAGE_SLOTS) (at / PAGE_SLOTS)) (cases_eq (q % PAGE_SLOTS) (at % PAGE_SLOTS))
    where
      apart : nat_eq at q ≡ false
          → get_or (get_or pages (q / PAGE_SLOTS) []) (q % PAGE_SLOTS) None
          ≡ cond (nat_eq at q) slot (get_or (get_or pages (q / PAGE_SLOTS) []) (q % PAGE_SLOTS) None)
      apart e = sym (ap (λ b. cond b slot (get_or (get_or pages (q / PAGE_SLOTS) []) (q % PAGE_SLOTS) None)) e)

      same_page : q / PAGE_SLOTS ≡ at / PAGE_SLOTS
          → get_or (set pages (at / PAGE_SLOTS) (set home (at % PAGE_SLOTS) slot)) (q / PAGE_SLOTS) []
          ≡ set home (at % PAGE_SLOTS) slot
      same_page p =
          ap (λ n. get_or (set pages (at / PAGE_SLOTS) (set home (at % PAGE_SLOTS) slot)) n []) p
          ∙ get_or-set_same pages (at / PAGE_SLOTS) (set home (at % PAGE_SLOTS) slot) [] page

      by : (q / PAGE_SLOTS ≡ at / PAGE_SLOTS) ⊎ (q / PAGE_SLOTS ≢ at / PAGE_SLOTS)
          → (q % PAGE_SLOTS ≡ at % PAGE_SLOTS) ⊎ (q % PAGE_SLOTS ≢ at % PAGE_SLOTS)
          → get_or (get_or (set pages (at / PAGE_SLOTS) (set home (at % PAGE_SLOTS) slot)) (q / PAGE_SLOTS) [])
          (q % PAGE_SLOTS) None
          ≡ cond (nat_eq at q) slot (get_or (get_or pages (q / PAGE_SLOTS) []) (q % PAGE_SLOTS) None)
      by (inl p) (inl s) =
          let one : at ≡ q = omega (arith, div-add-mod' at PAGE_SLOTS, div-add-mod' q PAGE_SLOTS, p, s) in
          ap (λ xs. get_or xs (q % PAGE_SLOTS) None) (same_page p)
          ∙ ap (λ n. get_or (set home (at % PAGE_SLOTS) slot) n None) s
          ∙ get_or-set_same home (at % PAGE_SLOTS) slot None within
          ∙ sym (ap (λ b. cond b slot (get_or (get_or pages (q / PAGE_SLOTS) []) (q % PAGE_SLOTS) None))
          (ap (nat_eq at) (sym one) ∙ itself at))
      by (inl p) (inr s) =
          ap (λ xs. get_or xs (q % PAGE_SLOTS) None) (same_page p)
          ∙ get_or-set_other home (at % PAGE_SLOTS) (q % PAGE_SLOTS) slot None s
          ∙ ap (λ n. get_or (get_or pages n []) (q % PAGE_SLOTS) None) (sym p)
          ∙ apart (ne_eqb at q (λ e. s (ap (λ n. n % PAGE_SLOTS) (sym e))))
      by (inr p) _ =
          ap (λ xs. get_or xs (q % PAGE_SLOTS) None)
          (get_or-set_other pages (at / PAGE_SLOTS) (q / PAGE_SLOTS) (set home (at % PAGE_SLOTS) slot) [] p)
          ∙ apart (ne_eqb at q (λ e. p (ap (λ n. n / PAGE_SLOTS) (sym e))))

  pub length-written : length (written pages at slot) ≡ length pages
  unfolding written
  length-written = length-set pages (at / PAGE_SLOTS) (set home (at % PAGE_SLOTS) slot)

  pub whole-written : AreWhole pages → AreWhole (written pages at slot)
  unfolding written
  whole-written whole p inside = by (cases_eq p (at / PAGE_SLOTS))
    where
      there : p < length pages
      there = let P : ℕ → Type 0 = λ n. p < n in subst P length-written inside

      by : (p ≡ at / PAGE_SLOTS) ⊎ (p ≢ at / PAGE_SLOTS)
          → length (get_or (set pages (at / PAGE_SLOTS) (set home (at % PAGE_SLOTS) slot)) p []) ≡ PAGE_SLOTS
      by (inl e) =
          ap (λ n. length (get_or (set pages (at / PAGE_SLOTS) (set home (at % PAGE_SLOTS) slot)) n [])) e
          ∙ ap length (get_or-set_same pages (at / PAGE_SLOTS) (set home (at % PAGE_SLOTS) slot) [] page)
          ∙ length-set home (at % PAGE_SLOTS) slot ∙ whole (at / PAGE_SLOTS) page
      by (inr e) =
          ap length (get_or-set_other pages (at / PAGE_SLOTS) p (set home (at % PAGE_SLOTS) slot) [] e) ∙ whole p there

  -- a place among the others
  pub places-written : (len : ℕ) → at < len → places_in (written pages at slot) len ≡ set (places_in pages len) at slot
  unfolding places_in
  places-written len inside =
      ext_get_or None (map (place_at (written pages at slot)) (range_with_len 0 len))
      (set (map (place_at pages) (range_with_len 0 len)) at slot)
      (length-map-range_with_len (place_at (written pages at slot)) 0 len
      ∙ sym (length-set (map (place_at pages) (range_with_len 0 len)) at slot ∙ long))
      (λ i below. each i (omega (arith, below, length-map-range_with_len (place_at (written pages at slot)) 0 len))
      (cases_eq i at))
    where
      long : length (map (place_at pages) (range_with_len 0 len)) ≡ len
      long = length-map-range_with_len (place_at pages) 0 len

      each : (i : ℕ) → i < len → (i ≡ at) ⊎ (i ≢ at)
          → get_or (map (place_at (written pages at slot)) (range_with_len 0 len)) i None
          ≡ get_or (set (map (place_at pages) (range_with_len 0 len)) at slot) i None
      each i below (inl e) =
          get_or-map-range_with_len (place_at (written pages at slot)) 0 len i i None below (omega arith)
          ∙ place-written i
          ∙ ap (λ b. cond b slot (place_at pages i)) (ap (nat_eq at) e ∙ itself at)
          ∙ sym (ap (λ n. get_or (set (map (place_at pages) (range_with_len 0 len)) at slot) n None) e
          ∙ get_or-set_same (map (place_at pages) (range_with_len 0 len)) at slot None (omega (arith, inside, long)))
      each i below (inr e) =
          get_or-map-range_with_len (place_at (written pages at slot)) 0 len i i None below (omega arith)
          ∙ place-written i
          ∙ ap (λ b. cond b slot (place_at pages i)) (ne_eqb at i (λ s. e (sym s)))
          ∙ sym (get_or-set_other (map (place_at pages) (range_with_len 0 len)) at i slot None e
          ∙ get_or-map-range_with_len (place_at pages) 0 len i i None below (omega arith))

  -- one behind them
  pub places-added : (len : ℕ) → at ≡ len
      → places_in (written pages at slot) (len + 1) ≡ places_in pages len ++ slot ∷ []
  unfolding places_in
  places-added len behind =
      map-range_with_len_more (place_at (written pages at slot)) 0 len len (omega arith)
      ∙ ap (λ x. map (place_at (written pages at slot)) (range_with_len 0 len) ++ x ∷ [])
      (place-written len ∙ ap (λ b. cond b slot (place_at pages len)) (ap (nat_eq at) (sym behind) ∙ itself at))
      ∙ ap (λ xs. xs ++ slot ∷ []) others
    where
      others : map (place_at (written pages at slot)) (range_with_len 0 len)
          ≡ map (place_at pages) (range_with_len 0 len)
      others =
          ext_get_or None (map (place_at (written pages at slot)) (range_with_len 0 len))
          (map (place_at pages) (range_with_len 0 len))
          (length-map-range_with_len (place_at (written pages at slot)) 0 len
          ∙ sym (length-map-range_with_len (place_at pages) 0 len))
          (λ i below. each i (omega (arith, below, length-map-range_with_len (place_at (written pages at slot)) 0 len)))
        where
          each : (i : ℕ) → i < len
              → get_or (map (place_at (written pages at slot)) (range_with_len 0 len)) i None
              ≡ get_or (map (place_at pages) (range_with_len 0 len)) i None
          each i below =
              let apart : nat_eq at i ≡ false = ne_eqb at i (λ s. omega (arith, s, behind, below)) in
              get_or-map-range_with_len (place_at (written pages at slot)) 0 len i i None below (omega arith)
              ∙ place-written i
              ∙ ap (λ b. cond b slot (place_at pages i)) apart
              ∙ sym (get_or-map-range_with_len (place_at pages) 0 len i i None below (omega arith))

pub places-length : (pages : List Slots) (len : ℕ) → length (places_in pages len) ≡ len
unfolding places_in
places-length pages len = length-map-range_with_len (place_at pages) 0 len

pub places-get : (pages : List Slots) (len at : ℕ) → at < len → get_or (places_in pages len) at None ≡ place_at pages at
unfolding places_in
places-get pages len at below = get_or-map-range_with_len (place_at pages) 0 len at at None below (omega arith)

-- one more page, of whichever slots
pub places-grown : (pages : List Slots) (page : Slots) (len : ℕ) → len ≤ PAGE_SLOTS * length pages
    → places_in (pages ++ page ∷ []) len ≡ places_in pages len
unfolding places_in place_at
places-grown pages page len within =
    ext_get_or None (map (place_at (pages ++ page ∷ [])) (range_with_len 0 len))
    (map (place_at pages) (range_with_len 0 len))
    (length-map-range_with_len (place_at (pages ++ page ∷ [])) 0 len
    ∙ sym (length-map-range_with_len (place_at pages) 0 len))
    (λ i below. each i (omega (arith, below, length-map-range_with_len (place_at (pages ++ page ∷ [])) 0 len)))
  where
    each : (i : ℕ) → i < len
        → get_or (map (place_at (pages ++ page ∷ [])) (range_with_len 0 len)) i None
        ≡ get_or (map (place_at pages) (range_with_len 0 len)) i None
    each i below =
        get_or-map-range_with_len (place_at (pages ++ page ∷ [])) 0 len i i None below (omega arith)
        ∙ ap (λ xs. get_or xs (i % PAGE_SLOTS) None)
        (get_or_append_left pages (page ∷ []) [] (i / PAGE_SLOTS) (page_below pages i (omega (arith, below, within))))
        ∙ sym (get_or-map-range_with_len (place_at pages) 0 len i i None below (omega arith))

-- how many are taken
module _ {A : Type 0} (pages : List Slots) (len : ℕ) (free : BinaryHeap (Reverse ℕ) A) (is : ArePages pages len free)
  where
    pub free_fewer : heap_len free ≤ len
    free_fewer = omega (arith, is.holds.many, places-length pages len)

    pub taken_rest : len - heap_len free ≡ taken (places_in pages len)
    taken_rest = omega (arith, is.holds.many, places-length pages len)

pub ruleset counts = (free_fewer, taken_rest)

pub none_left : (n : ℕ) → (0 < n → false ≡ true) → n ≡ 0
none_left zero never = refl
none_left (suc n) never = absurd (false≢true (never (omega arith)))

pub first_item : {X : Type 0} (xs : List X) (x : X) → true ≡ nat_lt 0 (length xs) → x ≡ get_or xs 0 x
    → slice_get xs 0 ≡ Some x
first_item [] x some is = absurd (false≢true (sym some))
first_item (y ∷ xs) x some is = ap (λ z. Some z) (sym is)

-- no places
pub no_places : (pages : List Slots) → places_in pages 0 ≡ []
unfolding places_in
no_places pages = refl

pub none_are : {A : Type 0} (pages : List Slots) (free : BinaryHeap (Reverse ℕ) A) → pages ≡ [] → heap_items free ≡ []
    → heap_len free ≡ 0 → IsHeap (λ one other. nat_cmp other.0 one.0) (heap_items free) → ArePages pages 0 free
none_are pages free empty items none ordered =
    let P : Slots → Type 0 = λ places. HoldsFree places free in
    record {
      whole = λ page inside. absurd (omega (arith, inside, ap length empty));
      within = omega arith;
      holds = subst P (sym (no_places pages))
          (record {
            each = λ at. ap (λ xs. listed xs at) items;
            many = omega (arith, none);
            ordered = ordered;
            room = omega arith;
          });
    }

module _ {A : Type 0} (pages : List Slots) (len : ℕ) (free : BinaryHeap (Reverse ℕ) A) (is : ArePages pages len free)
  where
    -- a place that is there
    module _ (at : ℕ) (inside : at < len) where
      bound : at < PAGE_SLOTS * length pages
      bound = omega (arith, inside, is.within)

      pub there_page : at / PAGE_SLOTS < length pages
      there_page = page_below pages at bound

      pub there_slot : at % PAGE_SLOTS < length (get_or pages (at / PAGE_SLOTS) [])
      there_slot = slot_below pages at is.whole bound

    -- what is there
    pub read : (at : ℕ) → at < len → get_or (places_in pages len) at None ≡ place_at pages at
    read at inside = places-get pages len at inside

    pub read-past : (at : ℕ) → len ≤ at → get_or (places_in pages len) at None ≡ None
    read-past at past = get_or-eq_default (places_in pages len) None (omega (arith, past, places-length pages len))

    pub taken_there : (at : ℕ) → is_some (get_or (places_in pages len) at None) ≡ true
        → IsTaken (places_in pages len) at
    taken_there at there = is_taken (places_in pages len) at there

    pub taken_inside : (at : ℕ) → is_some (get_or (places_in pages len) at None) ≡ true → at < len
    taken_inside at there = omega (arith, (taken_there at there).within, places-length pages len)

    -- the top of the heap is the least free place
    pub top_first : (x : Reverse ℕ) → slice_get (heap_items free) 0 ≡ Some x
        → IsUpperBound (λ one other. nat_cmp other.0 one.0) x (heap_items free) → x.0 ≡ first_free (places_in pages len)
    top_first x first top = peek_least (places_in pages len) free is.holds x first top

    pub none_first : heap_len free ≡ 0 → len ≡ first_free (places_in pages len)
    none_first none =
        omega (arith, empty_behind (places_in pages len) free free is.holds none, places-length pages len)

    module _ (now : List Slots) (after : BinaryHeap (Reverse ℕ) A) (at : ℕ) (slot : Option Slot)
        (page : at / PAGE_SLOTS < length pages) (within : at % PAGE_SLOTS < length (get_or pages (at / PAGE_SLOTS) []))
        (written_is : now ≡ written pages at slot) where
      pub are_written : (n : ℕ) → n ≤ PAGE_SLOTS * length pages → HoldsFree (places_in now n) after
          → ArePages now n after
      are_written n most holds =
          let P : ℕ → Type 0 = λ k. n ≤ PAGE_SLOTS * k in
          record {
            whole = subst AreWhole (sym written_is) (whole-written pages at slot page within is.whole);
            within = subst P (sym (ap length written_is ∙ length-written pages at slot page within)) most;
            holds = holds;
          }

      pub places_set : at < len → places_in now len ≡ set (places_in pages len) at slot
      places_set inside = ap (λ ps. places_in ps len) written_is ∙ places-written pages at slot page within len inside

      pub places_more : at ≡ len → places_in now (len + 1) ≡ places_in pages len ++ slot ∷ []
      places_more behind =
          ap (λ ps. places_in ps (len + 1)) written_is ∙ places-added pages at slot page within len behind

    -- a row is written
    pub set_are : (now : List Slots) (at : ℕ) (slot : Slot) → now ≡ written pages at (Some slot)
        → is_some (get_or (places_in pages len) at None) ≡ true → ArePages now len free
    set_are now at slot written_is there =
        let inside = taken_inside at there in
        let page = there_page at inside in
        let within = there_slot at inside in
        let P : Slots → Type 0 = λ places. HoldsFree places free in
        are_written now free at (Some slot) page within written_is len is.within
        (subst P (sym (places_set now free at (Some slot) page within written_is inside))
        (set_holds (places_in pages len) free free is.holds at slot (taken_there at there)))

    -- the row of a place that is taken
    module _ (now : List Slots) (at : ℕ) (slot : Option Slot) (row : Option (List ℕ)) (epoch : ℕ)
        (written_is : now ≡ written pages at slot) (slot_is : slot ≡ rewritten (place_at pages at) row epoch)
        (there : is_some (get_or (places_in pages len) at None) ≡ true) where
      pub row_are : ArePages now len free
      row_are = by (place_at pages at) refl
        where
          by : (o : Option Slot) → place_at pages at ≡ o → ArePages now len free
          by None e =
              let none : is_some (get_or (places_in pages len) at None) ≡ false =
              ap is_some (read at (taken_inside at there) ∙ e) in
              absurd (true≢false (sym there ∙ none))
          by (Some s) e =
              set_are now at (with_row s.key row epoch)
              (written_is ∙ ap (written pages at) (slot_is ∙ ap (λ o. rewritten o row epoch) e)) there

      pub row_places : places_in now len ≡ set (places_in pages len) at
          (rewritten (get_or (places_in pages len) at None) row epoch)
      row_places =
          let inside = taken_inside at there in
          places_set now free at slot (there_page at inside) (there_slot at inside) written_is inside
          ∙ ap (set (places_in pages len) at) (slot_is ∙ ap (λ o. rewritten o row epoch) (sym (read at inside)))

      pub row_length : length now ≡ length pages
      row_length =
          let inside = taken_inside at there in
          ap length written_is ∙ length-written pages at slot (there_page at inside) (there_slot at inside)

    -- a place is freed
    pub freed_are : (now : List Slots) (after : BinaryHeap (Reverse ℕ) A) (at : ℕ) → now ≡ written pages at None
        → is_some (get_or (places_in pages len) at None) ≡ true
        → HoldsFree (set (places_in pages len) at None) after → ArePages now len after
    freed_are now after at written_is there holds =
        let inside = taken_inside at there in
        let page = there_page at inside in
        let within = there_slot at inside in
        let P : Slots → Type 0 = λ places. HoldsFree places after in
        are_written now after at None page within written_is len is.within
        (subst P (sym (places_set now after at None page within written_is inside)) holds)

    -- the least free place of all is taken
    module _ (now : List Slots) (after : BinaryHeap (Reverse ℕ) A) (x : Reverse ℕ)
        (pop : Popped (places_in pages len) free after is.holds x) where
      pub pop_inside : x.0 < len
      pop_inside = omega (arith, top_within (places_in pages len) free after is.holds x pop, places-length pages len)

      pub pop_first : x.0 ≡ first_free (places_in pages len)
      pop_first = top_least (places_in pages len) free after is.holds x pop

      module _ (slot : Slot) (written_is : now ≡ written pages x.0 (Some slot)) where
        pub pop_places : places_in now len ≡ placed slot (places_in pages len)
        pop_places =
            places_set now after x.0 (Some slot) (there_page x.0 pop_inside) (there_slot x.0 pop_inside) written_is
            pop_inside
            ∙ placed-within slot (places_in pages len) x.0 pop_first
            (omega (arith, pop_inside, places-length pages len))

        pub pop_are : ArePages now len after
        pop_are =
            let P : Slots → Type 0 = λ places. HoldsFree places after in
            are_written now after x.0 (Some slot) (there_page x.0 pop_inside) (there_slot x.0 pop_inside) written_is len
            is.within (subst P (sym pop_places) (popped_holds (places_in pages len) free after is.holds x pop slot))

    -- or one behind them
    module _ (now : List Slots) (after : BinaryHeap (Reverse ℕ) A) (slot : Slot)
        (room : len < PAGE_SLOTS * length pages)
        (written_is : now ≡ written pages len (Some slot)) (none : heap_len free ≡ 0) where
      pub more_places : places_in now (len + 1) ≡ placed slot (places_in pages len)
      more_places =
          places_more now after len (Some slot) (page_below pages len room) (slot_below pages len is.whole room)
          written_is refl
          ∙ sym (placed-behind slot (places_in pages len) len (none_first none)
          (omega (arith, places-length pages len)))

      pub more_are : HeapUnchanged free after → heap_capacity after ≡ heap_capacity free → len < heap_capacity free
          → ArePages now (len + 1) after
      more_are same room_same more =
          let P : Slots → Type 0 = λ places. HoldsFree places after in
          are_written now after len (Some slot) (page_below pages len room) (slot_below pages len is.whole room)
          written_is (len + 1)
          (omega (arith, room)) (subst P (sym more_places)
          (grown_holds (places_in pages len) free after is.holds slot none same room_same
          (omega (arith, more, places-length pages len))))

    -- room among the free places
    pub room_are : (now : List Slots) (after : BinaryHeap (Reverse ℕ) A) → AreWhole now → len ≤ PAGE_SLOTS * length now
        → places_in now len ≡ places_in pages len → heap_items after ≡ heap_items free → heap_len after ≡ heap_len free
        → heap_capacity free ≤ heap_capacity after → ArePages now len after
    room_are now after whole within same items count room =
        let P : Slots → Type 0 = λ places. HoldsFree places after in
        record {
          whole = whole;
          within = within;
          holds = subst P (sym same)
              (record {
                each = λ at. ap (λ xs. listed xs at) items ∙ is.holds.each at;
                many = omega (arith, is.holds.many, count);
                ordered = subst (IsHeap (λ one other. nat_cmp other.0 one.0)) (sym items) is.holds.ordered;
                room = omega (arith, is.holds.room, room);
              });
        }

-- a slot that was read at a place that is there
pub row_here : {A : Type 0} (pages : List Slots) (len : ℕ) (free : BinaryHeap (Reverse ℕ) A) (slots : Slots) (at : ℕ)
    (slot : Option Slot) (found : Bool) → ArePages pages len free → places_in pages len ≡ slots → at < len
    → slot ≡ place_at pages at → found ≡ has_row slot → has_row (get_or slots at None) ≡ found
row_here pages len free slots at slot found is same inside taken test =
    ap (λ ps. has_row (get_or ps at None)) (sym same)
    ∙ ap has_row (read pages len free is at inside ∙ sym taken)
    ∙ sym test

-- the next row from a place on: there, or further on, or none behind the last place
pub next_here : (slots : Slots) (at : ℕ) → at < length slots → has_row (get_or slots at None) ≡ true
    → next_by at (position has_row (drop at slots)) ≡ Some at
next_here slots at below is =
    let same : at + 0 ≡ at = omega arith in
    ap (λ xs. next_by at (position has_row xs)) (drop_more slots at None below)
    ∙ ap (next_by at) (position-cons has_row (get_or slots at None) (drop (at + 1) slots))
    ∙ ap (λ b. next_by at (place_by b (position has_row (drop (at + 1) slots)))) is
    ∙ ap (λ n. Some n) same

pub next_further : (slots : Slots) (at : ℕ) → at < length slots → has_row (get_or slots at None) ≡ false
    → next_by at (position has_row (drop at slots)) ≡ next_by (at + 1) (position has_row (drop (at + 1) slots))
next_further slots at below is =
    ap (λ xs. next_by at (position has_row xs)) (drop_more slots at None below)
    ∙ ap (next_by at) (position-cons has_row (get_or slots at None) (drop (at + 1) slots))
    ∙ ap (λ b. next_by at (place_by b (position has_row (drop (at + 1) slots)))) is
    ∙ by (position has_row (drop (at + 1) slots))
  where
    by : (o : Option ℕ) → next_by at (place_by false o) ≡ next_by (at + 1) o
    by None = refl
    by (Some more) =
        let same : at + suc more ≡ at + 1 + more = omega arith in
        ap (λ n. Some n) same

pub next_none : (slots : Slots) (at : ℕ) → length slots ≤ at → next_by at (position has_row (drop at slots)) ≡ None
next_none slots at past = ap (λ xs. next_by at (position has_row xs)) (drop_all at slots past)

-- places behind the last one all tell the same
pub next_from : (slots : Slots) (at from : ℕ) → from ≡ min (length slots) at
    → next_by from (position has_row (drop from slots)) ≡ next_by at (position has_row (drop at slots))
next_from slots at from least = by (cases_lt at (length slots))
  where
    by : (at < length slots) ⊎ (length slots ≤ at)
        → next_by from (position has_row (drop from slots)) ≡ next_by at (position has_row (drop at slots))
    by (inl low) =
        let same : from ≡ at = omega (arith, low, least) in
        ap (λ n. next_by n (position has_row (drop n slots))) same
    by (inr high) = next_none slots from (omega (arith, high, least)) ∙ sym (next_none slots at high)

-- there is room for a place that is taken
pub spare_room : {A : Type 0} (pages : List Slots) (len : ℕ) (free : BinaryHeap (Reverse ℕ) A)
    → has_spare pages len free ≡ true → len < heap_capacity free
spare_room pages len free spare =
    ltb-true len (heap_capacity free) (and_parts (nat_lt len (PAGE_SLOTS * length pages))
    (nat_lt len (heap_capacity free)) spare).1

-- one page more
pub whole_more : (pages now : List Slots) (page : Slots) → AreWhole pages → now ≡ pages ++ page ∷ []
    → length page ≡ PAGE_SLOTS → AreWhole now
whole_more pages now page whole more long =
    let longer : length now ≡ length pages + 1 = ap length more ∙ length-append pages (page ∷ []) in
    λ p inside. by p (omega (arith, inside, longer)) (cases_lt p (length pages))
  where
    by : (p : ℕ) → p < length pages + 1 → (p < length pages) ⊎ (length pages ≤ p)
        → length (get_or now p []) ≡ PAGE_SLOTS
    by p inside (inl low) =
        ap (λ ps. length (get_or ps p [])) more ∙ ap length (get_or_append_left pages (page ∷ []) [] p low)
        ∙ whole p low
    by p inside (inr high) =
        let last : length pages ≡ p = omega (arith, inside, high) in
        ap (λ ps. length (get_or ps p [])) more ∙ ap length (get_or_push pages page [] p last) ∙ long

pub same_more : (pages now : List Slots) (page : Slots) (len : ℕ) → now ≡ pages ++ page ∷ []
    → len ≤ PAGE_SLOTS * length pages
    → places_in now len ≡ places_in pages len
same_more pages now page len more within = ap (λ ps. places_in ps len) more ∙ places-grown pages page len within

pub longer : (pages now : List Slots) (page : Slots) → now ≡ pages ++ page ∷ [] → length now ≡ length pages + 1
longer pages now page more = ap length more ∙ length-append pages (page ∷ [])

pub ruleset reads = (read, read-past, there_page, there_slot)

pub ruleset more = (whole_more, same_more, longer, room_are)
