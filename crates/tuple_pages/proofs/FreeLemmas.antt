-- The heap of free places, after a place was taken or freed.
use Rattle.std.proofs.Common.{◌≡◌, ℕ, zero, suc, ◌+◌, ◌<◌, ◌≤◌, Bool, true, false, cond, nat_eq, nat_lt, List, [], ◌∷◌}
use Rattle.std.proofs.Common.{◌++◌, length, slice_set, refl, ap, sym, ◌∙◌, arith, subst}
use Rattle.std.specs.Prelude.{Option, None, Some, is_some, slice_get, slice_index_or}
use Rattle.std.specs.BinaryHeap.{HeapUnchanged, IsHeap, IsUpperBound, KeepsHeap, PopsGreatest, heap_capacity}
use Rattle.std.specs.BinaryHeap.{heap_items, heap_len}
use Rattle.std.specs.declared.collections.BinaryHeap.{BinaryHeap}
use Rattle.std.specs.List.Sorted.{IsPermutation}
use Rattle.std.specs.Ordering.{is_lt, nat_cmp}
use Rattle.std.specs.declared.cmp.Ordering.{Ordering}
use Rattle.std.specs.declared.cmp.Ordering.TheVariants.{Equal, Greater, Less}
use Rattle.std.specs.declared.cmp.Reverse.{Reverse}
use Rattle.std.proofs.lemmas.Bool.{eqb-true, ltb-false, ne_eqb}
use Rattle.std.proofs.lemmas.Bool.Decides.{nat_tests}
use Rattle.std.proofs.lemmas.List.Sorted.{sum_by_popped, sum_by_pushed}
use Rattle.std.proofs.lemmas.List.Sums.{sum_by-cons}
use Rattle.sig_core.specs.declared.rows.Slot.{Slot}
use Rattle.sig_core.specs.Rows.{placed, taken}
use Rattle.tuple_pages.specs.Free.{HoldsFree, first_free, free_at, free_in, listed}

eq-suc-suc : (m n : ℕ) → nat_eq (suc m) (suc n) ≡ nat_eq m n
eq-suc-suc m n = grind (arith, nat_tests)

eq-zero-suc : (n : ℕ) → nat_eq 0 (suc n) ≡ false
eq-zero-suc n = grind (arith, nat_tests)

eq-suc-zero : (n : ℕ) → nat_eq (suc n) 0 ≡ false
eq-suc-zero n = grind (arith, nat_tests)

-- the least free place, as an index: a place among the others, or behind them
pub placed-within : (slot : Slot) (places : List (Option Slot)) (at : ℕ) → at ≡ first_free places → at < length places
    → slice_set places at (Some slot) ≡ placed slot places
placed-within slot [] at e within = absurd (omega (arith, within))
placed-within slot (None ∷ places) at e within =
    let P : ℕ → Type 0 = λ n. slice_set (None ∷ places) n (Some slot) ≡ Some slot ∷ places in
    subst P (sym e) refl
placed-within slot (Some other ∷ places) zero e within = absurd (omega (arith, e))
placed-within slot (Some other ∷ places) (suc at) e within =
    ap (λ rest. Some other ∷ rest) (placed-within slot places at (omega (arith, e)) (omega (arith, within)))

pub placed-behind : (slot : Slot) (places : List (Option Slot)) (at : ℕ) → at ≡ first_free places → length places ≤ at
    → placed slot places ≡ places ++ Some slot ∷ []
placed-behind slot [] at e past = refl
placed-behind slot (None ∷ places) at e past = absurd (omega (arith, e, past))
placed-behind slot (Some other ∷ places) zero e past = absurd (omega (arith, e))
placed-behind slot (Some other ∷ places) (suc at) e past =
    ap (λ rest. Some other ∷ rest) (placed-behind slot places at (omega (arith, e)) (omega (arith, past)))

count-placed : (places : List (Option Slot)) (slot : Slot) → taken (placed slot places) ≡ 1 + taken places
count-placed [] slot = refl
count-placed (None ∷ places) slot = refl
count-placed (Some other ∷ places) slot = ap (λ n. 1 + n) (count-placed places slot)

-- the least free place is taken
free_at-placed : (places : List (Option Slot)) (slot : Slot) (at : ℕ)
    → free_at (placed slot places) at ≡ cond (nat_eq (first_free places) at) 0 (free_at places at)
free_at-placed [] slot zero = refl
free_at-placed [] slot (suc at) = by (nat_eq 0 (suc at))
  where
    by : (b : Bool) → ◌≡◌ {A = ℕ} 0 (cond b 0 0)
    by true = refl
    by false = refl
free_at-placed (None ∷ places) slot zero = refl
free_at-placed (None ∷ places) slot (suc at) = sym (ap (λ b. cond b 0 (free_at places at)) (eq-zero-suc at))
free_at-placed (Some other ∷ places) slot zero = sym (ap (λ b. cond b 0 0) (eq-suc-zero (first_free places)))
free_at-placed (Some other ∷ places) slot (suc at) =
    free_at-placed places slot at ∙ sym (ap (λ b. cond b 0 (free_at places at)) (eq-suc-suc (first_free places) at))

free_at-freed : (places : List (Option Slot)) (at q : ℕ) → at < length places
    → free_at (slice_set places at None) q ≡ cond (nat_eq at q) 1 (free_at places q)
free_at-freed [] at q within = absurd (omega arith)
free_at-freed (place ∷ places) zero zero within = refl
free_at-freed (place ∷ places) zero (suc q) within = sym (ap (λ b. cond b 1 (free_at places q)) (eq-zero-suc q))
free_at-freed (place ∷ places) (suc at) zero within = sym (ap (λ b. cond b 1 (free_in place)) (eq-suc-zero at))
free_at-freed (place ∷ places) (suc at) (suc q) within =
    free_at-freed places at q (omega (arith, within)) ∙ sym (ap (λ b. cond b 1 (free_at places q)) (eq-suc-suc at q))

-- a free place with none below it is the least
least : (places : List (Option Slot)) (at : ℕ) → 1 ≤ free_at places at → ((k : ℕ) → k < at → free_at places k ≡ 0)
    → at ≡ first_free places
least [] at is none = absurd (omega (arith, is))
least (None ∷ places) zero is none = refl
least (None ∷ places) (suc at) is none = absurd (omega (arith, none 0 (omega arith)))
least (Some slot ∷ places) zero is none = absurd (omega (arith, is))
least (Some slot ∷ places) (suc at) is none =
    ap suc (least places at is (λ k below. none (suc k) (omega (arith, below))))

free_within : (places : List (Option Slot)) (at : ℕ) → 1 ≤ free_at places at → at < length places
free_within [] at is = absurd (omega (arith, is))
free_within (place ∷ places) zero is = omega arith
free_within (place ∷ places) (suc at) is = omega (arith, free_within places at is)

free_behind : (places : List (Option Slot)) → free_at places (length places) ≡ 0
free_behind [] = refl
free_behind (place ∷ places) = free_behind places

count_le : (places : List (Option Slot)) → taken places ≤ length places
count_le [] = omega arith
count_le (None ∷ places) = omega (arith, count_le places)
count_le (Some slot ∷ places) = omega (arith, count_le places)

-- where all are taken the least free place is behind them
all_taken : (places : List (Option Slot)) → taken places ≡ length places → length places ≡ first_free places
all_taken [] all = refl
all_taken (None ∷ places) all = absurd (omega (arith, count_le places, all))
all_taken (Some slot ∷ places) all = ap suc (all_taken places (omega (arith, all)))

length-within : (places : List (Option Slot)) (slot : Slot) → first_free places < length places
    → length (placed slot places) ≡ length places
length-within [] slot within = absurd (omega (arith, within))
length-within (None ∷ places) slot within = refl
length-within (Some other ∷ places) slot within = ap suc (length-within places slot (omega (arith, within)))

length-behind : (places : List (Option Slot)) (slot : Slot) → length places ≡ first_free places
    → length (placed slot places) ≡ suc (length places)
length-behind [] slot behind = refl
length-behind (None ∷ places) slot behind = absurd (omega (arith, behind))
length-behind (Some other ∷ places) slot behind = ap suc (length-behind places slot (omega (arith, behind)))

count-freed : (places : List (Option Slot)) (at : ℕ) → at < length places → free_at places at ≡ 0
    → taken places ≡ 1 + taken (slice_set places at None)
count-freed [] at within full = absurd (omega (arith, within))
count-freed (None ∷ places) zero within full = absurd (omega (arith, full))
count-freed (Some slot ∷ places) zero within full = refl
count-freed (None ∷ places) (suc at) within full = count-freed places at (omega (arith, within)) full
count-freed (Some slot ∷ places) (suc at) within full = ap (λ n. 1 + n)
    (count-freed places at (omega (arith, within)) full)

length-freed : (places : List (Option Slot)) (at : ℕ) → length (slice_set places at None) ≡ length places
length-freed [] at = refl
length-freed (place ∷ places) zero = refl
length-freed (place ∷ places) (suc at) = ap suc (length-freed places at)

-- a place is among the others, and taken
pub record IsTaken (places : List (Option Slot)) (at : ℕ) : Type 0 where
  pub within : at < length places
  pub taken : free_at places at ≡ 0

pub is_taken : (places : List (Option Slot)) (at : ℕ) → is_some (slice_index_or places at None) ≡ true
    → IsTaken places at
is_taken [] at is = cc
is_taken (None ∷ places) zero is = cc
is_taken (Some slot ∷ places) zero is = record { within = omega arith; taken = refl }
is_taken (place ∷ places) (suc at) is =
    let further = is_taken places at is in
    record { within = omega (arith, further.within); taken = further.taken }

-- a slot is written to a place that is taken
pub free_at-set : (places : List (Option Slot)) (at q : ℕ) (slot : Slot) → free_at places at ≡ 0
    → free_at (slice_set places at (Some slot)) q ≡ free_at places q
free_at-set [] at q slot there = refl
free_at-set (place ∷ places) zero zero slot there = sym there
free_at-set (place ∷ places) zero (suc q) slot there = refl
free_at-set (place ∷ places) (suc at) zero slot there = refl
free_at-set (place ∷ places) (suc at) (suc q) slot there = free_at-set places at q slot there

taken-set : (places : List (Option Slot)) (at : ℕ) (slot : Slot) → free_at places at ≡ 0
    → taken (slice_set places at (Some slot)) ≡ taken places
taken-set [] at slot there = refl
taken-set (None ∷ places) zero slot there = absurd (omega (arith, there))
taken-set (Some other ∷ places) zero slot there = refl
taken-set (None ∷ places) (suc at) slot there = taken-set places at slot there
taken-set (Some other ∷ places) (suc at) slot there = ap (λ n. 1 + n) (taken-set places at slot there)

length-set : (places : List (Option Slot)) (at : ℕ) (slot : Slot)
    → length (slice_set places at (Some slot)) ≡ length places
length-set [] at slot = refl
length-set (place ∷ places) zero slot = refl
length-set (place ∷ places) (suc at) slot = ap suc (length-set places at slot)

abbrev upward : Reverse ℕ → Reverse ℕ → Ordering
upward one other = nat_cmp other.0 one.0

-- no place below the top is in the heap
unlisted : (x : Reverse ℕ) (items : List (Reverse ℕ)) (q : ℕ) → IsUpperBound upward x items → q < x.0
    → listed items q ≡ 0
unlisted x [] q top below = refl
unlisted x (y ∷ items) q top below =
    let above : x.0 ≤ y.0 = by (nat_lt y.0 x.0) refl top.0 in
    let apart : nat_eq y.0 q ≡ false = ne_eqb y.0 q (λ e. omega (arith, above, below, e)) in
    sum_by-cons (λ r. cond (nat_eq r.0 q) 1 0) y items ∙ ap (λ b. cond b 1 0 + listed items q) apart
    ∙ plain (listed items q) ∙ unlisted x items q top.1 below
  where
    plain : (n : ℕ) → 0 + n ≡ n
    plain n = omega arith

    by : (b : Bool) → nat_lt y.0 x.0 ≡ b → is_lt (cond b Less (cond (nat_eq y.0 x.0) Equal Greater)) ≡ false → x.0 ≤ y.0
    by true e over = cc
    by false e over = ltb-false y.0 x.0 e

module _ {A : Type 0} (places : List (Option Slot)) (free after : BinaryHeap (Reverse ℕ) A) (is : HoldsFree places free)
  where
    -- the top is the least free place
    pub record Popped (x : Reverse ℕ) : Type 0 where
      pub moved : IsPermutation (heap_items free) (x ∷ heap_items after)
      pub order : PopsGreatest upward (heap_items free) x (heap_items after)
      pub fewer : heap_len after + 1 ≡ heap_len free
      pub same_room : heap_capacity after ≡ heap_capacity free

    module _ (x : Reverse ℕ) (pop : Popped x) where
      one_less : (q : ℕ) → listed (heap_items after) q + cond (nat_eq x.0 q) 1 0 ≡ free_at places q
      one_less q = sum_by_popped (λ r. cond (nat_eq r.0 q) 1 0) x (heap_items free) (heap_items after) pop.moved
          ∙ is.each q

      pub top_free : 1 ≤ free_at places x.0
      top_free =
          let itself : nat_eq x.0 x.0 ≡ true = grind (arith, nat_tests) in
          let one : ◌≡◌ {A = ℕ} (cond (nat_eq x.0 x.0) 1 0) 1 = ap (λ b. cond b 1 0) itself in
          omega (arith, one_less x.0, one)

      pub top_least : x.0 ≡ first_free places
      top_least = least places x.0 top_free (λ k below. sym (is.each k)
          ∙ unlisted x (heap_items free) k (pop.order is.ordered).1 below)

      pub top_within : x.0 < length places
      top_within = free_within places x.0 top_free

      pub popped_holds : (slot : Slot) → HoldsFree (placed slot places) after
      popped_holds slot =
          let longer = length-within places slot (omega (arith, top_within, top_least)) in
          record {
            each =
                λ q. by q (nat_eq x.0 q) refl (one_less q) ∙ ap (λ n. cond (nat_eq n q) 0 (free_at places q)) top_least
                ∙ sym (free_at-placed places slot q);
            many = omega (arith, is.many, pop.fewer, longer, count-placed places slot);
            ordered = (pop.order is.ordered).0;
            room = omega (arith, is.room, pop.same_room, longer);
          }
        where
          by : (q : ℕ) (b : Bool) → nat_eq x.0 q ≡ b → listed (heap_items after) q + cond b 1 0 ≡ free_at places q
              → listed (heap_items after) q ≡ cond b 0 (free_at places q)
          by q true e less = omega (arith, less, free_le places q)
            where
              free_le : (ks : List (Option Slot)) (n : ℕ) → free_at ks n ≤ 1
              free_le [] n = omega arith
              free_le (None ∷ ks) zero = omega arith
              free_le (Some slot ∷ ks) zero = omega arith
              free_le (place ∷ ks) (suc n) = free_le ks n
          by q false e less = omega (arith, less)

    -- where there is no free place one more is made, which is taken
    pub empty_behind : heap_len free ≡ 0 → length places ≡ first_free places
    empty_behind none = all_taken places (omega (arith, none, is.many))

    pub grown_holds : (slot : Slot) → heap_len free ≡ 0 → HeapUnchanged free after
        → heap_capacity after ≡ heap_capacity free → length places < heap_capacity free
        → HoldsFree (placed slot places) after
    grown_holds slot none same same_room more =
        let behind = empty_behind none in
        let longer = length-behind places slot behind in
        record {
          each = λ q. ap (λ items. listed items q) same.0 ∙ is.each q ∙ by q (nat_eq (first_free places) q) refl
              ∙ sym (free_at-placed places slot q);
          many = omega (arith, is.many, same.1, longer, count-placed places slot);
          ordered = subst (IsHeap upward) (sym same.0) is.ordered;
          room = omega (arith, more, same_room, longer);
        }
      where
        by : (q : ℕ) (b : Bool) → nat_eq (first_free places) q ≡ b → free_at places q ≡ cond b 0 (free_at places q)
        by q true e =
            let place : length places ≡ q = empty_behind none ∙ eqb-true (first_free places) q e in
            ap (free_at places) (sym place) ∙ free_behind places
        by q false e = refl

    -- a place that was taken is freed
    pub freed_room : (at : ℕ) → IsTaken places at → heap_len free < heap_capacity free
    freed_room at there = omega (arith, is.many, is.room, count-freed places at there.within there.taken)

    pub freed_holds : (at : ℕ) (x : Reverse ℕ) → x.0 ≡ at → IsTaken places at
        → IsPermutation (x ∷ heap_items free) (heap_items after) → KeepsHeap upward (heap_items free) (heap_items after)
        → heap_len after ≡ heap_len free + 1 → heap_capacity free ≤ heap_capacity after
        → HoldsFree (slice_set places at None) after
    freed_holds at x here there moved order more_len more_room =
        record {
          each = λ q. sum_by_pushed (λ r. cond (nat_eq r.0 q) 1 0) x (heap_items free) (heap_items after) moved
              ∙ ap (λ n. cond (nat_eq n q) 1 0 + listed (heap_items free) q) here
              ∙ ap (λ n. cond (nat_eq at q) 1 0 + n) (is.each q)
              ∙ by q (nat_eq at q) refl ∙ sym (free_at-freed places at q there.within);
          many =
              omega (arith, is.many, more_len, count-freed places at there.within there.taken, length-freed places at);
          ordered = order is.ordered;
          room = omega (arith, is.room, more_room, length-freed places at);
        }
      where
        by : (q : ℕ) (b : Bool) → nat_eq at q ≡ b → cond b 1 0 + free_at places q ≡ cond b 1 (free_at places q)
        by q true e =
            let place : at ≡ q = eqb-true at q e in
            let none : free_at places q ≡ 0 = ap (free_at places) (sym place) ∙ there.taken in
            omega (arith, none)
        by q false e = omega arith

    -- a slot is written to a place that is taken
    pub set_holds : (at : ℕ) (slot : Slot) → IsTaken places at → HoldsFree (slice_set places at (Some slot)) free
    set_holds at slot there =
        record {
          each = λ q. is.each q ∙ sym (free_at-set places at q slot there.taken);
          many = omega (arith, is.many, taken-set places at slot there.taken, length-set places at slot);
          ordered = is.ordered;
          room = omega (arith, is.room, length-set places at slot);
        }

-- the top is the least free place
pub peek_least : {A : Type 0} (places : List (Option Slot)) (free : BinaryHeap (Reverse ℕ) A) → HoldsFree places free
    → (x : Reverse ℕ) → slice_get (heap_items free) 0 ≡ Some x → IsUpperBound upward x (heap_items free)
    → x.0 ≡ first_free places
peek_least places free is x first top = least places x.0
    (omega (arith, is.each x.0, listed-first (heap_items free) first))
    (λ k below. sym (is.each k) ∙ unlisted x (heap_items free) k top below)
  where
    listed-first : (items : List (Reverse ℕ)) → slice_get items 0 ≡ Some x → 1 ≤ listed items x.0
    listed-first [] e = cc
    listed-first (y ∷ items) e =
        let one : y ≡ x = cc in
        let itself : nat_eq x.0 x.0 ≡ true = grind (arith, nat_tests) in
        let counted : listed (y ∷ items) x.0 ≡ cond (nat_eq y.0 x.0) 1 0 + listed items x.0 =
        sum_by-cons (λ r. cond (nat_eq r.0 x.0) 1 0) y items in
        let first_one : ◌≡◌ {A = ℕ} (cond (nat_eq y.0 x.0) 1 0) 1 =
        ap (λ r. cond (nat_eq r.0 x.0) 1 0) one ∙ ap (λ b. cond b 1 0) itself in
        omega (arith, counted, first_one)
