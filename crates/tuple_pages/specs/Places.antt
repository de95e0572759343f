-- The places that pages hold.
use Rattle.std.specs.Prelude.{◌≡◌, ℕ, ◌<◌, ◌≤◌, ◌*◌, ◌/◌, ◌%◌, ◌&&◌, Bool, nat_lt, List, [], map, length}
use Rattle.std.specs.Prelude.{slice_index_or, slice_set, Option, None, Some}
use Rattle.std.specs.List.{range_with_len}
use Rattle.std.specs.BinaryHeap.{heap_capacity}
use Rattle.std.specs.declared.cmp.Reverse.{Reverse}
use Rattle.std.specs.declared.collections.BinaryHeap.{BinaryHeap}
use Rattle.sig_core.specs.declared.rows.Slot.{Slot}
use Rattle.sig_core.specs.Rows.{with_row}
use Rattle.tuple_pages.specs.declared.page.TheConstants.{PAGE_SLOTS}
use Rattle.tuple_pages.specs.Free.{HoldsFree}

-- the slot of a place
unfoldable pub place_at : List (List (Option Slot)) → ℕ → Option Slot
place_at pages at = slice_index_or (slice_index_or pages (at / PAGE_SLOTS) []) (at % PAGE_SLOTS) None

-- the first places, so many
unfoldable pub places_in : List (List (Option Slot)) → ℕ → List (Option Slot)
places_in pages len = map (place_at pages) (range_with_len 0 len)

-- the slot of a place is this
unfoldable pub written : List (List (Option Slot)) → ℕ → Option Slot → List (List (Option Slot))
written pages at slot =
    slice_set pages (at / PAGE_SLOTS) (slice_set (slice_index_or pages (at / PAGE_SLOTS) []) (at % PAGE_SLOTS) slot)

-- a place that is taken has this row, of this epoch
abbrev pub rewritten : Option Slot → Option (List ℕ) → ℕ → Option Slot
rewritten None row epoch = None
rewritten (Some slot) row epoch = Some (with_row slot.key row epoch)

-- each page has all of its slots
abbrev pub AreWhole : List (List (Option Slot)) → Type 0
AreWhole pages = (page : ℕ) → page < length pages → length (slice_index_or pages page []) ≡ PAGE_SLOTS

-- pages hold so many places, and the heap those that are free
pub record ArePages {A : Type 0} (pages : List (List (Option Slot))) (len : ℕ) (free : BinaryHeap (Reverse ℕ) A) : Type
    0 where
  pub whole : AreWhole pages
  pub within : len ≤ PAGE_SLOTS * length pages
  pub holds : HoldsFree (places_in pages len) free

-- places, and whether there is memory for one more that is taken
pub record PagesState : Type 0 where
  pub slots : List (Option Slot)
  pub roomy : Bool

-- there is room for one more place, and for it among the free ones
abbrev pub has_spare : {A : Type 0} → List (List (Option Slot)) → ℕ → BinaryHeap (Reverse ℕ) A → Bool
has_spare pages len free = nat_lt len (PAGE_SLOTS * length pages) && nat_lt len (heap_capacity free)

abbrev pub pages_state : {A : Type 0} → List (List (Option Slot)) → ℕ → BinaryHeap (Reverse ℕ) A → PagesState
pages_state pages len free = record { slots = places_in pages len; roomy = has_spare pages len free }
