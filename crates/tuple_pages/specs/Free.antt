-- Which places are free, and the heap of them.
use Rattle.std.specs.Prelude.{◌≡◌, ℕ, zero, suc, ◌+◌, ◌≤◌, nat_eq, List, [], ◌∷◌, length, Option, None, Some}
use Rattle.std.specs.BinaryHeap.{IsHeap, heap_capacity, heap_items, heap_len}
use Rattle.std.specs.List.{count_by}
use Rattle.std.specs.Ordering.{nat_cmp}
use Rattle.std.specs.declared.cmp.Reverse.{Reverse}
use Rattle.std.specs.declared.collections.BinaryHeap.{BinaryHeap}
use Rattle.sig_core.specs.declared.rows.Slot.{Slot}
use Rattle.sig_core.specs.Rows.{taken}

-- 1 where the place is free, else 0
abbrev pub free_in : Option Slot → ℕ
free_in None = 1
free_in (Some slot) = 0

abbrev pub free_at : List (Option Slot) → ℕ → ℕ
free_at [] at = 0
free_at (place ∷ places) zero = free_in place
free_at (place ∷ places) (suc at) = free_at places at

-- the least free place
abbrev pub first_free : List (Option Slot) → ℕ
first_free [] = 0
first_free (None ∷ places) = 0
first_free (Some slot ∷ places) = suc (first_free places)

-- how often a place is in the heap
abbrev pub listed : List (Reverse ℕ) → ℕ → ℕ
listed items at = count_by (λ r. nat_eq r.0 at) items

-- the heap has each free place once and no other, the least on top, and has room for all places
pub record HoldsFree {A : Type 0} (places : List (Option Slot)) (free : BinaryHeap (Reverse ℕ) A) : Type 0 where
  pub each : (at : ℕ) → listed (heap_items free) at ≡ free_at places at
  pub many : heap_len free + taken places ≡ length places
  pub ordered : IsHeap (λ one other. nat_cmp other.0 one.0) (heap_items free)
  pub room : length places ≤ heap_capacity free
