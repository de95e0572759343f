-- Places, and how many records are on the key of each.
use Rattle.std.specs.Prelude.{◌≡◌, ℕ, ◌<◌, ◌≤◌, List, length, slice_index_or, Option, None, Some}
use Rattle.sig_core.specs.declared.rows.Slot.{Slot}
use Rattle.sig_core.specs.Rows.{place_of}
use Rattle.tuple_pages.specs.Free.{first_free}
use Rattle.frag_store.specs.Places.{IsReady, PlacesState}

-- each place has a number, which is 0 where it is free
pub record AreHeld (slots : List (Option Slot)) (held : List ℕ) : Type 0 where
  pub long : length slots ≤ length held
  pub free : (at : ℕ) → slice_index_or slots at None ≡ None → slice_index_or held at 0 ≡ 0

-- places, and the number of records on the key of each
pub record HeldState : Type 0 where
  pub places : PlacesState
  pub held : List ℕ

abbrev pub held_state : PlacesState → List ℕ → HeldState
held_state places held = record { places = places; held = held }

abbrev pub held_at : List ℕ → Option ℕ → ℕ
held_at held None = 0
held_at held (Some at) = slice_index_or held at 0

-- how many records are on a key
abbrev pub records_on : HeldState → List ℕ → ℕ
records_on p key = held_at p.held (place_of p.places.slots key)

-- there is memory for the key's place and its number
pub record HasPlace (p : HeldState) (key : List ℕ) : Type 0 where
  pub ready : IsReady p.places key
  pub wide : first_free p.places.slots < length p.held
