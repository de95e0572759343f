-- Places by an index of their keys: what they are seen as.
use Rattle.std.specs.Prelude.{◌≡◌, ℕ, Bool, true, false, slice_index_or, List, Option, None, Some}
use Rattle.std.specs.FinMap as map
use Rattle.linear_hash.specs.Places as linear_hash
use Rattle.sig_core.specs.declared.rows.Slot.{Slot}
use Rattle.sig_core.specs.Rows.{is_at, place_of}
use Rattle.sig_core.specs.Same.{same_key}
use Rattle.tuple_pages.specs.Free.{first_free}
use Rattle.tuple_pages.specs.Places.{PagesState}

abbrev pub is_spare : Option (List ℕ) → List ℕ → Bool
is_spare None q = false
is_spare (Some key) q = same_key key q

-- the index leads the key of each place there, and no other key but maybe the spare one
pub record IsIndexed (slots : List (Option Slot)) (index : linear_hash.PlaceMap) (spare : Option (List ℕ)) : Type 0
  where
    pub leads : (q : List ℕ) (at : ℕ) → is_at q (slice_index_or slots at None) ≡ true → map.get index q ≡ Some at
    pub no_other : (q : List ℕ) (at : ℕ) → is_spare spare q ≡ false → map.get index q ≡ Some at
        → is_at q (slice_index_or slots at None) ≡ true

-- where the index leads a key
abbrev pub ahead_of : linear_hash.PlaceMap → Option (List ℕ) → Option ℕ
ahead_of index None = None
ahead_of index (Some key) = map.get index key

-- places, whether there is memory for one more that is taken, a key that may be in the index without a place, and where
-- the index leads it
pub record PlacesState : Type 0 where
  pub slots : List (Option Slot)
  pub roomy : Bool
  pub spare : Option (List ℕ)
  pub ahead : Option ℕ

abbrev pub places_state : PagesState → linear_hash.PlaceMap → Option (List ℕ) → PlacesState
places_state pages index spare = record {
  slots = pages.slots;
  roomy = pages.roomy;
  spare = spare;
  ahead = ahead_of index spare;
}

-- the index leads the key to the least free place
pub record IsAhead (p : PlacesState) (key : List ℕ) : Type 0 where
  pub spare : p.spare ≡ Some key
  pub ahead : p.ahead ≡ Some (first_free p.slots)

-- there is memory for the key's place
pub record IsReady (p : PlacesState) (key : List ℕ) : Type 0 where
  pub roomy : p.roomy ≡ true
  pub ahead : place_of p.slots key ≡ None → IsAhead p key
