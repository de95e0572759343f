-- What a store is seen as.
use Rattle.std.specs.Prelude.{◌≡◌, ℕ, Bool, true, List}
use Rattle.std.specs.List.{count_by}
use Rattle.sig_core.specs.Rows.{RowsState, is_on}
use Rattle.frag_store.specs.HeldPlaces.{HasPlace, HeldState, records_on}
use Rattle.row_records.specs.Records.{RecordsState}

-- the number of records on each key is kept with its place
abbrev pub IsCounted : HeldState → RecordsState → Type 0
IsCounted places records = (q : List ℕ) → records_on places q ≡ count_by (is_on q) records.pending

-- rows, and for which keys and how many records there is memory
pub record StoreState : Type 0 where
  pub rows : RowsState
  pub places : HeldState
  pub roomy : Bool

abbrev pub store_state : HeldState → RecordsState → StoreState
store_state places records = record {
  rows = record { places = places.places.slots; pending = records.pending };
  places = places;
  roomy = records.roomy;
}

-- there is memory for the key's place and for one more record
pub record HasRoom (s : StoreState) (key : List ℕ) : Type 0 where
  pub place : HasPlace s.places key
  pub roomy : s.roomy ≡ true
