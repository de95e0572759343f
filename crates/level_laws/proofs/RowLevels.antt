-- What the functions of rows do where all epochs are made one: the same, and those of what they leave are that one.
use Rattle.std.proofs.Common.{◌≡◌, ◌∙◌, ℕ, ◌+◌, ◌&&◌, Bool, true, false, not, nat_le, List, [], ◌∷◌, map, drop, refl}
use Rattle.std.proofs.Common.{sym, ap}
use Rattle.std.specs.Prelude.{Option, None, Some, is_some, position, remove, slice_index_or, option_map}
use Rattle.std.proofs.lemmas.List.{drop-map, map-set, map_push}
use Rattle.sig_core.specs.declared.member.TxId.{TxId}
use Rattle.sig_core.specs.declared.rows.PendingRecord.{PendingRecord}
use Rattle.sig_core.specs.declared.rows.Slot.{Slot}
use Rattle.sig_core.specs.declared.rows.TheConstants.{PLACES}
use Rattle.sig_core.specs.Rows as rows
use Rattle.sig_core.specs.Rows.{RowsState}
use Rattle.level_laws.specs.Levels.{record_at, rows_at, slot_at}
use Rattle.level_laws.proofs.MappedLists.{any-map, get-map, index-map, position-map, remove-map}

module _ (epoch : ℕ) where
  -- places
  at_level : (key : List ℕ) (slot : Option Slot) → rows.is_at key (slot_at epoch slot) ≡ rows.is_at key slot
  at_level key None = refl
  at_level key (Some slot) = refl

  row_level : (slot : Option Slot) → rows.row_in (slot_at epoch slot) ≡ rows.row_in slot
  row_level None = refl
  row_level (Some slot) = refl

  pub slot_level : (places : List (Option Slot)) (at : ℕ)
      → slice_index_or (map (slot_at epoch) places) at None ≡ slot_at epoch (slice_index_or places at None)
  slot_level places at = index-map (slot_at epoch) None refl places at

  row_in_level : (places : List (Option Slot)) (at : ℕ)
      → rows.row_in (slice_index_or (map (slot_at epoch) places) at None)
      ≡ rows.row_in (slice_index_or places at None)
  row_in_level places at = ap rows.row_in (slot_level places at) ∙ row_level (slice_index_or places at None)

  place_level : (places : List (Option Slot)) (key : List ℕ)
      → rows.place_of (map (slot_at epoch) places) key ≡ rows.place_of places key
  place_level places key = position-map (slot_at epoch) (rows.is_at key) (at_level key) places

  row_of_level : (s : RowsState) (key : List ℕ) → rows.row_of (rows_at epoch s) key ≡ rows.row_of s key
  unfolding rows.row_of
  row_of_level s key = ap (rows.row_by (map (slot_at epoch) s.places)) (place_level s.places key)
      ∙ by (rows.place_of s.places key)
    where
      by : (at : Option ℕ) → rows.row_by (map (slot_at epoch) s.places) at ≡ rows.row_by s.places at
      by None = refl
      by (Some at) = row_in_level s.places at

  pub taken_level : (places : List (Option Slot)) → rows.taken (map (slot_at epoch) places) ≡ rows.taken places
  taken_level [] = refl
  taken_level (None ∷ places) = taken_level places
  taken_level (Some slot ∷ places) = ap (λ n. 1 + n) (taken_level places)

  placed_level : (places : List (Option Slot)) (key : List ℕ)
      → rows.placed (rows.no_row key) (map (slot_at epoch) places)
      ≡ map (slot_at epoch) (rows.placed (rows.no_row key) places)
  placed_level [] key = refl
  placed_level (None ∷ places) key = refl
  placed_level (Some slot ∷ places) key = ap (λ w. slot_at epoch (Some slot) ∷ w) (placed_level places key)

  with_place_level : (places : List (Option Slot)) (key : List ℕ)
      → rows.with_place (map (slot_at epoch) places) key ≡ map (slot_at epoch) (rows.with_place places key)
  with_place_level places key = ap (rows.with_place_by (map (slot_at epoch) places) key) (place_level places key)
      ∙ by (rows.place_of places key)
    where
      by : (at : Option ℕ) → rows.with_place_by (map (slot_at epoch) places) key at
          ≡ map (slot_at epoch) (rows.with_place_by places key at)
      by None = placed_level places key
      by (Some at) = refl

  set_row_level : (places : List (Option Slot)) (key : List ℕ) (row : Option (List ℕ)) (other : ℕ)
      → rows.set_row (map (slot_at epoch) places) key row epoch
      ≡ map (slot_at epoch) (rows.set_row places key row other)
  set_row_level places key row other =
      ap (rows.set_row_by (map (slot_at epoch) places) key row epoch) (place_level places key)
      ∙ by (rows.place_of places key)
    where
      by : (at : Option ℕ) → rows.set_row_by (map (slot_at epoch) places) key row epoch at
          ≡ map (slot_at epoch) (rows.set_row_by places key row other at)
      by None = refl
      by (Some at) = sym (map-set (slot_at epoch) places at (Some (rows.with_row key row other)))

  -- records
  place_of_record_level : (pending : List PendingRecord) (tx : TxId) (key : List ℕ)
      → rows.record_at (map (record_at epoch) pending) tx key ≡ rows.record_at pending tx key
  place_of_record_level pending tx key = position-map (record_at epoch) (rows.is_of tx key) (λ r. refl) pending

  record_of_level : (s : RowsState) (tx : TxId) (key : List ℕ)
      → rows.record_of (rows_at epoch s) tx key ≡ option_map (record_at epoch) (rows.record_of s tx key)
  unfolding rows.record_of
  record_of_level s tx key =
      ap (rows.get_at (map (record_at epoch) s.pending)) (place_of_record_level s.pending tx key)
      ∙ by (rows.record_at s.pending tx key)
    where
      by : (at : Option ℕ) → rows.get_at (map (record_at epoch) s.pending) at
          ≡ option_map (record_at epoch) (rows.get_at s.pending at)
      by None = refl
      by (Some at) = get-map (record_at epoch) s.pending at

  pub seen_level : (s : RowsState) (tx : TxId) (key : List ℕ)
      → rows.seen (rows_at epoch s) tx key ≡ rows.seen s tx key
  unfolding rows.seen
  seen_level s tx key = ap (rows.seen_by (rows_at epoch s) key) (record_of_level s tx key)
      ∙ by (rows.record_of s tx key)
    where
      by : (r : Option PendingRecord) → rows.seen_by (rows_at epoch s) key (option_map (record_at epoch) r)
          ≡ rows.seen_by s key r
      by None = row_of_level s key
      by (Some r) = refl

  pub record_state_level : (s : RowsState) (tx : TxId) (key : List ℕ)
      → rows.record_state (rows_at epoch s) tx key ≡ rows.record_state s tx key
  unfolding rows.record_state
  record_state_level s tx key = ap rows.state_by (record_of_level s tx key) ∙ by (rows.record_of s tx key)
    where
      by : (r : Option PendingRecord) → rows.state_by (option_map (record_at epoch) r) ≡ rows.state_by r
      by None = refl
      by (Some r) = refl

  -- an image is prepared
  recorded_level : (pending : List PendingRecord) (tx : TxId) (key : List ℕ) (image : Option (List ℕ)) (at : Option ℕ)
      → rows.recorded_by (map (record_at epoch) pending) (rows.prepared tx key image) at
      ≡ map (record_at epoch) (rows.recorded_by pending (rows.prepared tx key image) at)
  recorded_level pending tx key image None = sym (map_push (record_at epoch) pending (rows.prepared tx key image))
  recorded_level pending tx key image (Some at) =
      sym (map-set (record_at epoch) pending at (rows.prepared tx key image))

  pub storing_level : (s : RowsState) (tx : TxId) (key : List ℕ) (image : Option (List ℕ))
      → rows.storing (rows_at epoch s) tx key image ≡ rows_at epoch (rows.storing s tx key image)
  unfolding rows.storing
  storing_level s tx key image =
      let pending : rows.recorded_by (map (record_at epoch) s.pending) (rows.prepared tx key image)
      (rows.record_at (map (record_at epoch) s.pending) tx key)
      ≡ map (record_at epoch)
      (rows.recorded_by s.pending (rows.prepared tx key image) (rows.record_at s.pending tx key)) =
      ap (rows.recorded_by (map (record_at epoch) s.pending) (rows.prepared tx key image))
      (place_of_record_level s.pending tx key)
      ∙ recorded_level s.pending tx key image (rows.record_at s.pending tx key) in
      λ i. record { places = with_place_level s.places key i; pending = pending i }

  pub full_level : (s : RowsState) (key : List ℕ) → rows.is_full (rows_at epoch s) key ≡ rows.is_full s key
  unfolding rows.is_full
  full_level s key =
      λ i. not (is_some (place_level s.places key i)) && nat_le PLACES (taken_level s.places i)

  -- a record is committed
  commit_if_level : (s : RowsState) (at : ℕ) (r : PendingRecord) (other : ℕ) (done : Bool)
      → rows.commit_if (rows_at epoch s) at (record_at epoch r) epoch done
      ≡ rows_at epoch (rows.commit_if s at r other done)
  commit_if_level s at r other true = refl
  commit_if_level s at r other false = λ i. record {
    places = set_row_level s.places r.key r.image other i;
    pending = sym (map-set (record_at epoch) s.pending at (rows.committed r other)) i;
  }

  pub commit_level : (s : RowsState) (tx : TxId) (key : List ℕ) (other : ℕ)
      → rows.commit_record (rows_at epoch s) tx key epoch ≡ rows_at epoch (rows.commit_record s tx key other)
  unfolding rows.commit_record
  commit_level s tx key other =
      (λ i. rows.commit_by (rows_at epoch s) epoch (place_of_record_level s.pending tx key i)
      (record_of_level s tx key i))
      ∙ by (rows.record_at s.pending tx key) (rows.record_of s tx key)
    where
      by : (at : Option ℕ) (r : Option PendingRecord)
          → rows.commit_by (rows_at epoch s) epoch at (option_map (record_at epoch) r)
          ≡ rows_at epoch (rows.commit_by s other at r)
      by None r = refl
      by (Some at) None = refl
      by (Some at) (Some r) = commit_if_level s at r other r.committed

  -- a record is dropped
  idle_level : (pending : List PendingRecord) (key : List ℕ)
      → rows.is_idle (map (record_at epoch) pending) key ≡ rows.is_idle pending key
  idle_level pending key = ap not (any-map (record_at epoch) (rows.is_on key) (λ r. refl) pending)

  freed_if_level : (places : List (Option Slot)) (at : ℕ) (row : Option (List ℕ)) (idle : Bool)
      → rows.freed_if (map (slot_at epoch) places) at row idle
      ≡ map (slot_at epoch) (rows.freed_if places at row idle)
  freed_if_level places at None true = sym (map-set (slot_at epoch) places at None)
  freed_if_level places at None false = refl
  freed_if_level places at (Some value) idle = refl

  freed_level : (places : List (Option Slot)) (pending : List PendingRecord) (key : List ℕ)
      → rows.freed (map (slot_at epoch) places) (map (record_at epoch) pending) key
      ≡ map (slot_at epoch) (rows.freed places pending key)
  freed_level places pending key =
      (λ i. rows.freed_by (map (slot_at epoch) places) (idle_level pending key i) (place_level places key i))
      ∙ by (rows.is_idle pending key) (rows.place_of places key)
    where
      by : (idle : Bool) (at : Option ℕ) → rows.freed_by (map (slot_at epoch) places) idle at
          ≡ map (slot_at epoch) (rows.freed_by places idle at)
      by idle None = refl
      by idle (Some at) =
          ap (λ row. rows.freed_if (map (slot_at epoch) places) at row idle) (row_in_level places at)
          ∙ freed_if_level places at (rows.row_in (slice_index_or places at None)) idle

  dropping_level : (s : RowsState) (key : List ℕ) (at : ℕ)
      → rows.dropping (rows_at epoch s) key at ≡ rows_at epoch (rows.dropping s key at)
  dropping_level s key at =
      let places : rows.freed (map (slot_at epoch) s.places) (remove (map (record_at epoch) s.pending) at) key
      ≡ map (slot_at epoch) (rows.freed s.places (remove s.pending at) key) =
      ap (λ pending. rows.freed (map (slot_at epoch) s.places) pending key) (remove-map (record_at epoch) s.pending at)
      ∙ freed_level s.places (remove s.pending at) key in
      λ i. record { places = places i; pending = remove-map (record_at epoch) s.pending at i }

  drop_if_level : (s : RowsState) (at : ℕ) (r : PendingRecord) (one : Bool)
      → rows.drop_if (rows_at epoch s) at (record_at epoch r) one ≡ rows_at epoch (rows.drop_if s at r one)
  drop_if_level s at r true = dropping_level s r.key at
  drop_if_level s at r false = refl

  drop_level : (s : RowsState) (tx : TxId) (key : List ℕ) (done : Bool)
      → rows.drop_by (rows_at epoch s) done (rows.record_at (map (record_at epoch) s.pending) tx key)
      (rows.record_of (rows_at epoch s) tx key)
      ≡ rows_at epoch (rows.drop_by s done (rows.record_at s.pending tx key) (rows.record_of s tx key))
  drop_level s tx key done =
      (λ i. rows.drop_by (rows_at epoch s) done (place_of_record_level s.pending tx key i)
      (record_of_level s tx key i))
      ∙ by (rows.record_at s.pending tx key) (rows.record_of s tx key)
    where
      by : (at : Option ℕ) (r : Option PendingRecord)
          → rows.drop_by (rows_at epoch s) done at (option_map (record_at epoch) r)
          ≡ rows_at epoch (rows.drop_by s done at r)
      by None r = refl
      by (Some at) None = refl
      by (Some at) (Some r) = drop_if_level s at r (rows.is_as done r.committed)

  pub abort_level : (s : RowsState) (tx : TxId) (key : List ℕ)
      → rows.abort_record (rows_at epoch s) tx key ≡ rows_at epoch (rows.abort_record s tx key)
  unfolding rows.abort_record
  abort_level s tx key = drop_level s tx key false

  pub complete_level : (s : RowsState) (tx : TxId) (key : List ℕ)
      → rows.complete_record (rows_at epoch s) tx key ≡ rows_at epoch (rows.complete_record s tx key)
  unfolding rows.complete_record
  complete_level s tx key = drop_level s tx key true

  -- rows in the order of their places
  pub next_place_level : (s : RowsState) (from : ℕ)
      → rows.next_place (rows_at epoch s) from ≡ rows.next_place s from
  unfolding rows.next_place
  next_place_level s from =
      ap (λ places. rows.next_by from (position rows.has_row places)) (drop-map (slot_at epoch) from s.places)
      ∙ ap (rows.next_by from)
      (position-map (slot_at epoch) rows.has_row (λ slot. ap is_some (row_level slot)) (drop from s.places))
