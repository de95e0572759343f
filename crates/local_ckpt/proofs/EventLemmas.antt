-- What each event makes of the rows of a node and of what is prepared.
use Rattle.std.proofs.Common.{◌≡◌, ◌≤◌, ℕ, Bool, true, false, not, List, [], ◌∷◌, drop, refl, sym, ap, ◌∙◌, subst}
use Rattle.std.specs.List.{AllByRecursion as Each}
use Rattle.std.specs.Prelude.{if◌then◌else◌, Option, None, Some}
use Rattle.sig_core.specs.declared.member.TxId.{TxId}
use Rattle.sig_core.specs.declared.rows.PendingRecord.{PendingRecord}
use Rattle.sig_core.specs.declared.rows.Slot.{Slot}
use Rattle.sig_core.specs.Firsts.{drop_first, first}
use Rattle.sig_core.specs.Rows as rows
use Rattle.sig_core.specs.Rows.{RowsState, abort_record, commit_record, complete_record, freed, is_as, is_at, is_idle}
use Rattle.sig_core.specs.Rows.{is_of, no_row, placed, set_row, storing, with_place, with_row}
use Rattle.sig_core.specs.Same.{same_key}
use Rattle.sig_core.proofs.Firsts.{first_passes, set_first}
use Rattle.local_ckpt.specs.Laws.{IsImage, IsReadable}
use Rattle.local_ckpt.specs.Orderly.{IsOrderly, image_in, prepared_in}
use Rattle.row_records.specs.Places.{AreApart, has_place}
use Rattle.local_ckpt.proofs.EditLemmas.{Edits, drops_one, edit_images, puts, sets}
use Rattle.local_ckpt.proofs.Firsts.{put_first}
use Rattle.row_records.proofs.KeyLemmas.{same}
use Rattle.row_records.proofs.PlaceLemmas.{apart-freed, apart-set_row, apart-with_place, by_freed, by_place, has-freed}
use Rattle.row_records.proofs.PlaceLemmas.{has-own_place, has-set_row, has-with_place, other-set_row, own-set_row}
use Rattle.row_records.proofs.PlaceLemmas.{row-freed, row-with_place, row_at, set_row-first}
use Rattle.local_ckpt.proofs.RecordLemmas.{by_record, commits_image, drops_it, drops_nothing, drops_other, idle_none}
use Rattle.local_ckpt.proofs.RecordLemmas.{is_same, key_of_first, own_record, recorded-put, rows_with}

-- after an event on a record the rows are orderly, and what was prepared still is, but for that record
pub record Prepared (s after : RowsState) (tx : TxId) (key : List ℕ) (now : Option (Option (List ℕ))) : Type 0 where
  pub orderly : IsOrderly after
  pub images : (other : TxId) (key2 : List ℕ)
      → image_in after other key2 ≡ (if is_same tx key other key2 then now else image_in s other key2)

-- the committed rows are as they were, each at its place
pub record LeavesRows (s after : RowsState) : Type 0 where
  pub rows_are : (n : ℕ) (q : List ℕ) → row_at (drop n after.places) q ≡ row_at (drop n s.places) q
  pub readable : (most : ℕ) → Each (IsReadable most) s.places → Each (IsReadable most) after.places

-- but for one key's
pub record Rewrites (s after : RowsState) (key : List ℕ) (image : Option (List ℕ)) (epoch : ℕ) : Type 0 where
  pub own : row_at after.places key ≡ image
  pub other : (n : ℕ) (q : List ℕ) → same_key key q ≡ false
      → row_at (drop n after.places) q ≡ row_at (drop n s.places) q
  pub readable : (most : ℕ) → epoch ≤ most → IsImage key image → Each (IsReadable most) s.places
      → Each (IsReadable most) after.places

pub nothing_left : (s : RowsState) → LeavesRows s s
nothing_left s = record { rows_are = λ n q. refl; readable = λ most all. all }

each-set_first : (P : Option Slot → Type 0) (p : Option Slot → Bool) (y : Option Slot) → P y
    → (xs : List (Option Slot)) → Each P xs → Each P (set_first p y xs)
each-set_first P p y own [] all = tt
each-set_first P p y own (x ∷ xs) all = by (p x) (each-set_first P p y own xs all.1)
  where
    by : (b : Bool) → Each P (set_first p y xs) → Each P (if b then y ∷ xs else x ∷ set_first p y xs)
    by true more = (own, all.1)
    by false more = (all.0, more)

each-placed : (most : ℕ) (key : List ℕ) (places : List (Option Slot)) → Each (IsReadable most) places
    → Each (IsReadable most) (placed (no_row key) places)
each-placed most key [] all = (tt, tt)
each-placed most key (None ∷ places) all = (tt, all.1)
each-placed most key (Some other ∷ places) all = (all.0, each-placed most key places all.1)

-- where the keys of those that are prepared have places still, the rows are orderly
orderly_still : (s : RowsState) (after : RowsState) (tx : TxId) (key : List ℕ) (now : Option PendingRecord)
    → Edits s.pending after.pending tx key now → AreApart after.places
    → ((image : Option (List ℕ)) → prepared_in now ≡ Some image → has_place after.places key ≡ true)
    → ((other : TxId) (key2 : List ℕ) (image : Option (List ℕ)) → image_in after other key2 ≡ Some image
    → image_in s other key2 ≡ Some image → has_place after.places key2 ≡ true)
    → Prepared s after tx key (prepared_in now)
orderly_still s after tx key now edits apart own others = record {
  orderly = record {
    apart = apart;
    once = edits.once;
    placed = λ other key2 image there.
        by_record tx other key key2
        (λ t k b. (if b then prepared_in now else image_in s t k) ≡ Some image → has_place after.places k ≡ true)
        (own image) (λ off. others other key2 image there) (sym (images other key2) ∙ there);
  };
  images = images;
}
  where
    images : (other : TxId) (key2 : List ℕ) → image_in after other key2
        ≡ (if is_same tx key other key2 then prepared_in now else image_in s other key2)
    images = edit_images s.pending after.pending tx key now edits

-- a prepare
module _ (s : RowsState) (tx : TxId) (key : List ℕ) (image : Option (List ℕ)) (is : IsOrderly s) where
  made : PendingRecord
  made = rows.prepared tx key image

  with_made : RowsState
  with_made = rows_with (with_place s.places key) (put_first (is_of tx key) made s.pending)

  storing_is : storing s tx key image ≡ with_made
  unfolding storing with_made made
  storing_is =
      ap (rows_with (with_place s.places key)) (recorded-put (is_of tx key) (rows.prepared tx key image) s.pending)

  stores_made : Prepared s with_made tx key (Some image)
  unfolding with_made made
  stores_made =
      orderly_still s with_made tx key (Some made) (puts tx key s.pending is.once made (own_record tx key))
      (apart-with_place s.places key is.apart) (λ found e. has-own_place s.places key)
      (λ other key2 found now was. has-with_place s.places key key2 (is.placed other key2 found was))

  pub stores : Prepared s (storing s tx key image) tx key (Some image)
  stores = subst (λ after. Prepared s after tx key (Some image)) (sym storing_is) stores_made

  rows_made : LeavesRows s with_made
  unfolding with_made
  rows_made = record {
    rows_are = λ n q. row-with_place n s.places key q;
    readable =
        λ most all. by_place (Each (IsReadable most)) s.places key all (λ off. each-placed most key s.places all);
  }

  pub stores_rows : LeavesRows s (storing s tx key image)
  stores_rows = subst (LeavesRows s) (sym storing_is) rows_made

-- a commit of what is prepared
module _ (s : RowsState) (tx : TxId) (key : List ℕ) (epoch : ℕ) (is : IsOrderly s) (r : PendingRecord)
    (found : first (is_of tx key) s.pending ≡ Some r) (begun : r.committed ≡ false) where
  done : PendingRecord
  done = rows.committed r epoch

  with_done : RowsState
  with_done = rows_with (set_row s.places r.key r.image epoch) (set_first (is_of tx key) done s.pending)

  committing_is : commit_record s tx key epoch ≡ with_done
  unfolding with_done done
  committing_is = commits_image s tx key epoch r found begun

  own_done : is_of tx key done ≡ true
  unfolding done
  own_done = first_passes (is_of tx key) s.pending r found

  commits_done : Prepared s with_done tx key None
  unfolding with_done done
  commits_done =
      orderly_still s with_done tx key (Some done) (sets tx key s.pending is.once done own_done r found)
      (apart-set_row r.key r.image epoch s.places is.apart) (λ image e. absurd cc)
      (λ other key2 image now was. has-set_row r.key r.image epoch key2 s.places ∙ is.placed other key2 image was)

  pub commits : Prepared s (commit_record s tx key epoch) tx key None
  commits = subst (λ after. Prepared s after tx key None) (sym committing_is) commits_done

  own_key : r.key ≡ key
  own_key = key_of_first tx key s.pending r found

  has_own : has_place s.places r.key ≡ true
  has_own =
      ap (has_place s.places) own_key
      ∙ is.placed tx key r.image (ap prepared_in found ∙ ap (λ b. if b then None else Some r.image) begun)

  row_done : (most : ℕ) (image : Option (List ℕ)) → IsImage r.key image → epoch ≤ most
      → IsReadable most (Some (with_row r.key image epoch))
  row_done most None good few = tt
  row_done most (Some value) good few = record { key = good.key_is; epoch = few; value = good.image_is }

  rewrites : Rewrites s with_done r.key r.image epoch
  unfolding with_done
  rewrites = record {
    own = own-set_row r.key r.image epoch s.places has_own;
    other = λ n q off. other-set_row r.key r.image epoch n q off s.places;
    readable = λ most few good all.
        subst (Each (IsReadable most)) (sym (set_row-first s.places r.key r.image epoch))
        (each-set_first (IsReadable most) (is_at r.key) (Some (with_row r.key r.image epoch))
        (row_done most r.image good few) s.places all);
  }

  pub commits_row : Rewrites s (commit_record s tx key epoch) key r.image epoch
  commits_row =
      subst (λ k. Rewrites s (commit_record s tx key epoch) k r.image epoch) own_key
      (subst (λ after. Rewrites s after r.key r.image epoch) (sym committing_is) rewrites)

-- a record is dropped, and its key's place is freed unless it is wanted
module _ (s : RowsState) (tx : TxId) (key : List ℕ) (is : IsOrderly s) (r : PendingRecord) where
  abbrev rest : List PendingRecord
  rest = drop_first (is_of tx key) s.pending

  abbrev pub without_it : RowsState
  without_it = rows_with (freed s.places rest r.key) rest

  -- the place of a record's key isn't freed
  not_idle : (other : TxId) (key2 : List ℕ) (image : Option (List ℕ))
      → prepared_in (first (is_of other key2) rest) ≡ Some image
      → is_idle rest r.key ≡ true → same_key r.key key2 ≡ false
  not_idle other key2 image there idle = by (same_key r.key key2) refl
    where
      by : (b : Bool) → same_key r.key key2 ≡ b → b ≡ false
      by true e =
          let gone = idle_none rest other key2 (ap (is_idle rest) (sym (same r.key key2 e)) ∙ idle) in
          absurd (let both : Some image ≡ None = sym there ∙ ap prepared_in gone in cc)
      by false e = refl

  pub drops : Prepared s without_it tx key None
  drops =
      orderly_still s without_it tx key None (drops_one tx key s.pending is.once)
      (apart-freed s.places rest r.key is.apart)
      (λ image e. absurd cc)
      (λ other key2 image now was.
      has-freed s.places rest r.key key2 (not_idle other key2 image now) (is.placed other key2 image was))

  pub drops_rows : LeavesRows s without_it
  drops_rows = record {
    rows_are = λ n q. row-freed s.places rest r.key is.apart n q;
    readable = λ most all.
        by_freed (Each (IsReadable most)) s.places rest r.key all
        (λ idle none. each-set_first (IsReadable most) (is_at r.key) None tt s.places all);
  }

-- where nothing is prepared nothing is given up
pub unprepared : (s : RowsState) (tx : TxId) (key : List ℕ) → IsOrderly s → image_in s tx key ≡ None
    → Prepared s s tx key None
unprepared s tx key is none = record {
  orderly = is;
  images = λ other key2.
      by_record tx other key key2 (λ t k b. image_in s t k ≡ (if b then None else image_in s t k)) none (λ off. refl);
}

-- an abort, and the end of a record that is committed
pub record Ends (s after : RowsState) (tx : TxId) (key : List ℕ) : Type 0 where
  pub prepared : Prepared s after tx key None
  pub leaves : LeavesRows s after

module _ (s : RowsState) (tx : TxId) (key : List ℕ) (is : IsOrderly s) where
  same_rows : (after : RowsState) → after ≡ s → image_in s tx key ≡ None → Ends s after tx key
  same_rows after e none =
      subst (λ w. Ends s w tx key) (sym e) (record { prepared = unprepared s tx key is none; leaves = nothing_left s })

  gone : (after : RowsState) (r : PendingRecord) → after ≡ without_it s tx key is r → Ends s after tx key
  gone after r e =
      subst (λ w. Ends s w tx key) (sym e)
      (record { prepared = drops s tx key is r; leaves = drops_rows s tx key is r })

  pub aborts : Ends s (abort_record s tx key) tx key
  unfolding abort_record
  aborts = by (first (is_of tx key) s.pending) refl
    where
      by : (o : Option PendingRecord) → first (is_of tx key) s.pending ≡ o → Ends s (abort_record s tx key) tx key
      by None e = same_rows (abort_record s tx key) (drops_nothing false s tx key e) (ap prepared_in e)
      by (Some r) e = if_done r.committed refl
        where
          if_done : (b : Bool) → r.committed ≡ b → Ends s (abort_record s tx key) tx key
          if_done true f =
              same_rows (abort_record s tx key) (drops_other false s tx key r e (ap not f))
              (ap prepared_in e ∙ ap (λ b. if b then None else Some r.image) f)
          if_done false f = gone (abort_record s tx key) r (drops_it false s tx key r e (ap not f))

  -- what is done with was not prepared any more
  pub record Completes (after : RowsState) : Type 0 where
    pub orderly : IsOrderly after
    pub images : (other : TxId) (key2 : List ℕ) → image_in after other key2 ≡ image_in s other key2
    pub leaves : LeavesRows s after

  pub completes : Completes (complete_record s tx key)
  unfolding complete_record
  completes = by (first (is_of tx key) s.pending) refl
    where
      stays : complete_record s tx key ≡ s → Completes (complete_record s tx key)
      stays e = subst Completes (sym e) (record { orderly = is; images = λ other key2. refl; leaves = nothing_left s })

      by : (o : Option PendingRecord) → first (is_of tx key) s.pending ≡ o → Completes (complete_record s tx key)
      by None e = stays (drops_nothing true s tx key e)
      by (Some r) e = if_done r.committed refl
        where
          if_done : (b : Bool) → r.committed ≡ b → Completes (complete_record s tx key)
          if_done false f = stays (drops_other true s tx key r e f)
          if_done true f =
              let ended = gone (complete_record s tx key) r (drops_it true s tx key r e f) in
              record {
                orderly = ended.prepared.orderly;
                images = λ other key2.
                    by_record tx other key key2 (λ t k b. image_in (complete_record s tx key) t k ≡ image_in s t k)
                    (ended.prepared.images tx key ∙ ap (λ b. if b then None else image_in s tx key) (own_record tx key)
                    ∙ sym (ap prepared_in e ∙ ap (λ b. if b then None else Some r.image) f))
                    (λ off. ended.prepared.images other key2 ∙ ap (λ b. if b then None else image_in s other key2) off);
                leaves = ended.leaves;
              }
