-- The rows and records of a replica, key by key.
use Rattle.std.proofs.Common.{◌≡◌, ℕ, Bool, true, false, not, ◌||◌, List, [], ◌∷◌, refl, sym, ap, ◌∙◌, subst}
use Rattle.std.proofs.lemmas.Bool.{not-true}
use Rattle.std.specs.List.{list_any}
use Rattle.std.specs.Prelude.{if◌then◌else◌, Option, None, Some, remove}
use Rattle.run_theory.specs.Lists.{Each}
use Rattle.run_theory.proofs.Pasts.{each_map}
use Rattle.sig_core.proofs.RecordLemmas.{record_of-first}
use Rattle.sig_core.specs.declared.member.TxId.{TxId}
use Rattle.sig_core.specs.declared.rows.PendingRecord.{PendingRecord}
use Rattle.sig_core.specs.declared.rows.Slot.{Slot}
use Rattle.sig_core.specs.Rows as rows
use Rattle.sig_core.specs.Rows.{RowsState, abort_record, commit_by, commit_if, commit_record, complete_record, drop_if}
use Rattle.sig_core.specs.Rows.{dropping, freed, get_at, is_as, is_full, is_idle, is_of, is_on, record_at, record_of}
use Rattle.sig_core.specs.Rows.{row_of, seen, set_row, with_place}
use Rattle.sig_core.specs.Same.{same_key, same_tx}
use Rattle.row_records.proofs.KeyLemmas.{same}
use Rattle.sig_core.specs.Firsts.{first}
use Rattle.row_records.specs.Places.{AreApart, has_place}
use Rattle.key_laws.specs.Placed.{IsPlaced}
use Rattle.key_laws.specs.Records.{as_committed, committed_row, edited, found, if_committed, put_back, unless_committed}
use Rattle.key_laws.specs.Records.{without_epoch}
use Rattle.key_laws.specs.Replica.{Cell, aborting, cell_at, committing, completing, storing}
use Rattle.sig_core.proofs.Firsts.{drop_by, first-drop, first-get, first-set, get_by, set_by}
use Rattle.sig_core.proofs.Keys.{same_key-swap}
use Rattle.key_laws.proofs.EpochLemmas.{AreAlike, committed_row-without, edited-epochless, epochless, found-epochless}
use Rattle.key_laws.proofs.EpochLemmas.{stored-epochless, without}
use Rattle.row_records.proofs.PlaceLemmas.{apart-freed, apart-set_row, apart-with_place, has-freed, has-own_place}
use Rattle.row_records.proofs.PlaceLemmas.{has-set_row, has-with_place, row-freed, row-set_row, row-with_place, row_at}
use Rattle.row_records.proofs.PlaceLemmas.{row_of-at}
use Rattle.key_laws.proofs.RecordsAt.{KeepsKey, each-edited_in, each-first, each-recorded, edited_in, edited_in-drop}
use Rattle.key_laws.proofs.RecordsAt.{edited_in-keep, edited_in-none, edited_in-set, first-found, on, on-edited}
use Rattle.key_laws.proofs.RecordsAt.{on-edited_other, on-storing, on-storing_other}

-- a cell, from the row and the records
cell_is : (c d : Cell) → c.row ≡ d.row → c.pending ≡ d.pending → c ≡ d
cell_is c d row pending = λ i. record { row = row i; pending = pending i }

cell_if : (b : Bool) (c d e : Cell) → (b ≡ true → c ≡ d) → (b ≡ false → c ≡ e) → c ≡ (if b then d else e)
cell_if true c d e own other = own refl
cell_if false c d e own other = other refl

pub either_cell : (b : Bool) (c : Cell) → c ≡ (if b then c else c)
either_cell true c = refl
either_cell false c = refl

-- what is stored
pub cell-storing : (s : RowsState) (tx : TxId) (key : List ℕ) (image : Option (List ℕ)) (q : List ℕ)
    → cell_at q (rows.storing s tx key image)
    ≡ (if same_key key q then storing (cell_at q s) tx key image false else cell_at q s)
unfolding rows.storing
cell-storing s tx key image q = cell_if (same_key key q) (cell_at q (rows.storing s tx key image))
    (storing (cell_at q s) tx key image false) (cell_at q s) own other
  where
    row : row_of (rows.storing s tx key image) q ≡ row_of s q
    row = row_of-at (rows.storing s tx key image) q ∙ row-with_place 0 s.places key q ∙ sym (row_of-at s q)

    own : same_key key q ≡ true → cell_at q (rows.storing s tx key image) ≡ storing (cell_at q s) tx key image false
    own e = cell_is (cell_at q (rows.storing s tx key image)) (storing (cell_at q s) tx key image false) row
        (ap epochless (on-storing q (rows.prepared tx key image) s.pending (same key q e))
        ∙ stored-epochless (rows.prepared tx key image) (on q s.pending))

    other : same_key key q ≡ false → cell_at q (rows.storing s tx key image) ≡ cell_at q s
    other e = cell_is (cell_at q (rows.storing s tx key image)) (cell_at q s) row
        (ap epochless (on-storing_other q (rows.prepared tx key image) s.pending e))

pub placed-storing : (s : RowsState) (tx : TxId) (key : List ℕ) (image : Option (List ℕ)) → IsPlaced s
    → IsPlaced (rows.storing s tx key image)
unfolding rows.storing
placed-storing s tx key image is = record {
  apart = apart-with_place s.places key is.apart;
  placed = each-recorded (λ (r : PendingRecord). has_place (with_place s.places key) r.key ≡ true)
      (rows.prepared tx key image) s.pending (has-own_place s.places key)
      (each_map (λ (r : PendingRecord). has_place s.places r.key ≡ true)
      (λ (r : PendingRecord). has_place (with_place s.places key) r.key ≡ true) s.pending
      (λ r there. has-with_place s.places key r.key there) is.placed);
}

-- a commit, after which a record tells its epoch
commits_in : ℕ → PendingRecord → Option PendingRecord
commits_in epoch r = if r.committed then Some r else Some (rows.committed r epoch)

commits_alike : (epoch : ℕ) → AreAlike (commits_in epoch) as_committed
unfolding commits_in
commits_alike epoch r = by r.committed refl
  where
    by : (b : Bool) → r.committed ≡ b
        → without (if b then Some r else Some (rows.committed r epoch)) ≡ as_committed (without_epoch r)
    by true e = λ i. Some (record { tx = r.tx; key = r.key; image = r.image; committed = e i; epoch = 0 })
    by false e = refl

committed_places : List (Option Slot) → ℕ → Option PendingRecord → List (Option Slot)
committed_places places epoch None = places
committed_places places epoch (Some r) = if r.committed then places else set_row places r.key r.image epoch

record CommitIs (s after : RowsState) (tx : TxId) (key : List ℕ) (epoch : ℕ) : Type 0 where
  pending : after.pending ≡ edited_in (commits_in epoch) (is_of tx key) s.pending
  places : after.places ≡ committed_places s.places epoch (first (is_of tx key) s.pending)

commit_is : (s : RowsState) (tx : TxId) (key : List ℕ) (epoch : ℕ)
    → CommitIs s (commit_record s tx key epoch) tx key epoch
unfolding commit_record committed_places commits_in
commit_is s tx key epoch = by (record_at s.pending tx key) refl (record_of s tx key) refl
  where
    stays : first (is_of tx key) s.pending ≡ None → CommitIs s s tx key epoch
    stays none = record {
      pending = sym (edited_in-none (commits_in epoch) (is_of tx key) s.pending none);
      places = ap (committed_places s.places epoch) (sym none);
    }

    edit : (r : PendingRecord) (b : Bool) → r.committed ≡ b
        → commits_in epoch r ≡ (if b then Some r else Some (rows.committed r epoch))
    edit r b e = ap (λ c. if c then Some r else Some (rows.committed r epoch)) e

    at_record : (at : ℕ) → record_at s.pending tx key ≡ Some at → (r : PendingRecord)
        → first (is_of tx key) s.pending ≡ Some r → (b : Bool) → r.committed ≡ b
        → CommitIs s (commit_if s at r epoch b) tx key epoch
    at_record at at_is r here true e = record {
      pending = sym (edited_in-keep (commits_in epoch) (is_of tx key) s.pending r here (edit r true e));
      places = sym (ap (committed_places s.places epoch) here ∙ ap
          (λ b. if b then s.places else set_row s.places r.key r.image epoch) e);
    }
    at_record at at_is r here false e = record {
      pending =
          ap (set_by (rows.committed r epoch) s.pending) (sym at_is)
          ∙ first-set (is_of tx key) (rows.committed r epoch) s.pending
          ∙ sym (edited_in-set (commits_in epoch) (is_of tx key) s.pending r (rows.committed r epoch) here
          (edit r false e));
      places = sym (ap (committed_places s.places epoch) here ∙ ap
          (λ b. if b then s.places else set_row s.places r.key r.image epoch) e);
    }

    by : (at : Option ℕ) → record_at s.pending tx key ≡ at → (o : Option PendingRecord) → record_of s tx key ≡ o
        → CommitIs s (commit_by s epoch at o) tx key epoch
    by None at_is o is = stays (sym (first-get (is_of tx key) s.pending) ∙ ap (get_by s.pending) at_is)
    by (Some at) at_is None is = stays (sym (record_of-first s tx key) ∙ is)
    by (Some at) at_is (Some r) is = at_record at at_is r (sym (record_of-first s tx key) ∙ is) r.committed refl

committed_keeps_key : (epoch : ℕ) → KeepsKey (commits_in epoch)
unfolding commits_in
committed_keeps_key epoch r x is = by r.committed is
  where
    by : (b : Bool) → (if b then Some r else Some (rows.committed r epoch)) ≡ Some x → x.key ≡ r.key
    by true is = let now : r ≡ x = cc in sym (ap (λ (r : PendingRecord). r.key) now)
    by false is = let now : rows.committed r epoch ≡ x = cc in sym (ap (λ (r : PendingRecord). r.key) now)

row-committed : (s : RowsState) → IsPlaced s → (tx : TxId) (key q : List ℕ) (epoch : ℕ) (o : Option PendingRecord)
    → first (is_of tx key) s.pending ≡ o
    → row_at (committed_places s.places epoch o) q
    ≡ (if same_key key q then committed_row (row_at s.places q) o else row_at s.places q)
unfolding committed_places
row-committed s is tx key q epoch None here = by (same_key key q)
  where
    by : (b : Bool) → row_at s.places q ≡ (if b then row_at s.places q else row_at s.places q)
    by true = refl
    by false = refl
row-committed s is tx key q epoch (Some r) here =
    let own = each-first (λ (r : PendingRecord). has_place s.places r.key ≡ true) tx key s.pending r is.placed here in
    by r.committed own.0 own.1
  where
    either : (b : Bool) → row_at s.places q ≡ (if b then row_at s.places q else row_at s.places q)
    either true = refl
    either false = refl

    by : (c : Bool) → has_place s.places r.key ≡ true → r.key ≡ key
        → row_at (if c then s.places else set_row s.places r.key r.image epoch) q
        ≡ (if same_key key q then (if c then row_at s.places q else r.image) else row_at s.places q)
    by true there own = either (same_key key q)
    by false there own = row-set_row s.places r.key q r.image epoch there
        ∙ ap (λ k. if same_key k q then r.image else row_at s.places q) own

pub cell-committed : (s : RowsState) → IsPlaced s → (tx : TxId) (key : List ℕ) (epoch : ℕ) (q : List ℕ)
    → cell_at q (commit_record s tx key epoch) ≡ (if same_key key q then committing (cell_at q s) tx else cell_at q s)
cell-committed s is tx key epoch q = cell_if (same_key key q) (cell_at q (commit_record s tx key epoch))
    (committing (cell_at q s) tx) (cell_at q s) own other
  where
    row : row_of (commit_record s tx key epoch) q
        ≡ (if same_key key q then committed_row (row_at s.places q) (first (is_of tx key) s.pending) else row_at
        s.places q)
    row =
        row_of-at (commit_record s tx key epoch) q ∙ ap (λ w. row_at w q) (commit_is s tx key epoch).places
        ∙ row-committed s is tx key q epoch (first (is_of tx key) s.pending) refl

    own : same_key key q ≡ true → cell_at q (commit_record s tx key epoch) ≡ committing (cell_at q s) tx
    own e =
        let at : key ≡ q = same key q e in
        cell_is (cell_at q (commit_record s tx key epoch)) (committing (cell_at q s) tx)
        (row ∙ ap (λ b. if b then committed_row (row_at s.places q) (first (is_of tx key) s.pending) else row_at
        s.places q) e
        ∙ (λ i. committed_row (sym (row_of-at s q) i) ((ap (λ k. first (is_of tx k) s.pending) at ∙ first-found tx q
        s.pending) i))
        ∙ committed_row-without (row_of s q) (found tx (on q s.pending))
        ∙ ap (committed_row (row_of s q)) (sym (found-epochless tx (on q s.pending))))
        (ap epochless (ap (on q) (commit_is s tx key epoch).pending
        ∙ ap (λ k. on q (edited_in (commits_in epoch) (is_of tx k) s.pending)) at
        ∙ on-edited (commits_in epoch) (committed_keeps_key epoch) tx q s.pending)
        ∙ edited-epochless (commits_in epoch) as_committed (commits_alike epoch) tx (on q s.pending))

    other : same_key key q ≡ false → cell_at q (commit_record s tx key epoch) ≡ cell_at q s
    other e =
        cell_is (cell_at q (commit_record s tx key epoch)) (cell_at q s)
        (row ∙ ap (λ b. if b then committed_row (row_at s.places q) (first (is_of tx key) s.pending) else row_at
        s.places q) e ∙ sym (row_of-at s q))
        (ap epochless (ap (on q) (commit_is s tx key epoch).pending
        ∙ on-edited_other (commits_in epoch) (committed_keeps_key epoch) tx key q s.pending e))

pub placed-committed : (s : RowsState) (tx : TxId) (key : List ℕ) (epoch : ℕ) → IsPlaced s
    → IsPlaced (commit_record s tx key epoch)
unfolding committed_places
placed-committed s tx key epoch is = record {
  apart = subst AreApart (sym (commit_is s tx key epoch).places) (apart (first (is_of tx key) s.pending));
  placed = subst (Each Here) (sym (commit_is s tx key epoch).pending)
      (each-edited_in Here (commits_in epoch) (is_of tx key) s.pending
      (λ r x edit there. ap (has_place (commit_record s tx key epoch).places) (committed_keeps_key epoch r x edit)
      ∙ there)
      (each_map (λ (r : PendingRecord). has_place s.places r.key ≡ true) Here s.pending
      (λ r there. ap (λ w. has_place w r.key) (commit_is s tx key epoch).places
      ∙ there_still r.key (first (is_of tx key) s.pending) ∙ there) is.placed));
}
  where
    Here : PendingRecord → Type 0
    Here = λ r. has_place (commit_record s tx key epoch).places r.key ≡ true

    apart : (o : Option PendingRecord) → AreApart (committed_places s.places epoch o)
    apart None = is.apart
    apart (Some r) = by r.committed
      where
        by : (b : Bool) → AreApart (if b then s.places else set_row s.places r.key r.image epoch)
        by true = is.apart
        by false = apart-set_row r.key r.image epoch s.places is.apart

    there_still : (q : List ℕ) (o : Option PendingRecord)
        → has_place (committed_places s.places epoch o) q ≡ has_place s.places q
    there_still q None = refl
    there_still q (Some r) = by r.committed
      where
        by : (b : Bool)
            → has_place (if b then s.places else set_row s.places r.key r.image epoch) q ≡ has_place s.places q
        by true = refl
        by false = has-set_row r.key r.image epoch q s.places

-- a record is dropped, or not, as its state is asked for
drops : Bool → PendingRecord → Option PendingRecord
drops done r = if is_as done r.committed then None else Some r

drop_same : (done b : Bool) (r x : PendingRecord) → (if b then None else Some r) ≡ Some x → r ≡ x
drop_same done true r x is = absurd cc
drop_same done false r x is = cc

drops_keep_key : (done : Bool) → KeepsKey (drops done)
unfolding drops
drops_keep_key done r x is = sym (ap (λ (r : PendingRecord). r.key) (drop_same done (is_as done r.committed) r x is))

drops_alike : (done : Bool) → AreAlike (drops done) (drops done)
unfolding drops
drops_alike done r = by (is_as done r.committed)
  where
    by : (b : Bool) → without (if b then None else Some r) ≡ (if b then None else Some (without_epoch r))
    by true = refl
    by false = refl

dropped_places : Bool → List (Option Slot) → List PendingRecord → Option PendingRecord → List (Option Slot)
dropped_places done places after None = places
dropped_places done places after (Some r) = if is_as done r.committed then freed places after r.key else places

record DropIs (done : Bool) (s after : RowsState) (tx : TxId) (key : List ℕ) : Type 0 where
  pending : after.pending ≡ edited_in (drops done) (is_of tx key) s.pending
  places : after.places ≡ dropped_places done s.places after.pending (first (is_of tx key) s.pending)

drop_is : (done : Bool) (s : RowsState) (tx : TxId) (key : List ℕ)
    → DropIs done s (rows.drop_by s done (record_at s.pending tx key) (record_of s tx key)) tx key
unfolding drops dropped_places
drop_is done s tx key = by (record_at s.pending tx key) refl (record_of s tx key) refl
  where
    stays : first (is_of tx key) s.pending ≡ None → DropIs done s s tx key
    stays none = record {
      pending = sym (edited_in-none (drops done) (is_of tx key) s.pending none);
      places = ap (dropped_places done s.places s.pending) (sym none);
    }

    at_record : (at : ℕ) → record_at s.pending tx key ≡ Some at → (r : PendingRecord)
        → first (is_of tx key) s.pending ≡ Some r → (b : Bool) → is_as done r.committed ≡ b
        → DropIs done s (drop_if s at r b) tx key
    at_record at at_is r here true e = record {
      pending =
          ap (drop_by s.pending) (sym at_is) ∙ first-drop (is_of tx key) s.pending
          ∙ sym (edited_in-drop (drops done) (is_of tx key) s.pending r here (ap (λ b. if b then None else Some r) e));
      places = sym (ap (dropped_places done s.places (remove s.pending at)) here ∙ ap
          (λ b. if b then freed s.places (remove s.pending at) r.key else s.places) e);
    }
    at_record at at_is r here false e = record {
      pending =
          sym (edited_in-keep (drops done) (is_of tx key) s.pending r here (ap (λ b. if b then None else Some r) e));
      places = sym (ap (dropped_places done s.places s.pending) here ∙ ap
          (λ b. if b then freed s.places s.pending r.key else s.places) e);
    }

    by : (at : Option ℕ) → record_at s.pending tx key ≡ at → (o : Option PendingRecord) → record_of s tx key ≡ o
        → DropIs done s (rows.drop_by s done at o) tx key
    by None at_is o is = stays (sym (first-get (is_of tx key) s.pending) ∙ ap (get_by s.pending) at_is)
    by (Some at) at_is None is = stays (sym (record_of-first s tx key) ∙ is)
    by (Some at) at_is (Some r) is =
        at_record at at_is r (sym (record_of-first s tx key) ∙ is) (is_as done r.committed) refl

module _ (done : Bool) (s after : RowsState) (is : IsPlaced s) (tx : TxId) (key : List ℕ)
    (drop : DropIs done s after tx key) where
  row-dropped : (q : List ℕ) (o : Option PendingRecord)
      → row_at (dropped_places done s.places after.pending o) q ≡ row_at s.places q
  unfolding dropped_places
  row-dropped q None = refl
  row-dropped q (Some r) = by (is_as done r.committed)
    where
      by : (b : Bool) → row_at (if b then freed s.places after.pending r.key else s.places) q ≡ row_at s.places q
      by true = row-freed s.places after.pending r.key is.apart 0 q
      by false = refl

  cell-dropped : (q : List ℕ)
      → cell_at q after ≡ (if same_key key q then record {
        row = row_of s q;
        pending = edited (drops done) tx
            (epochless (on q s.pending));
      } else cell_at q s)
  cell-dropped q = cell_if (same_key key q) (cell_at q after)
      (record { row = row_of s q; pending = edited (drops done) tx (epochless (on q s.pending)) }) (cell_at q s) own
      other
    where
      row : row_of after q ≡ row_of s q
      row = row_of-at after q ∙ ap (λ w. row_at w q) drop.places ∙ row-dropped q (first (is_of tx key) s.pending)
          ∙ sym (row_of-at s q)

      own : same_key key q ≡ true → cell_at q after ≡ record {
        row = row_of s q;
        pending = edited (drops done) tx (epochless (on q s.pending));
      }
      own e =
          cell_is (cell_at q after) (record {
            row = row_of s q;
            pending = edited (drops done) tx
                (epochless (on q s.pending));
          }) row
          (ap epochless (ap (on q) drop.pending ∙ ap (λ k. on q (edited_in (drops done) (is_of tx k) s.pending))
          (same key q e)
          ∙ on-edited (drops done) (drops_keep_key done) tx q s.pending)
          ∙ edited-epochless (drops done) (drops done) (drops_alike done) tx (on q s.pending))

      other : same_key key q ≡ false → cell_at q after ≡ cell_at q s
      other e =
          cell_is (cell_at q after) (cell_at q s) row
          (ap epochless (ap (on q) drop.pending ∙ on-edited_other (drops done) (drops_keep_key done) tx key q s.pending
          e))

  -- a key whose place is freed has no record
  idle_apart : (k : List ℕ) (xs : List PendingRecord) → is_idle xs k ≡ true
      → Each (λ (r : PendingRecord). same_key k r.key ≡ false) xs
  idle_apart k [] idle = tt
  idle_apart k (x ∷ xs) idle =
      by (same_key x.key k) refl (list_any (is_on k) xs) refl
      (not-true (same_key x.key k || list_any (is_on k) xs) idle) (idle_apart k xs)
    where
      by : (b : Bool) → same_key x.key k ≡ b → (c : Bool) → list_any (is_on k) xs ≡ c → (b || c) ≡ false
          → (is_idle xs k ≡ true → Each (λ (r : PendingRecord). same_key k r.key ≡ false) xs)
          → Each (λ (r : PendingRecord). same_key k r.key ≡ false) (x ∷ xs)
      by true e c f none more = absurd cc
      by false e true f none more = absurd cc
      by false e false f none more = (same_key-swap k x.key ∙ e, more (ap not f))

  placed-dropped : IsPlaced after
  unfolding dropped_places drops
  placed-dropped = record {
    apart = subst AreApart (sym drop.places) (apart (first (is_of tx key) s.pending));
    placed = subst (λ w. Each (λ (r : PendingRecord). has_place w r.key ≡ true) after.pending) (sym drop.places)
        (there (first (is_of tx key) s.pending));
  }
    where
      apart : (o : Option PendingRecord) → AreApart (dropped_places done s.places after.pending o)
      apart None = is.apart
      apart (Some r) = by (is_as done r.committed)
        where
          by : (b : Bool) → AreApart (if b then freed s.places after.pending r.key else s.places)
          by true = apart-freed s.places after.pending r.key is.apart
          by false = is.apart

      before : Each (λ (r : PendingRecord). has_place s.places r.key ≡ true) after.pending
      before = subst (Each (λ (r : PendingRecord). has_place s.places r.key ≡ true)) (sym drop.pending)
          (each-edited_in (λ (r : PendingRecord). has_place s.places r.key ≡ true) (drops done) (is_of tx key) s.pending
          (λ r x edit here. ap (has_place s.places) (drops_keep_key done r x edit) ∙ here) is.placed)

      freed_there : (r : PendingRecord) (xs : List PendingRecord)
          → (is_idle after.pending r.key ≡ true → Each (λ (x : PendingRecord). same_key r.key x.key ≡ false) xs)
          → Each (λ (x : PendingRecord). has_place s.places x.key ≡ true) xs
          → Each (λ (x : PendingRecord). has_place (freed s.places after.pending r.key) x.key ≡ true) xs
      freed_there r [] idle all = tt
      freed_there r (x ∷ xs) idle all = (
        has-freed s.places after.pending r.key x.key (λ i. (idle i).0) all.0,
        freed_there r xs (λ i. (idle i).1) all.1,
      )

      there : (o : Option PendingRecord)
          → Each (λ (r : PendingRecord). has_place (dropped_places done s.places after.pending o) r.key ≡ true)
          after.pending
      there None = before
      there (Some r) = by (is_as done r.committed)
        where
          by : (b : Bool)
              → Each (λ (x : PendingRecord). has_place (if b then freed s.places after.pending r.key else s.places)
              x.key ≡ true) after.pending
          by true = freed_there r after.pending (λ idle. idle_apart r.key after.pending idle) before
          by false = before

edited_alike : (f g : PendingRecord → Option PendingRecord) (tx : TxId) (xs : List PendingRecord)
    → ((r : PendingRecord) → f r ≡ g r) → edited f tx xs ≡ edited g tx xs
edited_alike f g tx [] alike = refl
edited_alike f g tx (x ∷ xs) alike =
    λ i. if same_tx x.tx tx then put_back (alike x i) xs else x ∷ edited_alike f g tx xs alike i

drops_completed : (r : PendingRecord) → drops true r ≡ unless_committed r
unfolding drops
drops_completed r = refl

drops_aborted : (r : PendingRecord) → drops false r ≡ if_committed r
unfolding drops
drops_aborted r = by r.committed
  where
    by : (b : Bool) → (if not b then None else Some r) ≡ (if b then Some r else None)
    by true = refl
    by false = refl

pub cell-completed : (s : RowsState) → IsPlaced s → (tx : TxId) (key q : List ℕ)
    → cell_at q (complete_record s tx key) ≡ (if same_key key q then completing (cell_at q s) tx else cell_at q s)
unfolding complete_record
cell-completed s is tx key q =
    cell-dropped true s (complete_record s tx key) is tx key (drop_is true s tx key) q
    ∙ ap (λ w. if same_key key q then record { row = row_of s q; pending = w } else cell_at q s)
    (edited_alike (drops true) unless_committed tx (epochless (on q s.pending)) drops_completed)

pub placed-completed : (s : RowsState) (tx : TxId) (key : List ℕ) → IsPlaced s → IsPlaced (complete_record s tx key)
unfolding complete_record
placed-completed s tx key is = placed-dropped true s (complete_record s tx key) is tx key (drop_is true s tx key)

pub cell-aborted : (s : RowsState) → IsPlaced s → (tx : TxId) (key q : List ℕ)
    → cell_at q (abort_record s tx key) ≡ (if same_key key q then aborting (cell_at q s) tx else cell_at q s)
unfolding abort_record
cell-aborted s is tx key q =
    cell-dropped false s (abort_record s tx key) is tx key (drop_is false s tx key) q
    ∙ ap (λ w. if same_key key q then record { row = row_of s q; pending = w } else cell_at q s)
    (edited_alike (drops false) if_committed tx (epochless (on q s.pending)) drops_aborted)

pub placed-aborted : (s : RowsState) (tx : TxId) (key : List ℕ) → IsPlaced s → IsPlaced (abort_record s tx key)
unfolding abort_record
placed-aborted s tx key is = placed-dropped false s (abort_record s tx key) is tx key (drop_is false s tx key)
