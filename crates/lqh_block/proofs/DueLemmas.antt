-- What a journal keeps free covers the ends of prepared records, whatever becomes of them.
use Rattle.std.proofs.Common.{◌≡◌, ℕ, zero, suc, ◌+◌, ◌≤◌, Bool, true, false, ◌&&◌, List, [], ◌∷◌, ◌++◌, length}
use Rattle.std.proofs.Common.{slice_set, slice_get, get_or, remove, refl, ap, sym, ◌∙◌, arith, subst}
use Rattle.std.specs.Prelude.{Option, None, Some}
use Rattle.std.specs.Cmp.Lexicographic.{bytes_decides}
use Rattle.std.proofs.lemmas.List.Quantifiers.{position-Some}
use Rattle.std.proofs.lemmas.Option.{slice_get-get_or}
use Rattle.sig_core.specs.declared.member.TxId.{TxId}
use Rattle.sig_core.specs.declared.redo.Redo.TheVariants as redo
use Rattle.sig_core.specs.declared.rows.PendingRecord.{PendingRecord}
use Rattle.sig_core.specs.Journal.{JournalState, appending, unreserving}
use Rattle.sig_core.specs.Redo.{size_of}
use Rattle.sig_core.specs.Rows.{RowsState, abort_record, commit_by, commit_if, commit_record, committed}
use Rattle.sig_core.specs.Rows.{complete_record, drop_by, drop_if, get_at, is_as, is_of, prepared, record_at, record_of}
use Rattle.sig_core.specs.Rows.{record_state, recorded_by, state_by, storing}
use Rattle.sig_core.specs.Same.{same_key, same_tx}
use Rattle.lqh_block.specs.Due.{IsCovered, due, due_if, due_of}
use Rattle.lqh_block.specs.Storage.{prepared_journal}

size_of-Commit : (tx : TxId) (epoch : ℕ) (key : List ℕ) → size_of (redo.Commit tx epoch key) ≡ 25 + length key
unfolding size_of
size_of-Commit tx epoch key = refl

size_of-Abort : (tx : TxId) (key : List ℕ) → size_of (redo.Abort tx key) ≡ 17 + length key
unfolding size_of
size_of-Abort tx key = refl

due_of-append : (pending : List PendingRecord) (r : PendingRecord) → due_of (pending ++ r ∷ []) ≡ due_of pending + due r
due_of-append [] r = omega arith
due_of-append (p ∷ pending) r = omega (arith, due_of-append pending r)

due_of-set : (pending : List PendingRecord) (at : ℕ) (r x : PendingRecord) → slice_get pending at ≡ Some r
    → due_of (slice_set pending at x) + due r ≡ due_of pending + due x
due_of-set [] at r x there = cc
due_of-set (p ∷ pending) zero r x there =
    let same_one : p ≡ r = cc in omega (arith, ap due same_one)
due_of-set (p ∷ pending) (suc at) r x there = omega (arith, due_of-set pending at r x there)

due_of-remove : (pending : List PendingRecord) (at : ℕ) (r : PendingRecord) → slice_get pending at ≡ Some r
    → due_of (remove pending at) + due r ≡ due_of pending
due_of-remove [] at r there = cc
due_of-remove (p ∷ pending) zero r there =
    let same_one : p ≡ r = cc in omega (arith, ap due same_one)
due_of-remove (p ∷ pending) (suc at) r there = omega (arith, due_of-remove pending at r there)

-- the record that is found is on the key
record IsFound (pending : List PendingRecord) (key : List ℕ) (at : ℕ) (r : PendingRecord) : Type 0 where
  there : slice_get pending at ≡ Some r
  on_key : r.key ≡ key

second : (a b : Bool) → (a && b) ≡ true → b ≡ true
second true b e = e
second false b e = cc

found_at : (pending : List PendingRecord) (tx : TxId) (key : List ℕ) (at : ℕ) (d : PendingRecord)
    → record_at pending tx key ≡ Some at → IsFound pending key at (get_or pending at d)
found_at pending tx key at d is =
    let passes = position-Some (is_of tx key) pending at d is in
    record {
      there = slice_get-get_or pending at d passes.0;
      on_key =
          (bytes_decides (get_or pending at d).key key).0
          (second (same_tx (get_or pending at d).tx tx) (same_key (get_or pending at d).key key) passes.1);
    }

due-prepared : (r : PendingRecord) (key : List ℕ) → r.key ≡ key → r.committed ≡ false → due r ≡ 25 + length key
due-prepared r key on is = ap (λ b. due_if r b) is ∙ size_of-Commit r.tx 0 r.key ∙ ap (λ k. 25 + length k) on

due-committed : (r : PendingRecord) → r.committed ≡ true → due r ≡ 0
due-committed r is = ap (λ b. due_if r b) is

-- a record in place of one that the transaction had on the key
kept_after : (pending : List PendingRecord) (tx : TxId) (key : List ℕ) (image : Option (List ℕ)) (at : ℕ)
    (j : JournalState) (r : PendingRecord) (b : Bool)
    → slice_get pending at ≡ Some r → r.key ≡ key → r.committed ≡ b → due_of pending ≤ j.reserved
    → due_of (slice_set pending at (prepared tx key image)) ≤ (prepared_journal j tx key image (Some b)).reserved
kept_after pending tx key image at j r true there on is kept =
    omega (arith, kept, due_of-set pending at r (prepared tx key image) there, due-committed r is)
kept_after pending tx key image at j r false there on is kept =
    omega (
      arith,
      kept,
      due_of-set pending at r (prepared tx key image) there,
      due-prepared r key on is,
      size_of-Commit
          tx 0 key,
    )

stored_due : (pending : List PendingRecord) (tx : TxId) (key : List ℕ) (image : Option (List ℕ)) (o : Option ℕ)
    (j : JournalState) → record_at pending tx key ≡ o
    → due_of pending ≤ j.reserved
    → due_of (recorded_by pending (prepared tx key image) o)
    ≤ (prepared_journal j tx key image (state_by (get_at pending o))).reserved
stored_due pending tx key image None j is kept = omega (arith, due_of-append pending (prepared tx key image), kept)
stored_due pending tx key image (Some at) j is kept =
    let d = prepared tx key image in
    let found = found_at pending tx key at d is in
    let r = get_or pending at d in
    let P : Option Bool → Type 0 =
    λ had. due_of (slice_set pending at d) ≤ (prepared_journal j tx key image had).reserved in
    subst P (sym (ap state_by found.there))
    (kept_after pending tx key image at j r r.committed found.there found.on_key refl kept)

pub covered_store : (s : RowsState) (j : JournalState) (tx : TxId) (key : List ℕ) (image : Option (List ℕ))
    → IsCovered s j
    → IsCovered (storing s tx key image) (prepared_journal j tx key image (record_state s tx key))
unfolding storing record_state record_of
covered_store s j tx key image is = record {
  kept = stored_due s.pending tx key image (record_at s.pending tx key) j refl is.kept;
}

-- a prepared record, where there is one
record HasPrepared (s : RowsState) (tx : TxId) (key : List ℕ) : Type 0 where
  at : ℕ
  r : PendingRecord
  placed : record_at s.pending tx key ≡ Some at
  there : slice_get s.pending at ≡ Some r
  open_yet : r.committed ≡ false
  due_is : due r ≡ 25 + length key

has_prepared : (s : RowsState) (tx : TxId) (key : List ℕ) → record_state s tx key ≡ Some false → HasPrepared s tx key
unfolding record_state record_of
has_prepared s tx key had = by (record_at s.pending tx key) refl had
  where
    by : (o : Option ℕ) → record_at s.pending tx key ≡ o → state_by (get_at s.pending o) ≡ Some false
        → HasPrepared s tx key
    by None e had = cc
    by (Some at) e had =
        let d = prepared tx key None in
        let found = found_at s.pending tx key at d e in
        let is : (get_or s.pending at d).committed ≡ false = let both = sym (ap state_by found.there) ∙ had in cc in
        record {
          at = at;
          r = get_or s.pending at d;
          placed = e;
          there = found.there;
          open_yet = is;
          due_is = due-prepared (get_or s.pending at d) key found.on_key is;
        }

within_due : (pending : List PendingRecord) (at : ℕ) (r : PendingRecord) → slice_get pending at ≡ Some r
    → due r ≤ due_of pending
within_due pending at r there = omega (arith, due_of-remove pending at r there)

pub commit_fits : (s : RowsState) (j : JournalState) (tx : TxId) (key : List ℕ) (epoch : ℕ) → IsCovered s j
    → record_state s tx key ≡ Some false
    → size_of (redo.Commit tx epoch key) ≤ j.reserved
commit_fits s j tx key epoch is had =
    let has = has_prepared s tx key had in
    omega (arith, is.kept, within_due s.pending has.at has.r has.there, has.due_is, size_of-Commit tx epoch key)

pub abort_fits : (s : RowsState) (j : JournalState) (tx : TxId) (key : List ℕ) → IsCovered s j
    → record_state s tx key ≡ Some false
    → size_of (redo.Abort tx key) + 8 ≤ j.reserved
abort_fits s j tx key is had =
    let has = has_prepared s tx key had in
    omega (arith, is.kept, within_due s.pending has.at has.r has.there, has.due_is, size_of-Abort tx key)

pub covered_commit : (s : RowsState) (j : JournalState) (tx : TxId) (key : List ℕ) (epoch : ℕ) → IsCovered s j
    → record_state s tx key ≡ Some false
    → IsCovered (commit_record s tx key epoch) (appending j (size_of (redo.Commit tx epoch key)))
unfolding commit_record record_of
covered_commit s j tx key epoch is had =
    let has = has_prepared s tx key had in
    let after = appending j (size_of (redo.Commit tx epoch key)) in
    let P : Option ℕ → Type 0 = λ o. IsCovered (commit_by s epoch o (get_at s.pending o)) after in
    let Q : Option PendingRecord → Type 0 = λ o. IsCovered (commit_by s epoch (Some has.at) o) after in
    let B : Bool → Type 0 = λ b. IsCovered (commit_if s has.at has.r epoch b) after in
    subst P (sym has.placed) (subst Q (sym has.there) (subst B (sym has.open_yet)
    (record {
      kept = omega (
        arith,
        is.kept,
        due_of-set s.pending has.at has.r (committed has.r epoch) has.there,
        has.due_is,
        size_of-Commit tx epoch key,
      );
    })))

pub covered_abort : (s : RowsState) (j : JournalState) (tx : TxId) (key : List ℕ) → IsCovered s j
    → record_state s tx key ≡ Some false
    → IsCovered (abort_record s tx key) (unreserving (appending j (size_of (redo.Abort tx key))) 8)
unfolding abort_record record_of
covered_abort s j tx key is had =
    let has = has_prepared s tx key had in
    let after = unreserving (appending j (size_of (redo.Abort tx key))) 8 in
    let P : Option ℕ → Type 0 = λ o. IsCovered (drop_by s false o (get_at s.pending o)) after in
    let Q : Option PendingRecord → Type 0 = λ o. IsCovered (drop_by s false (Some has.at) o) after in
    let B : Bool → Type 0 = λ b. IsCovered (drop_if s has.at has.r (is_as false b)) after in
    subst P (sym has.placed) (subst Q (sym has.there) (subst B (sym has.open_yet)
    (record {
      kept = omega (arith, is.kept, due_of-remove s.pending has.at has.r has.there, has.due_is, size_of-Abort tx key);
    })))

-- a committed record is dropped, and any other stays
kept_dropped : (s : RowsState) (j : JournalState) (at : ℕ) (r : PendingRecord) (b : Bool)
    → slice_get s.pending at ≡ Some r → r.committed ≡ b → IsCovered s j
    → IsCovered (drop_if s at r (is_as true b)) j
kept_dropped s j at r true there done is = record { kept = omega (arith, is.kept, due_of-remove s.pending at r there) }
kept_dropped s j at r false there done is = is

pub covered_complete : (s : RowsState) (j : JournalState) (tx : TxId) (key : List ℕ) → IsCovered s j
    → IsCovered (complete_record s tx key) j
unfolding complete_record record_of
covered_complete s j tx key is = by (record_at s.pending tx key) refl
  where
    by : (o : Option ℕ) → record_at s.pending tx key ≡ o → IsCovered (drop_by s true o (get_at s.pending o)) j
    by None e = is
    by (Some at) e =
        let d = prepared tx key None in
        let found = found_at s.pending tx key at d e in
        let r = get_or s.pending at d in
        let Q : Option PendingRecord → Type 0 = λ o. IsCovered (drop_by s true (Some at) o) j in
        subst Q (sym found.there) (kept_dropped s j at r r.committed found.there refl is)

pub ruleset dues = (covered_store, commit_fits, abort_fits, covered_commit, covered_abort, covered_complete)

-- nothing is due where nothing is pending
pub covered_at_rest : (s : RowsState) (j : JournalState) → s.pending ≡ [] → IsCovered s j
covered_at_rest s j none = record { kept = omega (arith, ap due_of none) }
