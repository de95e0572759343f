-- What is pending behind events is determined by what was pending before them, whatever the places are.
use Rattle.std.proofs.Common.{◌≡◌, List, [], ◌∷◌, ℕ, Bool, true, false, refl, ap, ◌∙◌}
use Rattle.std.specs.Prelude.{Option, None, Some, remove, slice_set}
use Rattle.sig_core.specs.declared.member.TxId.{TxId}
use Rattle.sig_core.specs.declared.redo.Redo.{Redo}
use Rattle.sig_core.specs.declared.redo.Redo.TheVariants as redo
use Rattle.sig_core.specs.declared.rows.PendingRecord.{PendingRecord}
use Rattle.sig_core.specs.Firsts.{first}
use Rattle.sig_core.specs.Rows.{RowsState, abort_record, commit_by, commit_if, commit_record, committed}
use Rattle.sig_core.specs.Rows.{complete_record}
use Rattle.sig_core.specs.Rows.{drop_by, drop_if, get_at, is_as, is_of, prepared, record_at, record_of, recorded_by}
use Rattle.sig_core.specs.Rows.{storing}
use Rattle.sig_core.specs.Table.{Rows}
use Rattle.redo_log.specs.Replaying.{applied}
use Rattle.local_ckpt.specs.Events.{Abort, Commit, Complete, Event, Prepare, Step, changed, left_by, log_if, logged}
use Rattle.local_ckpt.specs.Orderly.{prepared_in}
use Rattle.journal_laws.specs.Events.{own_behind, records_behind, rows_behind}

module _ (s t : RowsState) (same : s.pending ≡ t.pending) where
  commit_found : (epoch : ℕ) (at : Option ℕ) (r : Option PendingRecord)
      → (commit_by s epoch at r).pending ≡ (commit_by t epoch at r).pending
  commit_found epoch None r = same
  commit_found epoch (Some at) None = same
  commit_found epoch (Some at) (Some r) = by r.committed
    where
      by : (b : Bool) → (commit_if s at r epoch b).pending ≡ (commit_if t at r epoch b).pending
      by true = same
      by false = ap (λ pending. slice_set pending at (committed r epoch)) same

  drop_found : (done : Bool) (at : Option ℕ) (r : Option PendingRecord)
      → (drop_by s done at r).pending ≡ (drop_by t done at r).pending
  drop_found done None r = same
  drop_found done (Some at) None = same
  drop_found done (Some at) (Some r) = by (is_as done r.committed)
    where
      by : (b : Bool) → (drop_if s at r b).pending ≡ (drop_if t at r b).pending
      by true = ap (λ pending. remove pending at) same
      by false = same

  place_same : (tx : TxId) (key : List ℕ) → record_at s.pending tx key ≡ record_at t.pending tx key
  place_same tx key = ap (λ pending. record_at pending tx key) same

  record_same : (tx : TxId) (key : List ℕ) → record_of s tx key ≡ record_of t tx key
  unfolding record_of
  record_same tx key = ap (λ pending. get_at pending (record_at pending tx key)) same

  stored_same : (tx : TxId) (key : List ℕ) (image : Option (List ℕ))
      → (storing s tx key image).pending ≡ (storing t tx key image).pending
  unfolding storing
  stored_same tx key image =
      ap (λ pending. recorded_by pending (prepared tx key image) (record_at pending tx key)) same

  committed_same : (tx : TxId) (key : List ℕ) (epoch : ℕ)
      → (commit_record s tx key epoch).pending ≡ (commit_record t tx key epoch).pending
  unfolding commit_record
  committed_same tx key epoch =
      commit_found epoch (record_at s.pending tx key) (record_of s tx key)
      ∙ (λ i. (commit_by t epoch (place_same tx key i) (record_same tx key i)).pending)

  dropped_same : (done : Bool) (tx : TxId) (key : List ℕ)
      → (drop_by s done (record_at s.pending tx key) (record_of s tx key)).pending
      ≡ (drop_by t done (record_at t.pending tx key) (record_of t tx key)).pending
  dropped_same done tx key =
      drop_found done (record_at s.pending tx key) (record_of s tx key)
      ∙ (λ i. (drop_by t done (place_same tx key i) (record_same tx key i)).pending)

  aborted_same : (tx : TxId) (key : List ℕ) → (abort_record s tx key).pending ≡ (abort_record t tx key).pending
  unfolding abort_record
  aborted_same tx key = dropped_same false tx key

  completed_same : (tx : TxId) (key : List ℕ)
      → (complete_record s tx key).pending ≡ (complete_record t tx key).pending
  unfolding complete_record
  completed_same tx key = dropped_same true tx key

  pub changed_same : (event : Event) → (changed event s).pending ≡ (changed event t).pending
  changed_same (Prepare tx fragment key image) = stored_same tx key image
  changed_same (Commit tx key epoch) = committed_same tx key epoch
  changed_same (Abort tx key) = aborted_same tx key
  changed_same (Complete tx key) = completed_same tx key
  changed_same Step = same

  pub logged_same : (event : Event) (log : List Redo) → logged event s log ≡ logged event t log
  logged_same (Prepare tx fragment key image) log = refl
  logged_same (Commit tx key epoch) log =
      ap (λ pending. log_if (redo.Commit tx epoch key) (prepared_in (first (is_of tx key) pending)) log) same
  logged_same (Abort tx key) log =
      ap (λ pending. log_if (redo.Abort tx key) (prepared_in (first (is_of tx key) pending)) log) same
  logged_same (Complete tx key) log = refl
  logged_same Step log = refl

  pub left_same : (epoch : ℕ) (event : Event) (rows : Rows) → left_by epoch event s rows ≡ left_by epoch event t rows
  left_same epoch (Prepare tx fragment key image) rows = refl
  left_same epoch (Commit tx key at) rows =
      ap (λ pending. applied epoch (redo.Commit tx at key) (prepared_in (first (is_of tx key) pending)) rows) same
  left_same epoch (Abort tx key) rows = refl
  left_same epoch (Complete tx key) rows = refl
  left_same epoch Step rows = refl

-- so are their records, and what is committed by them
module _ (s t : RowsState) (same : s.pending ≡ t.pending) where
  behind_same : (events : List Event) → (rows_behind s events).pending ≡ (rows_behind t events).pending
  behind_same [] = same
  behind_same (event ∷ older) =
      changed_same (rows_behind s older) (rows_behind t older) (behind_same older) event

  pub records_same : (events : List Event) → records_behind s events ≡ records_behind t events
  records_same [] = refl
  records_same (event ∷ older) =
      ap (logged event (rows_behind s older)) (records_same older)
      ∙ logged_same (rows_behind s older) (rows_behind t older) (behind_same older) event (records_behind t older)

  pub own_same : (epoch : ℕ) (before : Rows) (events : List Event)
      → own_behind epoch s before events ≡ own_behind epoch t before events
  own_same epoch before [] = refl
  own_same epoch before (event ∷ older) =
      ap (left_by epoch event (rows_behind s older)) (own_same epoch before older)
      ∙ left_same (rows_behind s older) (rows_behind t older) (behind_same older) epoch event
      (own_behind epoch t before older)
