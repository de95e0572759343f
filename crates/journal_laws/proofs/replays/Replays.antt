-- The records of events, replayed up to an epoch, give the rows that were committed up to it.
use Rattle.std.proofs.Common.{◌≡◌, List, [], ◌∷◌, ℕ, Bool, true, false, refl, sym, ap, ◌∙◌, subst}
use Rattle.std.specs.Prelude.{if◌then◌else◌, Option, None, Some}
use Rattle.sig_core.specs.declared.member.TxId.{TxId}
use Rattle.sig_core.specs.declared.redo.Redo.{Redo}
use Rattle.sig_core.specs.declared.redo.Redo.TheVariants as redo
use Rattle.sig_core.specs.declared.rows.PendingRecord.{PendingRecord}
use Rattle.sig_core.specs.Firsts.{first}
use Rattle.sig_core.specs.Rows.{RowsState, abort_record, commit_record, is_of, no_rows, storing}
use Rattle.sig_core.specs.Table.{Rows}
use Rattle.redo_log.specs.Replaying.{applied, replayed}
use Rattle.local_ckpt.specs.Events.{Abort, Commit, Complete, Event, Prepare, Step, changed, left_by, log_if, logged}
use Rattle.local_ckpt.specs.Laws.{HasPrepares}
use Rattle.local_ckpt.specs.Orderly.{IsOrderly, image_in, prepared_in}
use Rattle.local_ckpt.proofs.EventLemmas.{Prepared, aborts, commits, completes, stores}
use Rattle.local_ckpt.proofs.LawLemmas.{orderly, stay_orderly}
use Rattle.local_ckpt.proofs.RecordLemmas.{commits_nothing}
use Rattle.local_ckpt.proofs.WayLemmas.{has_aborted, has_after, has_committed, has_still}
use Rattle.journal_laws.specs.Events.{own_behind, records_behind, rows_behind}
use Rattle.journal_laws.specs.Laws.{ReplaysGiveOwnRows}
use Rattle.journal_laws.proofs.replays.PendingLemmas.{own_same, records_same}

-- rows stay orderly
pub orderly_behind : (s : RowsState) (events : List Event) → IsOrderly s → IsOrderly (rows_behind s events)
orderly_behind s [] is = is
orderly_behind s (event ∷ older) is = stay_orderly event (rows_behind s older) (orderly_behind s older is)

-- what is prepared has been committed
pub commit_uses : (s : RowsState) (tx : TxId) (key : List ℕ) (epoch : ℕ) (image : Option (List ℕ)) → IsOrderly s
    → image_in s tx key ≡ Some image → Prepared s (commit_record s tx key epoch) tx key None
commit_uses s tx key epoch image is = by (first (is_of tx key) s.pending) refl
  where
    by : (o : Option PendingRecord) → first (is_of tx key) s.pending ≡ o → prepared_in o ≡ Some image
        → Prepared s (commit_record s tx key epoch) tx key None
    by None found there = absurd cc
    by (Some r) found there = if_done r.committed refl there
      where
        if_done : (b : Bool) → r.committed ≡ b → (if b then None else Some r.image) ≡ Some image
            → Prepared s (commit_record s tx key epoch) tx key None
        if_done true done there = absurd cc
        if_done false begun there = commits s tx key epoch is r found begun

module _ (s : RowsState) (log : List Redo) (is : IsOrderly s) (has : HasPrepares s log) where
  commit_has : (tx : TxId) (key : List ℕ) (epoch : ℕ) (o : Option (Option (List ℕ))) → image_in s tx key ≡ o
      → HasPrepares (commit_record s tx key epoch) (log_if (redo.Commit tx epoch key) o log)
  commit_has tx key epoch None none =
      subst (λ t. HasPrepares t log) (sym (commits_nothing s tx key epoch none)) has
  commit_has tx key epoch (Some image) there =
      has_committed s (commit_record s tx key epoch) log tx key epoch has (commit_uses s tx key epoch image is there)

  abort_has : (tx : TxId) (key : List ℕ) (o : Option (Option (List ℕ)))
      → HasPrepares (abort_record s tx key) (log_if (redo.Abort tx key) o log)
  abort_has tx key None = has_still s (abort_record s tx key) log tx key has (aborts s tx key is).prepared
  abort_has tx key (Some image) = has_aborted s (abort_record s tx key) log tx key has (aborts s tx key is).prepared

  -- what is prepared behind an event is in the log behind it
  pub has_more : (event : Event) → HasPrepares (changed event s) (logged event s log)
  has_more (Prepare tx fragment key image) =
      has_after s (storing s tx key image) log tx key fragment image has (stores s tx key image is)
  has_more (Commit tx key epoch) = commit_has tx key epoch (image_in s tx key) refl
  has_more (Abort tx key) = abort_has tx key (image_in s tx key)
  has_more (Complete tx key) =
      λ other key2 image there. has other key2 image (sym ((completes s tx key is).images other key2) ∙ there)
  has_more Step = has

  -- a commit applies what the log has as prepared, which is what the rows have
  commit_applies : (epoch : ℕ) (before : Rows) (tx : TxId) (key : List ℕ) (at : ℕ) (o : Option (Option (List ℕ)))
      → image_in s tx key ≡ o
      → replayed epoch before (log_if (redo.Commit tx at key) o log)
      ≡ applied epoch (redo.Commit tx at key) o (replayed epoch before log)
  commit_applies epoch before tx key at None none = refl
  commit_applies epoch before tx key at (Some image) there =
      ap (λ found. applied epoch (redo.Commit tx at key) found (replayed epoch before log)) (has tx key image there)

  abort_applies : (epoch : ℕ) (before : Rows) (tx : TxId) (key : List ℕ) (o : Option (Option (List ℕ)))
      → replayed epoch before (log_if (redo.Abort tx key) o log) ≡ replayed epoch before log
  abort_applies epoch before tx key None = refl
  abort_applies epoch before tx key (Some image) = refl

  pub replays_more : (epoch : ℕ) (before : Rows) (event : Event)
      → replayed epoch before (logged event s log) ≡ left_by epoch event s (replayed epoch before log)
  replays_more epoch before (Prepare tx fragment key image) = refl
  replays_more epoch before (Commit tx key at) = commit_applies epoch before tx key at (image_in s tx key) refl
  replays_more epoch before (Abort tx key) = abort_applies epoch before tx key (image_in s tx key)
  replays_more epoch before (Complete tx key) = refl
  replays_more epoch before Step = refl

-- from rows that are orderly, with nothing pending
module _ (s : RowsState) (is : IsOrderly s) (has : HasPrepares s []) where
  has_behind : (events : List Event) → HasPrepares (rows_behind s events) (records_behind s events)
  has_behind [] = has
  has_behind (event ∷ older) =
      has_more (rows_behind s older) (records_behind s older) (orderly_behind s older is) (has_behind older) event

  replays_behind : (before : Rows) (events : List Event) (epoch : ℕ)
      → replayed epoch before (records_behind s events) ≡ own_behind epoch s before events
  replays_behind before [] epoch = refl
  replays_behind before (event ∷ older) epoch =
      replays_more (rows_behind s older) (records_behind s older) (orderly_behind s older is) (has_behind older) epoch
      before event
      ∙ ap (left_by epoch event (rows_behind s older)) (replays_behind before older epoch)

-- whatever the places are
pub replays : ReplaysGiveOwnRows
replays s before events epoch none =
    ap (replayed epoch before) (records_same s no_rows none events)
    ∙ replays_behind no_rows orderly.none (λ tx key image there. absurd cc) before events epoch
    ∙ sym (own_same s no_rows none epoch before events)
