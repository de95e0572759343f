-- Local checkpoints from their first moment to their last, and behind it.
use Rattle.std.proofs.Common.{◌≡◌, ◌≤◌, ◌<◌, ◌^◌, ◌+◌, inl, inr, ℕ, Bool, true, false, List, [], ◌∷◌, ◌++◌, length}
use Rattle.std.proofs.Common.{drop, refl, sym, ap, ◌∙◌, subst, arith}
use Rattle.std.specs.Prelude.{if◌then◌else◌, Option, None, Some, Ok, position}
use Rattle.std.specs.Cmp.Lexicographic.{nat_list_cmp_total, slice_cmp}
use Rattle.std.specs.Ordering.{nat_cmp}
use Rattle.std.specs.List.{AllByRecursion as Each}
use Rattle.std.specs.FinMap as map
use Rattle.std.proofs.lemmas.List.{length-append}
use Rattle.sig_core.specs.declared.member.TxId.{TxId}
use Rattle.sig_core.specs.declared.redo.Redo.{Redo}
use Rattle.sig_core.specs.declared.redo.Redo.TheVariants as redo
use Rattle.sig_core.specs.declared.rows.PendingRecord.{PendingRecord}
use Rattle.sig_core.specs.Firsts.{first}
use Rattle.sig_core.specs.Rows.{RowsState, commit_record, has_row, is_of, next_by, next_place, storing, abort_record}
use Rattle.sig_core.specs.Rows.{put_row, with_place}
use Rattle.sig_core.specs.Table.{Rows}
use Rattle.sig_core.specs.declared.stored_row.StoredRow.{StoredRow}
use Rattle.lcp_store.specs.declared.row.Version.TheVariants.{Second}
use Rattle.lcp_store.specs.Laws.{AreRowsOf, CheckpointsAreRead, all_in}
use Rattle.lcp_store.specs.Reading.{rows_in}
use Rattle.sig_core.specs.declared.piece.Piece.{Piece}
use Rattle.redo_log.specs.Replaying.{applied, replayed}
use Rattle.local_ckpt.specs.Events.{Abort, Commit, Complete, Event, Moment, Prepare, Step, after, changed, given_by}
use Rattle.local_ckpt.specs.Events.{left, left_by, log_if, logged, next, noting_if, stepped_by}
use Rattle.local_ckpt.specs.Laws.{AreLaidFrom, Begins, CheckpointsRestore, HasPrepares, IsEvent, OrderlyRowsStaySo}
use Rattle.local_ckpt.specs.Laws.{PiecesLieInOrder, at_first, pieces_bytes}
use Rattle.local_ckpt.specs.Orderly.{IsOrderly, image_in, prepared_in}
use Rattle.sig_core.specs.Walk.{WalkState, next_piece}
use Rattle.local_ckpt.proofs.CoverLemmas.{Fits, IsCovered, later_rows}
use Rattle.local_ckpt.proofs.EventLemmas.{Prepared, aborts, commits, completes, stores}
use Rattle.local_ckpt.proofs.FirstRows.{no_rows_left}
use Rattle.row_records.proofs.PlaceLemmas.{apart-set_row, apart-with_place, has-set_row, has-with_place, row_at}
use Rattle.row_records.proofs.PlaceLemmas.{row_of-at}
use Rattle.local_ckpt.proofs.RecordLemmas.{commits_nothing}
use Rattle.local_ckpt.proofs.RedoLemmas.{get-replayed, over, redone}
use Rattle.local_ckpt.proofs.StepLemmas.{pieces_more, steps}
use Rattle.local_ckpt.proofs.WayLemmas.{IsUnderWay, checkpoint_bytes, commit_way, gives_up, has_aborted, has_after}
use Rattle.local_ckpt.proofs.WayLemmas.{has_committed, has_still, is_done, prepares}

-- rows stay orderly
orderly_commit : (s : RowsState) (tx : TxId) (key : List ℕ) (epoch : ℕ) → IsOrderly s
    → IsOrderly (commit_record s tx key epoch)
orderly_commit s tx key epoch is = by (first (is_of tx key) s.pending) refl
  where
    nothing : prepared_in (first (is_of tx key) s.pending) ≡ None → IsOrderly (commit_record s tx key epoch)
    nothing none = subst IsOrderly (sym (commits_nothing s tx key epoch none)) is

    by : (o : Option PendingRecord) → first (is_of tx key) s.pending ≡ o → IsOrderly (commit_record s tx key epoch)
    by None e = nothing (ap prepared_in e)
    by (Some r) e = if_done r.committed refl
      where
        if_done : (b : Bool) → r.committed ≡ b → IsOrderly (commit_record s tx key epoch)
        if_done true f = nothing (ap prepared_in e ∙ ap (λ b. if b then None else Some r.image) f)
        if_done false f = (commits s tx key epoch is r e f).orderly

pub stay_orderly : (event : Event) (s : RowsState) → IsOrderly s → IsOrderly (changed event s)
stay_orderly (Prepare tx fragment key image) s is = (stores s tx key image is).orderly
stay_orderly (Commit tx key epoch) s is = orderly_commit s tx key epoch is
stay_orderly (Abort tx key) s is = (aborts s tx key is).prepared.orderly
stay_orderly (Complete tx key) s is = (completes s tx key is).orderly
stay_orderly Step s is = is

put_orderly : (s : RowsState) (key value : List ℕ) (epoch : ℕ) → IsOrderly s → IsOrderly (put_row s key value epoch)
put_orderly s key value epoch is = record {
  apart = apart-set_row key (Some value) epoch (with_place s.places key) (apart-with_place s.places key is.apart);
  once = is.once;
  placed = λ tx other image there.
      has-set_row key (Some value) epoch other (with_place s.places key)
      ∙ has-with_place s.places key other (is.placed tx other image there);
}

pub orderly : OrderlyRowsStaySo
orderly = record {
  none = record { apart = tt; once = λ tx key. refl; placed = λ tx key image e. absurd cc };
  put = put_orderly;
  kept = stay_orderly;
}

-- pieces lie one behind the other
laid_more : (file at : ℕ) (pieces : List Piece) (piece : Piece) → AreLaidFrom file at pieces → piece.file ≡ file
    → piece.at ≡ at + length (pieces_bytes pieces) → AreLaidFrom file at (pieces ++ piece ∷ [])
laid_more file at [] piece laid own place = (own, place ∙ (let e : at + 0 ≡ at = omega arith in e), tt)
laid_more file at (front ∷ pieces) piece laid own place = (
  laid.0,
  laid.1,
  laid_more file (at + length front.bytes) pieces piece laid.2 own
      (place ∙
      (let e : at + length (pieces_bytes (front ∷ pieces)) ≡ at + length front.bytes + length (pieces_bytes pieces) =
      omega (arith, length-append front.bytes (pieces_bytes pieces)) in e)),
)

record IsLaid (file : ℕ) (walk : WalkState) (pieces : List Piece) : Type 0 where
  own_file : walk.file ≡ file
  laid : AreLaidFrom file 0 pieces
  size_is : walk.size ≡ length (pieces_bytes pieces)

step_laid : (file : ℕ) (s : RowsState) (walk : WalkState) (pieces : List Piece) → IsLaid file walk pieces
    → (o : Option ℕ)
    → IsLaid file (stepped_by s walk o) (given_by s walk pieces o)
step_laid file s walk pieces is None = is
step_laid file s walk pieces is (Some at) =
    let piece : Piece = next_piece s walk in
    record {
      own_file = is.own_file;
      laid =
          laid_more file 0 pieces piece is.laid is.own_file
          (is.size_is ∙ (let e : length (pieces_bytes pieces) ≡ 0 + length (pieces_bytes pieces) = omega arith in e));
      size_is =
          ap (λ n. n + length piece.bytes) is.size_is ∙ sym (length-append (pieces_bytes pieces) piece.bytes)
          ∙ sym (ap length (pieces_more pieces piece));
    }

commit_laid : (file : ℕ) (s : RowsState) (walk : WalkState) (pieces : List Piece) (epoch : ℕ)
    (o : Option (Option (List ℕ))) → IsLaid file walk pieces
    → IsLaid file (noting_if walk epoch o) pieces
commit_laid file s walk pieces epoch None is = is
commit_laid file s walk pieces epoch (Some image) is =
    record { own_file = is.own_file; laid = is.laid; size_is = is.size_is }

next_laid : (file : ℕ) (event : Event) (m : Moment) → IsLaid file m.walk m.pieces
    → IsLaid file (next event m).walk (next event m).pieces
next_laid file (Prepare tx fragment key image) m is = is
next_laid file (Commit tx key epoch) m is = commit_laid file m.rows m.walk m.pieces epoch (image_in m.rows tx key) is
next_laid file (Abort tx key) m is = is
next_laid file (Complete tx key) m is = is
next_laid file Step m is = step_laid file m.rows m.walk m.pieces is (next_place m.rows m.walk.place)

all_laid : (file : ℕ) (events : List Event) (m : Moment) → IsLaid file m.walk m.pieces
    → IsLaid file (after events m).walk (after events m).pieces
all_laid file [] m is = is
all_laid file (event ∷ events) m is = all_laid file events (next event m) (next_laid file event m is)

pub pieces_are : PiecesLieInOrder
pieces_are s log file from noted events =
    let is =
    all_laid file events (at_first s log file from noted) (record { own_file = refl; laid = tt; size_is = refl }) in
    (is.laid, is.size_is)

-- at first nothing was written, and every row is ahead
module _ (s : RowsState) (log : List Redo) (file from noted : ℕ) (before : Rows)
    (begins : Begins s log noted before) where
  fits_first : (epoch : ℕ) → noted ≤ epoch → (q : List ℕ) → Fits (redone epoch log q) (row_at s.places q)
  fits_first epoch few q =
      by (redone epoch log q)
      (sym (get-replayed epoch log before q) ∙ ap (λ rows. map.get rows q) (begins.redone epoch few))
    where
      by : (found : Option (Option (List ℕ))) → over found (map.get before q) ≡ map.get before q
          → Fits found (row_at s.places q)
      by None is = tt
      by (Some image) is = is ∙ begins.table q ∙ row_of-at s q

  covered_first : (epoch : ℕ) → noted ≤ epoch → (q : List ℕ) → IsCovered s epoch log 0 [] q
  covered_first epoch few q = by (row_at s.places q) refl
    where
      none : (found : Option (Option (List ℕ))) → Fits found (row_at s.places q) → row_at s.places q ≡ None
          → over found None ≡ row_at s.places q
      none None fits e = sym e
      none (Some image) fits e = fits

      by : (row : Option (List ℕ)) → row_at s.places q ≡ row → IsCovered s epoch log 0 [] q
      by (Some value) e = inl (value, e)
      by None e =
          inr (ap (over (redone epoch log q)) (map.get-empty (slice_cmp nat_cmp) q) ∙ none (redone epoch log q)
          (fits_first epoch few q) e)

  pub at_start : IsUnderWay (λ epoch. before) (at_first s log file from noted)
  at_start = record {
    orderly = begins.orderly;
    readable = begins.readable;
    images = begins.images;
    prepared = begins.prepared;
    fits = fits_first;
    up_to = λ epoch few q. begins.table q ∙ row_of-at s q;
    written = [];
    come = record { rows_are = tt; covered = covered_first };
    bytes_are = refl;
    size_is = refl;
  }

-- what is true at a moment is true at the next one
pub goes_on : (own : ℕ → Rows) (event : Event) (m : Moment) → IsEvent event → IsUnderWay own m
    → IsUnderWay (λ epoch. left_by epoch event m.rows (own epoch)) (next event m)
goes_on own (Prepare tx fragment key image) m good way = prepares own m way tx fragment key image good
goes_on own (Commit tx key epoch) m good way = commit_way own m way tx key epoch (image_in m.rows tx key) refl
goes_on own (Abort tx key) m good way = gives_up own m way tx key (image_in m.rows tx key) refl
goes_on own (Complete tx key) m good way = is_done own m way tx key
goes_on own Step m good way = steps own m way (next_place m.rows m.walk.place) refl

pub all_the_way : (own : ℕ → Rows) (events : List Event) (m : Moment) → Each IsEvent events → IsUnderWay own m
    → IsUnderWay (λ epoch. left epoch events m.rows (own epoch)) (after events m)
all_the_way own [] m good way = way
all_the_way own (event ∷ events) m good way =
    all_the_way (λ epoch. left_by epoch event m.rows (own epoch)) events (next event m) good.1
    (goes_on own event m good.0 way)

-- Where the walk has passed all rows, what it wrote and the log give them.
pub all_passed : (own : ℕ → Rows) (m : Moment) (way : IsUnderWay own m) → next_place m.rows m.walk.place ≡ None
    → (epoch : ℕ) → m.walk.epoch ≤ epoch
    → replayed epoch (all_in map.empty way.written) m.log ≡ own epoch
unfolding next_place
all_passed own m way none epoch few =
    map.same_map nat_list_cmp_total (map.slice_cmp-IsAntisymmetric map.nat_cmp-IsAntisymmetric) _ _ (λ q.
    get-replayed epoch m.log (all_in map.empty way.written) q ∙ behind q (way.come.covered epoch few q)
    ∙ sym (way.up_to epoch few q))
  where
    no_place : (o : Option ℕ) → next_by m.walk.place o ≡ None → o ≡ None
    no_place None e = refl
    no_place (Some more) e = absurd cc

    gone : (q : List ℕ) → row_at (drop m.walk.place m.rows.places) q ≡ None
    gone =
        no_rows_left (drop m.walk.place m.rows.places)
        (no_place (position has_row (drop m.walk.place m.rows.places)) none)

    behind : (q : List ℕ) → IsCovered m.rows epoch m.log m.walk.place way.written q
        → over (redone epoch m.log q) (map.get (all_in map.empty way.written) q) ≡ row_at m.rows.places q
    behind q (inl (value, is)) = absurd (let both : Some value ≡ None = sym is ∙ gone q in cc)
    behind q (inr is) = is

-- Behind the end of a walk, its rows and the log give what is committed up to an epoch.
record IsKept (epoch : ℕ) (rows own : Rows) (s : RowsState) (log : List Redo) : Type 0 where
  orderly : IsOrderly s
  prepared : HasPrepares s log
  same : replayed epoch rows log ≡ own

module _ (epoch : ℕ) (rows own : Rows) (s : RowsState) (log : List Redo) (is : IsKept epoch rows own s log) where
  kept_commit : (tx : TxId) (key : List ℕ) (at : ℕ) (o : Option (Option (List ℕ))) → image_in s tx key ≡ o
      → IsKept epoch rows (applied epoch (redo.Commit tx at key) o own) (commit_record s tx key at)
      (log_if (redo.Commit tx at key) o log)
  kept_commit tx key at None e = subst (λ t. IsKept epoch rows own t log) (sym (commits_nothing s tx key at e)) is
  kept_commit tx key at (Some image) e = record {
    orderly = orderly_commit s tx key at is.orderly;
    prepared =
        has_committed s (commit_record s tx key at) log tx key at is.prepared
        (by (first (is_of tx key) s.pending) refl e);
    same =
        ap (λ found. applied epoch (redo.Commit tx at key) found (replayed epoch rows log)) (is.prepared tx key image e)
        ∙ ap (applied epoch (redo.Commit tx at key) (Some image)) is.same;
  }
    where
      by : (o : Option PendingRecord) → first (is_of tx key) s.pending ≡ o → prepared_in o ≡ Some image
          → Prepared s (commit_record s tx key at) tx key None
      by None f is_image = absurd cc
      by (Some r) f is_image = if_done r.committed refl is_image
        where
          if_done : (b : Bool) → r.committed ≡ b → (if b then None else Some r.image) ≡ Some image
              → Prepared s (commit_record s tx key at) tx key None
          if_done true g is_image = absurd cc
          if_done false g is_image = commits s tx key at is.orderly r f g

  kept_abort : (tx : TxId) (key : List ℕ) (o : Option (Option (List ℕ)))
      → IsKept epoch rows own (abort_record s tx key) (log_if (redo.Abort tx key) o log)
  kept_abort tx key None =
      let ended = aborts s tx key is.orderly in
      record {
        orderly = ended.prepared.orderly;
        prepared = has_still s
            (abort_record s tx key) log tx key is.prepared ended.prepared;
        same = is.same;
      }
  kept_abort tx key (Some image) =
      let ended = aborts s tx key is.orderly in
      record {
        orderly = ended.prepared.orderly;
        prepared = has_aborted s
            (abort_record s tx key) log tx key is.prepared ended.prepared;
        same = is.same;
      }

  kept : (event : Event) → IsKept epoch rows (left_by epoch event s own) (changed event s) (logged event s log)
  kept (Prepare tx fragment key image) =
      let stored = stores s tx key image is.orderly in
      record {
        orderly = stored.orderly;
        prepared = has_after s
            (storing s tx key image) log tx key fragment image is.prepared stored;
        same = is.same;
      }
  kept (Commit tx key at) = kept_commit tx key at (image_in s tx key) refl
  kept (Abort tx key) = kept_abort tx key (image_in s tx key)
  kept (Complete tx key) =
      let done = completes s tx key is.orderly in
      record {
        orderly = done.orderly;
        prepared = λ other key2 image there. is.prepared other key2 image
            (sym (done.images other key2) ∙ there);
        same = is.same;
      }
  kept Step = is

all_kept : (epoch : ℕ) (rows own : Rows) (events : List Event) (m : Moment) → IsKept epoch rows own m.rows m.log
    → replayed epoch rows (after events m).log ≡ left epoch events m.rows own
all_kept epoch rows own [] m is = is.same
all_kept epoch rows own (event ∷ events) m is =
    all_kept epoch rows (left_by epoch event m.rows own) events (next event m)
    (kept epoch rows own m.rows m.log is event)

checkpoint_read : CheckpointsAreRead → (file saved : ℕ) (written : List StoredRow) → saved < 2 ^ 64
    → AreRowsOf Second saved written
    → rows_in file saved (checkpoint_bytes written) ≡ Ok (all_in map.empty written)
checkpoint_read read file saved [] small are = (read file saved [] small).0 tt
checkpoint_read read file saved (row ∷ rows) small are = (read file saved (row ∷ rows) small).1 are

pub restore : CheckpointsAreRead → CheckpointsRestore
restore read s log file from noted saved epoch before meanwhile later begins good none saves small few =
    let m : Moment = after meanwhile (at_first s log file from noted) in
    let way : IsUnderWay (λ epoch. left epoch meanwhile s before) m =
    all_the_way (λ epoch. before) meanwhile (at_first s log file from noted) good
    (at_start s log file from noted before begins) in
    let rows : Rows = all_in map.empty way.written in (
      rows,
      ap (rows_in m.walk.file saved) way.bytes_are
          ∙ checkpoint_read read m.walk.file saved way.written small
          (later_rows m.walk.epoch saved way.written saves way.come.rows_are),
      all_kept epoch rows (left epoch meanwhile s before) later m
          (record {
            orderly = way.orderly;
            prepared = way.prepared;
            same = all_passed
                (λ epoch. left epoch meanwhile s before) m way none epoch few;
          }),
    )
