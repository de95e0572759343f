-- A local checkpoint stands for all that was before it.
use Rattle.std.proofs.Common.{◌≡◌, ◌≤◌, ◌<◌, ◌^◌, ℕ, List, [], ◌∷◌, ◌++◌, refl, sym, ap, ◌∙◌, subst, append-nil, arith}
use Rattle.std.specs.Prelude.{Ok}
use Rattle.std.specs.List.{AllByRecursion as Each}
use Rattle.std.specs.FinMap as map
use Rattle.sig_core.specs.declared.stored_row.StoredRow.{StoredRow}
use Rattle.sig_core.specs.Rows.{RowsState, next_place, row_of}
use Rattle.sig_core.specs.Table.{Rows}
use Rattle.sig_core.specs.Walk.{begun}
use Rattle.lcp_store.specs.declared.row.Version.TheVariants.{Second}
use Rattle.lcp_store.specs.Laws.{AreRowsOf, CheckpointsAreRead, all_in}
use Rattle.lcp_store.specs.Reading.{rows_in}
use Rattle.redo_log.specs.Replaying.{replayed}
use Rattle.local_ckpt.specs.Events.{Event, Moment, after, left_by, moment, next}
use Rattle.local_ckpt.specs.Laws.{Begins, HasPrepares, IsEvent, at_first, pieces_bytes}
use Rattle.local_ckpt.specs.Orderly.{IsOrderly}
use Rattle.local_ckpt.proofs.CoverLemmas.{later_rows}
use Rattle.local_ckpt.proofs.LawLemmas.{all_passed, at_start, goes_on}
use Rattle.local_ckpt.proofs.LockLemmas.{may_begin}
use Rattle.local_ckpt.proofs.WayLemmas.{IsUnderWay, checkpoint_bytes}
use Rattle.row_records.proofs.PlaceLemmas.{row_of-at}
use Rattle.journal_laws.specs.Checkpoints.{AreAtRest, HasPassed, HaveKeptLocks, LocalCheckpointsStand, MayBeCut}
use Rattle.journal_laws.specs.Checkpoints.{Portions, before_walk, end_of_walk, moment_behind}
use Rattle.journal_laws.specs.Checkpoints.{records_at_walk, rows_at_walk, whole}
use Rattle.journal_laws.specs.Events.{own_behind, records_behind, rows_behind}
use Rattle.journal_laws.proofs.replays.OwnRows.{own_rows}
use Rattle.journal_laws.proofs.replays.Replays.{replays}
use Rattle.journal_laws.proofs.walks.Appending.{after_order, in_order, log_is, rows_append, rows_are, rows_on}
use Rattle.journal_laws.proofs.walks.Epochs.{behind_but, behind_noted}
use Rattle.journal_laws.proofs.walks.Following.{come_on, has_on}
use Rattle.journal_laws.proofs.walks.Locks.{all_good, all_up, kept_behind, later_up, locks_order, newer_locks}
use Rattle.journal_laws.proofs.walks.Locks.{older_locks}

-- the walk goes on over events, and knows the rows that are committed behind them
module _ (s : RowsState) (before : Rows) (older : List Event) (m : Moment) (rows : m.rows ≡ rows_behind s older)
    (way : IsUnderWay (λ epoch. own_behind epoch s before older) m) where
  way_on : (events : List Event) → Each IsEvent events
      → IsUnderWay (λ epoch. own_behind epoch s before (events ++ older)) (moment_behind m events)
  way_on [] good = way
  way_on (event ∷ newer) good =
      subst
      (λ t. IsUnderWay (λ epoch. left_by epoch event t (own_behind epoch s before (newer ++ older)))
      (next event (moment_behind m newer)))
      (rows_are m s older rows newer)
      (goes_on (λ epoch. own_behind epoch s before (newer ++ older)) event (moment_behind m newer) good.0
      (way_on newer good.1))

-- the bytes of rows are read as these
module _ (read : CheckpointsAreRead) (file saved : ℕ) (small : saved < 2 ^ 64) where
  is_read : (written : List StoredRow) → AreRowsOf Second saved written
      → rows_in file saved (checkpoint_bytes written) ≡ Ok (all_in map.empty written)
  is_read [] are = (read file saved [] small).0 tt
  is_read (row ∷ rows) are = (read file saved (row ∷ rows) small).1 are

module _ (s : RowsState) (before : Rows) (noted : ℕ) (p : Portions) (rest : AreAtRest noted s before)
    (cut : MayBeCut s p noted) where
  orderly : IsOrderly s
  orderly = rest.kept.orderly

  -- the rows that the journal's records from the walk's position on begin with
  abbrev given_up : RowsState
  given_up = rows_behind s p.gone

  -- what is committed up to an epoch as the walk begins are the rows then
  own_at : (epoch : ℕ) → noted ≤ epoch → (key : List ℕ)
      → map.get (own_behind epoch s before (before_walk p)) key ≡ row_of (rows_at_walk s p) key
  own_at epoch few key =
      own_rows s before (before_walk p) epoch orderly rest.idle rest.table
      (later_up noted epoch few (before_walk p)
      (all_up noted s (before_walk p) (older_locks noted s p.meanwhile (before_walk p) cut.locks))) key

  -- the moment at the walk's position, with no records from there on
  abbrev at_position : Moment
  at_position = moment given_up [] (begun 0 0 0) []

  abbrev came_by : Moment
  came_by = after (in_order p.nearer []) at_position

  came_rows : came_by.rows ≡ rows_at_walk s p
  came_rows =
      ap (λ (m : Moment). m.rows) (after_order at_position p.nearer []) ∙ rows_are at_position given_up [] refl p.nearer
      ∙ ap (rows_behind given_up) (append-nil p.nearer) ∙ sym (rows_append s p.nearer p.gone)

  came_log : came_by.log ≡ records_at_walk s p
  came_log =
      ap (λ (m : Moment). m.log) (after_order at_position p.nearer [])
      ∙ log_is at_position given_up [] refl refl p.nearer ∙ ap (records_behind given_up) (append-nil p.nearer)

  abbrev own_first : Rows
  own_first = own_behind noted s before (before_walk p)

  begins_there : Begins came_by.rows came_by.log noted own_first
  begins_there =
      let locks = older_locks noted s p.meanwhile (before_walk p) cut.locks in
      may_begin at_position (in_order p.nearer []) noted own_first refl
      (kept_behind noted s p.gone rest.kept (older_locks noted s p.nearer p.gone locks))
      (locks_order noted given_up p.nearer [] (newer_locks noted s p.nearer p.gone locks) tt)
      (subst (λ t. HasPrepares t came_by.log) (sym came_rows)
      (subst (λ log. HasPrepares (rows_at_walk s p) log) (sym came_log) cut.prepares))
      (λ key. own_at noted (omega arith) key ∙ ap (λ t. row_of t key) (sym came_rows))

  begins : Begins (rows_at_walk s p) (records_at_walk s p) noted own_first
  begins =
      subst (λ log. Begins (rows_at_walk s p) log noted own_first) came_log
      (subst (λ t. Begins t came_by.log noted own_first) came_rows begins_there)

  -- along the walk, which counts from what is noted on
  module _ (file from : ℕ) where
    abbrev first_moment : Moment
    first_moment = at_first (rows_at_walk s p) (records_at_walk s p) file from noted

    way_first : IsUnderWay (λ epoch. own_behind epoch s before (before_walk p)) first_moment
    way_first =
        let is = at_start (rows_at_walk s p) (records_at_walk s p) file from noted own_first begins in
        record {
          orderly = is.orderly;
          readable = is.readable;
          images = is.images;
          prepared = is.prepared;
          fits = is.fits;
          up_to = λ epoch few q. own_at epoch few q ∙ row_of-at (rows_at_walk s p) q;
          written = is.written;
          come = is.come;
          bytes_are = is.bytes_are;
          size_is = is.size_is;
        }

    meanwhile_locks : HaveKeptLocks noted (rows_at_walk s p) p.meanwhile
    meanwhile_locks = newer_locks noted s p.meanwhile (before_walk p) cut.locks

    abbrev at_end : Moment
    at_end = end_of_walk s p file from noted

    way_end : IsUnderWay (λ epoch. own_behind epoch s before (p.meanwhile ++ before_walk p)) at_end
    way_end =
        way_on s before (before_walk p) first_moment refl way_first p.meanwhile
        (all_good noted (rows_at_walk s p) p.meanwhile meanwhile_locks)

    end_noted : at_end.walk.epoch ≤ noted
    end_noted =
        behind_noted noted first_moment (omega arith) p.meanwhile
        (all_up noted (rows_at_walk s p) p.meanwhile meanwhile_locks)

    abbrev read_rows : Rows
    read_rows = all_in map.empty way_end.written

    -- the rows that were written are read, and come to what was committed until the walk ended
    are_read : CheckpointsAreRead → (saved : ℕ) → noted ≤ saved → saved < 2 ^ 64
        → rows_in file saved (pieces_bytes at_end.pieces) ≡ Ok read_rows
    are_read read saved few small =
        ap (rows_in file saved) way_end.bytes_are
        ∙ is_read read file saved small way_end.written
        (later_rows at_end.walk.epoch saved way_end.written (omega (arith, few, end_noted)) way_end.come.rows_are)

    same_walk : rows_behind given_up p.nearer ≡ rows_at_walk s p
    same_walk = sym (rows_append s p.nearer p.gone)

    come_end : HasPassed at_end → (epoch : ℕ) → noted ≤ epoch
        → replayed epoch read_rows (records_behind given_up (p.meanwhile ++ p.nearer))
        ≡ own_behind epoch s before (p.meanwhile ++ before_walk p)
    come_end passed epoch few =
        ap (replayed epoch read_rows) (sym (log_is first_moment given_up p.nearer (sym same_walk) refl p.meanwhile))
        ∙ all_passed (λ epoch. own_behind epoch s before (p.meanwhile ++ before_walk p)) at_end way_end passed epoch
        (omega (arith, few, end_noted))

    -- and so with what followed
    come_all : HasPassed at_end → (epoch : ℕ) → noted ≤ epoch
        → replayed epoch read_rows (records_behind given_up (p.later ++ (p.meanwhile ++ p.nearer)))
        ≡ own_behind epoch s before (whole p)
    come_all passed epoch few =
        come_on given_up s (p.meanwhile ++ p.nearer) (p.meanwhile ++ before_walk p)
        (rows_on given_up s p.nearer (before_walk p) same_walk p.meanwhile) orderly
        (has_on given_up s p.nearer (before_walk p) same_walk orderly cut.prepares p.meanwhile) epoch read_rows before
        (come_end passed epoch few) p.later

pub stand : CheckpointsAreRead → LocalCheckpointsStand
stand read s before noted p file from epoch rest cut passed =
    let same = behind_but (first_moment s before noted p rest cut file from) epoch p.meanwhile in
    let ended : HasPassed (end_of_walk s p file from noted) =
    sym (ap (λ (m : Moment). next_place m.rows m.walk.place) same.1) ∙ passed in (
      read_rows s before noted p rest cut file from,
      λ saved few small. ap (λ (m : Moment). rows_in file saved (pieces_bytes m.pieces)) same.1
          ∙ are_read s before noted p rest cut file from read saved few small,
      λ up_to few. come_all s before noted p rest cut file from ended up_to few
          ∙ sym (replays s before (whole p) up_to rest.idle),
    )
