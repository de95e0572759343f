-- What a member has written once a walk has passed all rows is a checkpoint, and stands for all that was before.
use Rattle.std.proofs.Common.{◌≡◌, ◌≤◌, ◌<◌, ◌^◌, ◌∙◌, ◌++◌, ℕ, List, [], length, drop, sym, ap, subst}
use Rattle.std.proofs.Common.{append_assoc, length-append, arith}
use Rattle.std.proofs.Math.Seq.{drop-append_seam}
use Rattle.std.specs.Prelude.{Result, Err, Ok}
use Rattle.run_theory.specs.Lists.{IsIn, IsPast}
use Rattle.lcp_store.specs.Reading.{or_damage, rows_behind as read_behind, rows_in, version_in}
use Rattle.redo_log.specs.Replaying.{AreRecords, log_bytes, replayed}
use Rattle.sig_core.specs.declared.member.Member.{Member}
use Rattle.sig_core.specs.declared.piece.Piece.{Piece}
use Rattle.sig_core.specs.declared.redo.Redo.{Redo}
use Rattle.sig_core.specs.declared.walk.Finished.{Finished}
use Rattle.sig_core.specs.Journal.{end_of}
use Rattle.sig_core.specs.Rows.{RowsState}
use Rattle.sig_core.specs.Table.{Rows}
use Rattle.local_ckpt.specs.Events.{Event, Moment}
use Rattle.local_ckpt.specs.Laws.{PiecesLieInOrder, at_first, pieces_bytes}
use Rattle.world_core.specs.Start.{NobodyStarts, Start, made}
use Rattle.world_core.specs.Steps.{HostStep}
use Rattle.journal_laws.specs.Checkpoints.{HaveKeptLocks, LocalCheckpointsStand, Portions, before_walk}
use Rattle.journal_laws.specs.Checkpoints.{end_of_walk, records_at_walk, rows_at_walk, until_end}
use Rattle.journal_laws.specs.Events.{records_behind, rows_behind}
use Rattle.journal_laws.specs.Journal.{AreEventsOf, HasRecords, first_rows, lqh_after}
use Rattle.journal_laws.specs.Saver.{written}
use Rattle.journal_laws.specs.Walks.{HasEnded, pieces_if}
use Rattle.journal_laws.proofs.events.FirstRows.{first_orderly, first_pending}
use Rattle.journal_laws.proofs.follow.Oldest.{bytes_append, records_append}
use Rattle.journal_laws.proofs.replays.Replays.{replays}
use Rattle.journal_laws.proofs.walks.Appending.{after_order, in_order, rows_append, rows_on}
use Rattle.journal_laws.proofs.walks.Following.{come_on, has_on}
use Rattle.journal_laws.proofs.follow.GivenUp.{newer_records}
use Rattle.saved_laws.specs.Checkpoints.{AreReadFrom, AreWords, IsCheckpoint, StandFor}
use Rattle.saved_laws.proofs.standing.Alike.{AreAlike, alike}
use Rattle.saved_laws.proofs.standing.FirstRows.{at_rest}
use Rattle.saved_laws.proofs.standing.Journals.{ends_behind}
use Rattle.saved_laws.proofs.standing.Parts.{GoesOn, HasPart, goes_on, part_of_log}
use Rattle.saved_laws.proofs.standing.Records.{older_records}

-- which file bytes stand in is told of damage alone
any_file : (file other saved : ℕ) (bytes : List ℕ) (rows : Rows) → rows_in file saved bytes ≡ Ok rows
    → rows_in other saved bytes ≡ Ok rows
unfolding rows_in
any_file file other saved bytes rows = by (read_behind saved bytes (version_in bytes))
  where
    by : (found : Result Rows ℕ) → or_damage file bytes found ≡ Ok rows → or_damage other bytes found ≡ Ok rows
    by (Err left) is = absurd cc
    by (Ok found) is = let same : found ≡ rows = cc in ap Ok same

-- the pieces of a walk are as many bytes as it says
walk_size : PiecesLieInOrder → (s : RowsState) (p : Portions) (from epoch : ℕ)
    → (end_of_walk s p 0 from epoch).walk.size ≡ length (pieces_bytes (end_of_walk s p 0 from epoch).pieces)
walk_size lie s p from epoch =
    subst (λ (m : Moment). m.walk.size ≡ length (pieces_bytes m.pieces))
    (after_order (at_first (rows_at_walk s p) (records_at_walk s p) 0 from epoch) p.meanwhile [])
    (lie (rows_at_walk s p) (records_at_walk s p) 0 from epoch (in_order p.meanwhile [])).1

module _ (stands : LocalCheckpointsStand) (lie : PiecesLieInOrder) (start : Start) (nobody : NobodyStarts start)
    (member : Member)
    (there : IsIn member (made start)) (before : Rows) (words : AreWords start member before) (log : List HostStep)
    (events : List Event) (has : HasRecords start member log events) (finished : Finished) (end : ℕ)
    (ended : HasEnded start member log events finished end)
    (locks : HaveKeptLocks finished.epoch (first_rows start member) (until_end ended.portions))
    (least : start.start_epoch ≤ finished.epoch) where
  abbrev first : RowsState
  first = first_rows start member

  abbrev p : Portions
  p = ended.portions

  -- what went on until the walk ended
  abbrev until : Portions
  until = record { later = []; meanwhile = p.meanwhile; nearer = p.nearer; gone = p.gone }

  abbrev last : Moment
  last = end_of_walk first p 0 finished.from finished.epoch

  record HasRows : Type 0 where
    rows : Rows
    read : (saved : ℕ) → finished.epoch ≤ saved → saved < 2 ^ 64 → rows_in 0 saved (pieces_bytes last.pieces) ≡ Ok rows
    same : (epoch : ℕ) → finished.epoch ≤ epoch
        → replayed epoch rows (records_behind (rows_behind first p.gone) (p.meanwhile ++ p.nearer))
        ≡ replayed epoch before (records_behind first (until_end p))

  has_rows : HasRows
  has_rows =
      let found =
      stands first before finished.epoch until 0 finished.from finished.epoch
      (at_rest start nobody member there before words finished.epoch least)
      (record { locks = locks; prepares = ended.began.prepares }) ended.passed in
      record { rows = found.0; read = found.1; same = found.2 }

  abbrev given_up : RowsState
  given_up = rows_behind first p.gone

  -- an older part of the log, at which the journal had the end of the walk
  module _ (older : List HostStep) (past : IsPast older log) (late : end ≤ end_of (lqh_after start member older).outlet)
      (told : List Event) (told_of : AreEventsOf start member older told) where
    part : HasPart start member older events
    part = part_of_log start member older log events past has.events_of

    same_told : AreAlike start member there part.part told
    same_told = alike start member there nobody older part.part told part.part_of told_of

    further : GoesOn first (until_end p) part.part
    further =
        goes_on first part.newer part.part p.later (until_end p) (sym part.is ∙ ended.is)
        (subst (λ n. n ≤ length (log_bytes (records_behind first part.part))) ended.end_is
        (subst (λ n. end ≤ n) (ends_behind start nobody member there older part.part part.part_of) late))

    abbrev more : List Event
    more = further.further

    abbrev kept : List Redo
    kept = records_behind given_up (more ++ (p.meanwhile ++ p.nearer))

    -- all records are those that are given up, and the others
    all_is : records_behind first part.part ≡ kept ++ records_behind first p.gone
    all_is =
        sym further.same
        ∙ ap (records_behind first)
        (ap (λ xs. more ++ xs) (sym (append_assoc p.meanwhile p.nearer p.gone))
        ∙ sym (append_assoc more (p.meanwhile ++ p.nearer) p.gone))
        ∙ records_append first (more ++ (p.meanwhile ++ p.nearer)) p.gone

    part_bytes : log_bytes (records_behind first part.part)
        ≡ log_bytes (records_behind first p.gone) ++ log_bytes kept
    part_bytes = ap log_bytes all_is ∙ bytes_append kept (records_behind first p.gone)

    part_are : AreRecords (records_behind first part.part)
    part_are =
        older_records (records_behind (rows_behind first part.part) part.newer) (records_behind first part.part)
        (subst AreRecords (ap (records_behind first) part.is ∙ records_append first part.newer part.part) has.records)

    -- what they come to, with those that follow
    come : (epoch : ℕ) → finished.epoch ≤ epoch
        → replayed epoch has_rows.rows kept ≡ replayed epoch before (records_behind first told)
    come epoch few =
        let idle = first_pending start nobody member there in
        let orderly = first_orderly start nobody member there in
        let same_walk = sym (rows_append first p.nearer p.gone) in
        come_on given_up first (p.meanwhile ++ p.nearer) (until_end p)
        (rows_on given_up first p.nearer (before_walk p) same_walk p.meanwhile) orderly
        (has_on given_up first p.nearer (before_walk p) same_walk orderly ended.began.prepares p.meanwhile) epoch
        has_rows.rows before (has_rows.same epoch few ∙ replays first before (until_end p) epoch idle) more
        ∙ sym (replays first before (more ++ until_end p) epoch idle)
        ∙ ap (replayed epoch before) further.same
        ∙ replays first before part.part epoch idle
        ∙ same_told.own epoch before
        ∙ sym (replays first before told epoch idle)

    position_is : length (log_bytes (records_behind first p.gone)) ≡ finished.from
    position_is = sym ended.began.from

    stand_for : StandFor start member before has_rows.rows finished.epoch finished.from told kept
    stand_for = record {
      are = newer_records kept (records_behind first p.gone) (subst AreRecords all_is part_are);
      bytes =
          sym (drop-append_seam (log_bytes (records_behind first p.gone)) (log_bytes kept))
          ∙ ap (λ n. drop n (log_bytes (records_behind first p.gone) ++ log_bytes kept)) position_is
          ∙ ap (drop finished.from) (sym part_bytes ∙ same_told.bytes);
      most =
          let longer = ap length (sym same_told.bytes ∙ part_bytes)
          ∙ length-append (log_bytes (records_behind first p.gone)) (log_bytes kept) in
          omega (arith, longer, position_is);
      same = come;
    }

  -- what was written
  abbrev pieces : List Piece
  pieces = pieces_if finished.size (written start member log)

  written_size : finished.size ≡ length (pieces_bytes pieces)
  written_size =
      ended.size ∙ walk_size lie first p finished.from finished.epoch
      ∙ ap (λ all. length (pieces_bytes all)) ended.pieces

  written_read : AreReadFrom finished.epoch (pieces_bytes pieces) has_rows.rows
  written_read file saved few small =
      any_file 0 file saved (pieces_bytes pieces) has_rows.rows
      (subst (λ all. rows_in 0 saved (pieces_bytes all) ≡ Ok has_rows.rows) ended.pieces
      (has_rows.read saved few small))

  pub is_checkpoint : IsCheckpoint start member before log finished end
  is_checkpoint = record {
    rows = has_rows.rows;
    size = written_size;
    read = written_read;
    stand = λ older past late told told_of. (kept older past late told told_of, stand_for older past late told told_of);
  }
