-- What stands for all that was until now stands for it one step later, with the records of the step.
use Rattle.std.proofs.Common.{◌≡◌, ◌∙◌, ◌≤◌, ℕ, ◌+◌, ◌-◌, List, ◌∷◌, ◌++◌, length, drop, ap, sym, subst}
use Rattle.std.proofs.Common.{arith, append_assoc, drop_at, length-append, option_to_list}
use Rattle.std.specs.List.{list_all}
use Rattle.std.specs.Prelude.{Option, None, Some, Ok}
use Rattle.std.proofs.lemmas.Bool.{and_parts}
use Rattle.std.proofs.lemmas.List.{drop-append-le}
use Rattle.std.proofs.lemmas.List.Folds.{list_all-append}
use Rattle.redo_log.specs.Replaying.{AreRecords, log_bytes, replayed}
use Rattle.redo_log.proofs.OrderLemmas.{one_newest}
use Rattle.run_theory.specs.Lists.{IsIn}
use Rattle.sig_core.specs.declared.member.Member.{Member}
use Rattle.sig_core.specs.declared.redo.Redo.{Redo}
use Rattle.sig_core.specs.declared.slots.ControlSlot.{ControlSlot}
use Rattle.sig_core.specs.declared.slots.SystemSlot.{SystemSlot}
use Rattle.sig_core.specs.Journal.{OutletState}
use Rattle.sig_core.specs.Rows.{RowsState}
use Rattle.sig_core.specs.Table.{Rows}
use Rattle.sys_restart.specs.Files.{Files}
use Rattle.node_restart.specs.Rows.{RestoresRows}
use Rattle.local_ckpt.specs.Events.{Event, left_by}
use Rattle.local_ckpt.specs.Laws.{HasPrepares}
use Rattle.lqh_block.specs.State.{LqhState}
use Rattle.world_core.specs.Start.{NobodyStarts, Start, made}
use Rattle.world_core.specs.Steps.{HostStep}
use Rattle.journal_laws.specs.Checkpoints.{ComeToTheSame}
use Rattle.journal_laws.specs.Events.{records_behind, records_if, rows_behind}
use Rattle.journal_laws.specs.Journal.{AreEventsOf, HasRecords, first_rows, lqh_after}
use Rattle.journal_laws.specs.Walks.{HasGivenUp}
use Rattle.journal_laws.proofs.events.FirstRows.{first_orderly, first_pending}
use Rattle.journal_laws.proofs.replays.Replays.{orderly_behind, replays, replays_more}
use Rattle.saved_laws.specs.Checkpoints.{StandFor}
use Rattle.saved_laws.proofs.standing.Records.{older_records}
use Rattle.disk_laws.specs.OnDisk.{StandUntilNow}
use Rattle.disk_laws.proofs.JournalLemmas.{both_records, logged_behind, records_on}
use Rattle.disk_laws.proofs.JournalLemmas.{rows_are_behind, same_records}
use Rattle.journal_laws.proofs.follow.Oldest.{bytes_append, records_append}
use Rattle.journal_laws.proofs.follow.GivenUp.{newer_records}

-- what stands for the records of some events stands for those of others which have the same
pub stand_same : (start : Start) (member : Member) (before base : Rows) (least position : ℕ)
    (events others : List Event) (kept : List Redo)
    → records_behind (first_rows start member) events ≡ records_behind (first_rows start member) others
    → StandFor start member before base least position events kept
    → StandFor start member before base least position others kept
stand_same start member before base least position events others kept same stand = record {
  are = stand.are;
  bytes = stand.bytes ∙ ap (λ records. drop position (log_bytes records)) same;
  most = subst (λ records. position ≤ length (log_bytes records)) same stand.most;
  same = subst (λ records. ComeToTheSame least base kept before records) same stand.same;
}

-- and what restores that restores all of them, where it has the newest
pub stand_restores : (start : Start) (member : Member) (before base : Rows) (least position : ℕ) (events : List Event)
    (redo gone : List Redo) (image : Files) (slot : ControlSlot)
    → StandFor start member before base least position events redo
    → records_behind (first_rows start member) events ≡ redo ++ gone → RestoresRows least image slot base redo
    → RestoresRows least image slot before (records_behind (first_rows start member) events)
stand_restores start member before base least position events redo gone image slot stand all restores = (
  restores.0,
  λ epoch up. restores.1 epoch up ∙ ap Ok (stand.same epoch up),
  λ test so.
      restores.2 test
      (and_parts (list_all test redo) (list_all test gone)
      (sym (list_all-append test redo gone) ∙ ap (list_all test) (sym all) ∙ so)).0,
)

module _ (start : Start) (member : Member) (there : IsIn member (made start)) where
  abbrev lqh : List HostStep → LqhState
  lqh = lqh_after start member

  abbrev first : RowsState
  first = first_rows start member

  abbrev records : List Event → List Redo
  records = records_behind first

  -- Records with the bytes that the journal had from where it begins now.
  module _ (log : List HostStep) (events : List Event) (has : HasRecords start member log events)
      (given : HasGivenUp start member log events) (kept : List Redo) (are : AreRecords kept)
      (bytes : log_bytes kept ≡ drop (lqh log).outlet.flushed (log_bytes (records events))) where
    abbrev since : List Redo
    since = records_behind (rows_behind first given.gone) given.since

    whole : records events ≡ since ++ records given.gone
    whole = ap records given.split ∙ records_append first given.since given.gone

    its_bytes : log_bytes kept ≡ log_bytes since
    its_bytes =
        bytes ∙ ap (λ all. drop (lqh log).outlet.flushed (log_bytes all)) whole
        ∙ ap (drop (lqh log).outlet.flushed) (bytes_append since (records given.gone))
        ∙ drop_at (log_bytes (records given.gone)) (log_bytes since) (lqh log).outlet.flushed
        (sym given.position)

    are_since : kept ≡ since
    are_since =
        one_newest kept since are (newer_records since (records given.gone) (subst AreRecords whole has.records))
        its_bytes

    -- they have whatever is prepared
    pub prepared : HasPrepares (lqh log).rows kept
    prepared = subst (HasPrepares (lqh log).rows) (sym are_since) given.prepares

    -- and the others are those that it gave up
    pub all_kept : records events ≡ kept ++ records given.gone
    all_kept = whole ∙ ap (λ newest. newest ++ records given.gone) (sym are_since)

  -- the journal has what stands from a position on, if it begins there
  pub left_is : (log : List HostStep) (events : List Event) → HasRecords start member log events
      → (lqh log).outlet.left ≡ drop (lqh log).outlet.flushed (log_bytes (records events))
  left_is log events has =
      ap (λ (o : OutletState). o.left) has.outlet.is
      ∙ ap (λ (at : ℕ). drop at (log_bytes (records events)))
      (let e : (lqh log).outlet.flushed - 0 ≡ (lqh log).outlet.flushed = omega arith in e)

  module _ (before base : Rows) where
    -- a step's records come to the same on both
    more_same : NobodyStarts start → (events : List Event) (event : Option Event) (kept : List Redo) (least : ℕ)
        → HasPrepares (rows_behind first events) kept → ComeToTheSame least base kept before (records events)
        → ComeToTheSame least base (records_if event (rows_behind first events) ++ kept) before
        (records (option_to_list event ++ events))
    more_same nobody events None kept least has same = same
    more_same nobody events (Some event) kept least has same = λ epoch up.
        let s = rows_behind first events in
        ap (replayed epoch base) (sym (logged_behind event s kept))
        ∙ replays_more s kept (orderly_behind first events (first_orderly start nobody member there)) has epoch base
        event
        ∙ ap (left_by epoch event s)
        (same epoch up ∙ replays first before events epoch (first_pending start nobody member there))
        ∙ sym (replays first before (event ∷ events) epoch (first_pending start nobody member there))

    -- A step's records come behind those that stand until now.
    module _ (log : List HostStep) (now : List Event) (of : AreEventsOf start member log now)
        (event : Option Event) (least position : ℕ) (kept : List Redo)
        (are : AreRecords (records (option_to_list event ++ now))) (has : HasPrepares (lqh log).rows kept)
        (stand : StandFor start member before base least position now kept) where
      abbrev added : List Redo
      added = records_if event (lqh log).rows

      all : records (option_to_list event ++ now) ≡ added ++ records now
      all = records_on start member there log now event of

      bytes : log_bytes (added ++ kept) ≡ drop position (log_bytes (records (option_to_list event ++ now)))
      bytes =
          bytes_append added kept
          ∙ ap (λ front. front ++ log_bytes added) stand.bytes
          ∙ sym (drop-append-le position (log_bytes (records now)) (log_bytes added) stand.most)
          ∙ ap (drop position) (sym (bytes_append added (records now)))
          ∙ sym (ap (λ both. drop position (log_bytes both)) all)

      size : length (log_bytes (records (option_to_list event ++ now)))
          ≡ length (log_bytes (records now)) + length (log_bytes added)
      size =
          ap (λ both. length (log_bytes both)) all
          ∙ ap length (bytes_append added (records now))
          ∙ length-append (log_bytes (records now)) (log_bytes added)

      added_are : AreRecords added
      added_are = newer_records added (records now) (subst AreRecords all are)

      pub stand_more : NobodyStarts start
          → StandFor start member before base least position (option_to_list event ++ now) (added ++ kept)
      stand_more nobody = record {
        are = both_records added kept added_are stand.are;
        bytes = bytes;
        most = omega (arith, stand.most, size);
        same = subst
            (λ (rows : RowsState). ComeToTheSame least base (records_if event rows ++ kept) before
            (records (option_to_list event ++ now)))
            (sym (rows_are_behind start member there log now of))
            (more_same nobody now event kept least
            (subst (λ (rows : RowsState). HasPrepares rows kept) (rows_are_behind start member there log now of) has)
            stand.same);
      }

-- So it is of all that was until now, at a step that names no checkpoint.
module _ (start : Start) (nobody : NobodyStarts start) (member : Member) (there : IsIn member (made start))
    (before : Rows) (slot : SystemSlot)
    (e : HostStep) (log : List HostStep) (can : List Event) (has : HasRecords start member log can)
    (given : HasGivenUp start member log can) (new : List Event) (has_new : HasRecords start member (e ∷ log) new)
    (event : Option Event) (older : List Event) (is : new ≡ option_to_list event ++ older)
    (of : AreEventsOf start member log older) (base : Rows) (least position : ℕ) (events : List Event)
    (redo : List Redo) (at : position ≡ (lqh_after start member log).outlet.flushed)
    (was : StandUntilNow start member before slot log base least position events redo) where
  abbrev all_records : List Event → List Redo
  all_records = records_behind (first_rows start member)

  abbrev step_records : List Redo
  step_records = records_if event (lqh_after start member log).rows

  abbrev kept : List Redo
  kept = was.newer ++ redo

  goes_on : all_records new ≡ step_records ++ all_records older
  goes_on = ap all_records is ∙ records_on start member there log older event of

  older_are : AreRecords (all_records older)
  older_are = older_records step_records (all_records older) (subst AreRecords goes_on has_new.records)

  same : all_records was.now ≡ all_records older
  same = same_records start member there nobody log was.now older was.events_of of was.are older_are

  has_prepares : HasPrepares (lqh_after start member log).rows kept
  has_prepares =
      prepared start member there log can has given kept was.stand.are
      (was.stand.bytes
      ∙ ap (λ all. drop position (log_bytes all))
      (same_records start member there nobody log was.now can was.events_of has.events_of was.are has.records)
      ∙ ap (λ (from : ℕ). drop from (log_bytes (all_records can))) at)

  stand_on : StandFor start member before base least position new (step_records ++ kept)
  stand_on =
      subst (λ all. StandFor start member before base least position all (step_records ++ kept)) (sym is)
      (stand_more start member there before base log older of event least position kept
      (subst AreRecords (ap all_records is) has_new.records) has_prepares
      (stand_same start member before base least position was.now older kept same was.stand) nobody)

  pub until_on : StandUntilNow start member before slot (e ∷ log) base least position events redo
  until_on = record {
    now = new;
    events_of = has_new.events_of;
    are = has_new.records;
    newer = step_records ++ was.newer;
    is = goes_on ∙ ap (λ all. step_records ++ all) (sym same ∙ was.is)
        ∙ sym (append_assoc step_records was.newer (all_records events));
    stand = subst (StandFor start member before base least position new)
        (sym (append_assoc step_records was.newer redo)) stand_on;
  }
