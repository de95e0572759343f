-- What the journal gave up, and what it has still, behind a step.
use Rattle.std.proofs.Common.{◌≡◌, ◌+◌, ◌-◌, ◌∙◌, ◌++◌, ℕ, List, [], ◌∷◌, drop, length, refl, sym, ap, subst}
use Rattle.std.proofs.Common.{append_assoc, arith}
use Rattle.std.proofs.lemmas.List.{drop_at, length-append}
use Rattle.std.specs.Prelude.{Option, None, Some, option_to_list}
use Rattle.run_theory.specs.Lists.{IsIn}
use Rattle.sig_core.specs.declared.member.Member.{Member}
use Rattle.sig_core.specs.declared.redo.Redo.{Redo}
use Rattle.sig_core.specs.declared.rows.PendingRecord.{PendingRecord}
use Rattle.sig_core.specs.declared.walk.Finished.{Finished}
use Rattle.sig_core.specs.Firsts.{first}
use Rattle.sig_core.specs.Journal.{OutletState}
use Rattle.sig_core.specs.Rows.{RowsState, is_of}
use Rattle.redo_log.specs.Replaying.{AreRecords, log_bytes}
use Rattle.local_ckpt.specs.Events.{Event, changed, logged}
use Rattle.local_ckpt.specs.Laws.{HasPrepares}
use Rattle.local_ckpt.specs.Orderly.{IsOrderly, prepared_in}
use Rattle.lqh_saver.specs.Redo.{kept_records, records_of}
use Rattle.lqh_views.specs.State.{ReplicaState}
use Rattle.world_core.specs.Start.{NobodyStarts, Start, made}
use Rattle.world_core.specs.Steps.{HostStep}
use Rattle.journal_laws.specs.Checkpoints.{in_journal}
use Rattle.journal_laws.specs.Events.{AreUpTo, changed_if, records_behind, rows_behind}
use Rattle.journal_laws.specs.Journal.{first_rows, lqh_after}
use Rattle.journal_laws.specs.Saver.{SwitchesTo}
use Rattle.request_laws.specs.Blocks.{saver_after, saving_after}
use Rattle.journal_laws.specs.Walks.{HasEnded, HasGivenUp, position_behind}
use Rattle.journal_laws.proofs.events.FirstRows.{first_orderly, first_pending, first_replica}
use Rattle.journal_laws.proofs.events.HostEvents.{HasCome}
use Rattle.journal_laws.proofs.follow.Noted.{older_up}
use Rattle.journal_laws.proofs.follow.Oldest.{bytes_append, records_append}
use Rattle.journal_laws.proofs.follow.Parsing.{all_read, in_turn}
use Rattle.journal_laws.proofs.replays.Replays.{has_more, orderly_behind}
use Rattle.journal_laws.proofs.walks.Appending.{rows_append}
use Rattle.journal_laws.proofs.walks.Following.{has_on}

-- of two lists of records that make one up, the newer
pub newer_records : (newer older : List Redo) → AreRecords (newer ++ older) → AreRecords newer
newer_records [] older are = tt
newer_records (r ∷ newer) older are = (are.0, newer_records newer older are.1)

module _ (start : Start) (member : Member) (there : IsIn member (made start)) where
  abbrev rows_first : RowsState
  rows_first = first_rows start member

  -- the bytes behind events that others follow
  pub position_append : (newer older : List Event)
      → position_behind start member (newer ++ older)
      ≡ position_behind start member older + length (log_bytes (records_behind (rows_behind rows_first older) newer))
  position_append newer older =
      ap (λ (log : List Redo). length (log_bytes log)) (records_append rows_first newer older)
      ∙ ap length
      (bytes_append (records_behind (rows_behind rows_first older) newer) (records_behind rows_first older))
      ∙ length-append (log_bytes (records_behind rows_first older))
      (log_bytes (records_behind (rows_behind rows_first older) newer))

  -- nothing as the life begins
  pub nothing_given_up : NobodyStarts start → HasGivenUp start member [] []
  nothing_given_up nobody = record {
    since = [];
    gone = [];
    split = refl;
    position = ap (λ (s : ReplicaState). s.lqh.outlet.flushed) (first_replica start nobody member there);
    floor = tt;
    prepares = λ tx key image found.
        let none = ap (λ (pending : List PendingRecord). prepared_in (first (is_of tx key) pending))
        (first_pending start nobody member there) in
        absurd (let e = sym none ∙ found in cc);
  }

  module _ (log : List HostStep) (events : List Event)
      (come : HasCome rows_first (lqh_after start member log) events) (has : HasGivenUp start member log events) where
    abbrev rows_then : RowsState
    rows_then = rows_behind rows_first has.gone

    -- the records that the journal has
    abbrev pub records_left : List Redo
    records_left = records_behind rows_then has.since

    pub rows_left : (lqh_after start member log).rows ≡ rows_behind rows_then has.since
    rows_left =
        come.rows ∙ ap (rows_behind rows_first) has.split ∙ rows_append rows_first has.since has.gone

    all_records : records_behind rows_first events ≡ records_left ++ records_behind rows_first has.gone
    all_records =
        ap (records_behind rows_first) has.split ∙ records_append rows_first has.since has.gone

    left_are : (lqh_after start member log).outlet.left ≡ log_bytes records_left
    left_are =
        let at : ℕ = (lqh_after start member log).outlet.flushed in
        let front : List ℕ = log_bytes (records_behind rows_first has.gone) in
        let long : length front ≡ at - 0 = omega (arith, has.position) in
        ap (λ (o : OutletState). o.left) come.outlet.is
        ∙ ap (λ (log : List Redo). drop (at - 0) (log_bytes log)) all_records
        ∙ ap (drop (at - 0)) (bytes_append records_left (records_behind rows_first has.gone))
        ∙ drop_at front (log_bytes records_left) (at - 0) long

    pub are_kept : AreRecords (records_behind rows_first events)
        → kept_records (lqh_after start member log).outlet ≡ in_turn records_left
    are_kept are =
        ap (λ (bytes : List ℕ). records_of (length bytes) bytes) left_are
        ∙ all_read records_left
        (newer_records records_left (records_behind rows_first has.gone) (subst AreRecords all_records are))

    pub orderly_then : NobodyStarts start → IsOrderly (lqh_after start member log).rows
    orderly_then nobody =
        subst IsOrderly (sym come.rows) (orderly_behind rows_first events (first_orderly start nobody member there))

    -- behind a step that gives up no more
    module _ (nobody : NobodyStarts start) (e : HostStep) (flushed : (lqh_after start member (e ∷ log)).outlet.flushed
        ≡ (lqh_after start member log).outlet.flushed)
        (floor : (saver_after start member (e ∷ log)).floor ≡ (saver_after start member log).floor) where
      pub still_given_up : (event : Option Event)
          → (lqh_after start member (e ∷ log)).rows ≡ changed_if event (lqh_after start member log).rows
          → HasGivenUp start member (e ∷ log) (option_to_list event ++ events)
      still_given_up None rows = record {
        since = has.since;
        gone = has.gone;
        split = has.split;
        position = flushed ∙ has.position;
        floor = subst (λ (n : ℕ). AreUpTo n has.gone) (sym floor) has.floor;
        prepares = subst (λ (r : RowsState). HasPrepares r records_left) (sym rows) has.prepares;
      }
      still_given_up (Some event) rows = record {
        since = event ∷ has.since;
        gone = has.gone;
        split = ap (λ (all : List Event). event ∷ all) has.split;
        position = flushed ∙ has.position;
        floor = subst (λ (n : ℕ). AreUpTo n has.gone) (sym floor) has.floor;
        prepares =
            subst (λ (r : RowsState). HasPrepares r (records_behind rows_then (event ∷ has.since))) (sym rows)
            (subst (λ (r : RowsState). HasPrepares (changed event (lqh_after start member log).rows)
            (logged event r records_left)) rows_left
            (has_more (lqh_after start member log).rows records_left (orderly_then nobody) has.prepares event));
      }

  -- behind a switch
  module _ (nobody : NobodyStarts start) (log : List HostStep) (events : List Event) (e : HostStep)
      (finished : Finished)
      (to : SwitchesTo (saving_after start member log) (saving_after start member (e ∷ log)) finished)
      (come : HasCome rows_first (lqh_after start member log) events)
      (ended : HasEnded start member log events finished to.end) where
    abbrev given : RowsState
    given = rows_behind rows_first ended.portions.gone

    open ended.portions use {later, meanwhile, nearer, gone}

    all_split : events ≡ in_journal ended.portions ++ gone
    all_split =
        ended.is
        ∙ ap (λ (all : List Event). later ++ all) (sym (append_assoc meanwhile nearer gone))
        ∙ sym (append_assoc later (meanwhile ++ nearer) gone)

    have : HasPrepares (rows_behind rows_first events) (records_behind given (in_journal ended.portions))
    have =
        subst (λ (all : List Event). HasPrepares (rows_behind rows_first all)
        (records_behind given (in_journal ended.portions)))
        (append_assoc later meanwhile (nearer ++ gone) ∙ sym ended.is)
        (subst (λ (all : List Event). HasPrepares (rows_behind rows_first ((later ++ meanwhile) ++ (nearer ++ gone)))
        (records_behind given all)) (append_assoc later meanwhile nearer)
        (has_on given rows_first nearer (nearer ++ gone) (sym (rows_append rows_first nearer gone))
        (first_orderly start nobody member there) ended.began.prepares (later ++ meanwhile)))

    pub given_up_to : HasGivenUp start member (e ∷ log) events
    given_up_to = record {
      since = in_journal ended.portions;
      gone = gone;
      split = all_split;
      position = ap (λ (o : OutletState). o.flushed) to.outlet ∙ ended.began.from;
      floor =
          subst (λ (n : ℕ). AreUpTo n gone) (sym to.floor)
          (older_up finished.epoch nearer gone (older_up finished.epoch meanwhile (nearer ++ gone) ended.epoch));
      prepares =
          subst (λ (r : RowsState). HasPrepares r (records_behind given (in_journal ended.portions)))
          (sym (to.rows ∙ come.rows)) have;
    }
