-- A walk begins behind the records that are finished.
use Rattle.std.proofs.Common.{◌≡◌, ◌+◌, ◌∙◌, ◌++◌, ℕ, List, [], ◌∷◌, length, refl, sym, ap, subst, append_assoc}
use Rattle.run_theory.specs.Lists.{IsIn}
use Rattle.sig_core.specs.declared.member.Member.{Member}
use Rattle.sig_core.specs.Rows.{RowsState}
use Rattle.sig_core.specs.Walk.{begun}
use Rattle.redo_log.specs.Replaying.{AreRecords, log_bytes}
use Rattle.local_ckpt.specs.Events.{Event}
use Rattle.local_ckpt.specs.Laws.{HasPrepares}
use Rattle.lqh_saver.specs.Redo.{oldest, oldest_from}
use Rattle.world_core.specs.Start.{Start, made}
use Rattle.world_core.specs.Steps.{HostStep}
use Rattle.journal_laws.specs.Events.{records_behind, rows_behind}
use Rattle.journal_laws.specs.Journal.{first_rows, lqh_after}
use Rattle.request_laws.specs.Blocks.{saver_after}
use Rattle.journal_laws.specs.Walks.{HasGivenUp, IsOnItsWay, position_behind}
use Rattle.journal_laws.proofs.events.HostEvents.{HasCome}
use Rattle.journal_laws.proofs.follow.GivenUp.{are_kept, position_append}
use Rattle.journal_laws.proofs.follow.Oldest.{IsBehindFinished, behind_finished, prepares_nearer}
use Rattle.journal_laws.proofs.walks.Appending.{rows_append}

module _ (start : Start) (member : Member) (there : IsIn member (made start)) (log : List HostStep)
    (events : List Event) (come : HasCome (first_rows start member) (lqh_after start member log) events)
    (are : AreRecords (records_behind (first_rows start member) events)) (has : HasGivenUp start member log events)
  where
    abbrev rows_first : RowsState
    rows_first = first_rows start member

    abbrev rows_now : RowsState
    rows_now = (lqh_after start member log).rows

    abbrev rows_then : RowsState
    rows_then = rows_behind rows_first has.gone

    found : IsBehindFinished rows_now rows_then (lqh_after start member log).outlet.flushed has.since
    found = behind_finished rows_now rows_then (lqh_after start member log).outlet.flushed has.since

    abbrev before : List Event
    before = found.more ++ has.gone

    abbrev at : ℕ
    at = oldest rows_now (lqh_after start member log).outlet

    from : at ≡ position_behind start member before
    from =
        ap (oldest_from rows_now (lqh_after start member log).outlet.flushed)
        (are_kept start member there log events come has are)
        ∙ found.position
        ∙ ap (λ (n : ℕ). n + length (log_bytes (records_behind rows_then found.more))) has.position
        ∙ sym (position_append start member there found.more has.gone)

    split : events ≡ found.nearer ++ before
    split =
        has.split ∙ ap (λ (all : List Event). all ++ has.gone) found.split
        ∙ append_assoc found.nearer found.more has.gone

    prepares : HasPrepares (rows_behind rows_first (found.nearer ++ before))
        (records_behind (rows_behind rows_first before) found.nearer)
    prepares =
        subst (λ (r : RowsState). HasPrepares r (records_behind (rows_behind rows_first before) found.nearer))
        (come.rows ∙ ap (rows_behind rows_first) split)
        (subst (λ (r : RowsState). HasPrepares rows_now (records_behind r found.nearer))
        (sym (rows_append rows_first found.more has.gone))
        (prepares_nearer rows_now rows_then found.nearer found.more
        (subst (λ (all : List Event). HasPrepares rows_now (records_behind rows_then all)) found.split has.prepares)
        found.finished))

    pub walk_begins : (e : HostStep)
        → IsOnItsWay start member (e ∷ log) events (begun 0 at (saver_after start member log).floor)
    walk_begins e = record {
      portions = record { later = []; meanwhile = []; nearer = found.nearer; gone = before };
      none_later = refl;
      is = split;
      began = record { from = from; prepares = prepares };
      walk_is = refl;
      pieces = refl;
    }
