-- A member's journal has no record of a key that its node doesn't hold. A record is of what an event prepares, commits
-- or gives up, and whatever a member has prepared at a moment is of a key that its node holds: rows move only while
-- their member is full, and then it has records of keys alone of which it is a replica.
use Rattle.std.proofs.Common.{◌≡◌, ◌≢◌, ◌⊎◌, ◌∙◌, ◌++◌, ℕ, true, List, [], ◌∷◌, refl, sym, ap, subst, inl, inr}
use Rattle.std.proofs.lemmas.Bool.{and_from, cases_eq}
use Rattle.std.specs.Prelude.{if◌then◌else◌, option_to_list, Option, None, Some}
use Rattle.run_theory.proofs.Runs.{log_of-other, log_of-own}
use Rattle.run_theory.specs.Lists.{IsIn, IsPast}
use Rattle.frag_map.specs.Layout.{holds}
use Rattle.sig_core.specs.Rows.{RowsState}
use Rattle.sig_core.specs.declared.member.Member.{Member}
use Rattle.sig_core.specs.declared.member.TxId.{TxId}
use Rattle.sig_core.specs.declared.redo.Redo.{Redo}
use Rattle.sig_core.specs.declared.redo.Redo.TheVariants as redo
use Rattle.sig_core.specs.declared.rows.PendingRecord.{PendingRecord}
use Rattle.sig_core.specs.declared.view.Shape.{Shape}
use Rattle.local_ckpt.specs.Events.{Abort, Commit, Complete, Event, Prepare, Step, changed, log_if, logged}
use Rattle.local_ckpt.specs.Orderly.{IsOrderly, image_in, prepared_in}
use Rattle.local_ckpt.proofs.EventLemmas.{stores}
use Rattle.local_ckpt.proofs.RecordLemmas.{own_record}
use Rattle.lqh_views.specs.State.{ReplicaState}
use Rattle.world_core.specs.Start.{NobodyStarts, Start, made}
use Rattle.world_core.specs.Steps.{HostStep}
use Rattle.world_views.specs.Machine.{machine}
use Rattle.moment_laws.proofs.MomentRuns.{are_moments}
use Rattle.moment_laws.proofs.MomentViews.{moment_less}
use Rattle.moment_laws.specs.Moments.{IsMoment, current, logs_of}
use Rattle.moment_laws.specs.Places.{ldm_of}
use Rattle.outcome_laws.proofs.order.EventsBefore.{moment_before}
use Rattle.commit_laws.proofs.hosts.RowsTurn.{RowsTurn, enter_now, rest_now, rows_turn, take_now}
use Rattle.commit_laws.proofs.records.Placed.{records_are_at_replicas}
use Rattle.commit_laws.proofs.records.Replicas.{members_full}
use Rattle.commit_laws.specs.Traces.{record_at, rows_at}
use Rattle.closing_laws.proofs.settled.Cuts.{HasLogAt, events_of, has_log, logs_are}
use Rattle.sys_restart.specs.Held.{are_records_held, holds_record}
use Rattle.journal_laws.proofs.events.FirstRows.{first_orderly}
use Rattle.journal_laws.proofs.replays.Replays.{orderly_behind}
use Rattle.journal_laws.specs.Events.{changed_if, records_behind, rows_behind}
use Rattle.journal_laws.specs.Journal.{AreEventsOf, first_rows, lqh_after}
use Rattle.saved_laws.specs.Keys.{OtherKeysAreUnlogged}
use Rattle.saved_laws.proofs.locking.Alone.{among_now}
use Rattle.saved_laws.proofs.others.Held.{replica_holds}
use Rattle.saved_laws.proofs.rows.ByStep.{rows_at_step}
use Rattle.saved_laws.proofs.rows.Cells.{image_here}
use Rattle.saved_laws.proofs.rows.Own.{rows_are}
use Rattle.saved_laws.proofs.standing.FirstRows.{none_prepared}

module _ (shape : Shape) (node : ℕ) where
  -- the node holds each key of which an image is prepared
  abbrev ArePreparedHeld : RowsState → Type 0
  ArePreparedHeld s =
      (tx : TxId) (key : List ℕ) (image : Option (List ℕ)) → image_in s tx key ≡ Some image
      → holds shape node key ≡ true

  -- it holds the keys of all records
  abbrev AreHeld : List Redo → Type 0
  AreHeld records = are_records_held shape node records ≡ true

  one_held : (newest : Redo) (older : List Redo) → holds_record shape node newest ≡ true → AreHeld older
      → AreHeld (newest ∷ older)
  one_held newest older own held =
      and_from (holds_record shape node newest) (are_records_held shape node older) own held

  held_if : (newest : Redo) (o : Option (Option (List ℕ))) (older : List Redo)
      → ((image : Option (List ℕ)) → o ≡ Some image → holds_record shape node newest ≡ true) → AreHeld older
      → AreHeld (log_if newest o older)
  held_if newest None older own held = held
  held_if newest (Some image) older own held = one_held newest older (own image refl) held

  -- what an event adds is of what was prepared before it, or is prepared behind it
  held_more : (event : Event) (s : RowsState) (older : List Redo) → IsOrderly s → ArePreparedHeld s
      → ArePreparedHeld (changed event s) → AreHeld older → AreHeld (logged event s older)
  held_more (Prepare tx fragment key image) s older orderly before now held =
      one_held (redo.Prepare tx fragment key image) older
      (now tx key image
      ((stores s tx key image orderly).images tx key
      ∙ ap (λ b. if b then Some image else image_in s tx key) (own_record tx key)))
      held
  held_more (Commit tx key epoch) s older orderly before now held =
      held_if (redo.Commit tx epoch key) (image_in s tx key) older (before tx key) held
  held_more (Abort tx key) s older orderly before now held =
      held_if (redo.Abort tx key) (image_in s tx key) older (before tx key) held
  held_more (Complete tx key) s older orderly before now held = held
  held_more Step s older orderly before now held = held

module _ (start : Start) (all : ℕ → List HostStep) (member : Member) (there : IsIn member (made start)) where
  abbrev h : ℕ
  h = ldm_of start member

  abbrev first : RowsState
  first = first_rows start member

  abbrev IsOfOwnKeys : RowsState → Type 0
  IsOfOwnKeys s = ArePreparedHeld start.shape member.node s

  abbrev rows_of : List HostStep → RowsState
  rows_of es = (rows_at start (logs_of start es) member).lqh.rows

  -- a full member has records of keys alone of which it is a replica
  full_holds : (es : List HostStep) → IsMoment start all es → IsIn member (current start (logs_of start es)).full
      → IsOfOwnKeys (rows_of es)
  full_holds es moment full tx key image is =
      by (record_at start (logs_of start es) member key tx) refl (sym (image_here (rows_of es) tx key) ∙ is)
    where
      by : (o : Option PendingRecord) → record_at start (logs_of start es) member key tx ≡ o
          → prepared_in o ≡ Some image → holds start.shape member.node key ≡ true
      by None found prepared = absurd cc
      by (Some own) found prepared =
          replica_holds start all es moment key member
          (records_are_at_replicas start all es moment member full key tx own found)

  -- the node holds the keys of the records of the events of a log
  abbrev IsLogHeld : List HostStep → Type 0
  IsLogHeld log =
      (events : List Event) → AreEventsOf start member log events
      → AreHeld start.shape member.node (records_behind first events)

  log_more : NobodyStarts start → (e : HostStep) (log : List HostStep) → IsOfOwnKeys (lqh_after start member log).rows
      → IsOfOwnKeys (lqh_after start member (e ∷ log)).rows → IsLogHeld log → IsLogHeld (e ∷ log)
  log_more nobody e log before now held events are =
      subst (λ list. AreHeld start.shape member.node (records_behind first list)) (sym are.1.1.0)
      (by are.0 (rows_at_step start member e log are.0 are.1.1.2))
    where
      rows_were : rows_behind first are.1.0 ≡ (lqh_after start member log).rows
      rows_were = rows_are start member log are.1.0 are.1.1.1

      by : (event : Option Event)
          → (lqh_after start member (e ∷ log)).rows ≡ changed_if event (lqh_after start member log).rows
          → AreHeld start.shape member.node (records_behind first (option_to_list event ++ are.1.0))
      by None is = held are.1.0 are.1.1.1
      by (Some event) is =
          held_more start.shape member.node event (rows_behind first are.1.0) (records_behind first are.1.0)
          (orderly_behind first are.1.0 (first_orderly start nobody member there))
          (subst IsOfOwnKeys (sym rows_were) before)
          (subst IsOfOwnKeys (is ∙ ap (changed event) (sym rows_were)) now)
          (held are.1.0 are.1.1.1)

  -- so it is at a moment
  record IsHeldAt (es : List HostStep) : Type 0 where
    prepared : IsOfOwnKeys (rows_of es)
    log : IsLogHeld (logs_of start es h)

  module _ (e : HostStep) (es : List HostStep) (moment : IsMoment start all (e ∷ es)) (before : IsHeldAt es) where
    prepared_now : IsOfOwnKeys (rows_of (e ∷ es))
    prepared_now = by (rows_turn start all e es moment member there)
      where
        by : RowsTurn start all e es moment member there → IsOfOwnKeys (rows_of (e ∷ es))
        by (rest_now is quiet stays) =
            subst IsOfOwnKeys (sym (ap (λ (s : ReplicaState). s.lqh.rows) is)) before.prepared
        by (enter_now is quiet) =
            subst IsOfOwnKeys (sym (ap (λ (s : ReplicaState). s.lqh.rows) is)) before.prepared
        by (take_now s between which taken) =
            full_holds (e ∷ es) moment
            (subst (IsIn member) (members_full start all (e ∷ es) moment)
            (among_now start all member there e es moment taken.at taken.now.stands))

    log_now : IsLogHeld (logs_of start (e ∷ es) h)
    log_now = by (cases_eq e.host h)
      where
        by : (e.host ≡ h) ⊎ (e.host ≢ h) → IsLogHeld (logs_of start (e ∷ es) h)
        by (inl at) =
            let same : logs_of start (e ∷ es) h ≡ e ∷ logs_of start es h = log_of-own (machine start) e es h at in
            subst IsLogHeld (sym same)
            (log_more moment.cluster.nobody e (logs_of start es h) before.prepared
            (subst (λ log. IsOfOwnKeys (lqh_after start member log).rows) same prepared_now)
            before.log)
        by (inr off) = subst IsLogHeld (sym (log_of-other (machine start) e es h off)) before.log

  always_held : (es : List HostStep) → IsMoment start all es → IsHeldAt es
  always_held [] moment = record {
    prepared = λ tx key image is. absurd (none_prepared start moment.cluster.nobody member there tx key image is);
    log = λ events are. subst (λ list. AreHeld start.shape member.node (records_behind first list)) (sym are) refl;
  }
  always_held (e ∷ es) moment =
      let before = always_held es (moment_less start all e es moment) in
      record { prepared = prepared_now e es moment before; log = log_now e es moment before }

pub other_keys_are_unlogged : OtherKeysAreUnlogged
other_keys_are_unlogged start logs are member there log past events is =
    held.log events (subst (λ list. AreEventsOf start member list events) (sym has.log_is) is)
  where
    has : HasLogAt start (ldm_of start member) log (events_of start logs)
    has =
        has_log start (ldm_of start member) log (events_of start logs)
        (subst (λ (ls : ℕ → List HostStep). IsPast log (ls (ldm_of start member))) (sym (logs_are start logs are)) past)

    held : IsHeldAt start logs member there has.older
    held =
        always_held start logs member there has.older
        (moment_before start logs has.newer has.older (subst (IsMoment start logs) has.is (are_moments start logs are)))
