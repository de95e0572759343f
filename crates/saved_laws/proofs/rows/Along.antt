-- Behind a closing at which the member was full, what its rows have committed up to an epoch that isn't later than the
-- closed one is what the history has: from the last moment at which nobody is decided later on.
use Rattle.std.proofs.Common.{◌≡◌, ◌≤◌, ◌<◌, ◌⊎◌, ◌∙◌, ◌++◌, ℕ, Bool, true, false, List, [], ◌∷◌, refl, sym, ap}
use Rattle.std.proofs.Common.{subst, inl, inr, append-nil, append_assoc, arith}
use Rattle.std.proofs.lemmas.Bool.{and_from, and_parts, true≢false}
use Rattle.std.specs.FinMap as map
use Rattle.std.specs.List.{list_any}
use Rattle.std.specs.Prelude.{Option, Some}
use Rattle.run_theory.proofs.EventCases.{event_cases}
use Rattle.run_theory.proofs.Pasts.{past_less, past_self, past_trans}
use Rattle.run_theory.specs.Lists.{IsIn, IsPast}
use Rattle.frag_map.specs.Layout.{holds}
use Rattle.sig_core.proofs.Keys.{same_tx-self}
use Rattle.sig_core.specs.Rows.{row_of, state_by}
use Rattle.sig_core.specs.Same.{same_tx}
use Rattle.sig_core.specs.Table.{Rows}
use Rattle.sig_core.specs.declared.entry.Entry.{Entry}
use Rattle.sig_core.specs.declared.mark.Mark.TheVariants.{Decided}
use Rattle.sig_core.specs.declared.member.Member.{Member}
use Rattle.sig_core.specs.declared.member.TxId.{TxId}
use Rattle.serial_model.specs.Legal.{rows_of}
use Rattle.local_ckpt.specs.Events.{Event}
use Rattle.key_laws.specs.Backup.{is_spoilt, kept_of}
use Rattle.key_laws.specs.OneKey.{row_at_end}
use Rattle.key_laws.specs.Records.{AreOnce, kept_row}
use Rattle.key_laws.specs.Replica.{Cell}
use Rattle.world_core.specs.Start.{Start, made}
use Rattle.world_core.specs.Steps.{HostStep}
use Rattle.world_views.specs.Machine.{machine}
use Rattle.view_laws.specs.Order.{decisions}
use Rattle.view_laws.specs.Runs.{AreOfCluster}
use Rattle.moment_laws.proofs.MomentRuns.{are_moments}
use Rattle.moment_laws.specs.Moments.{IsMoment, logs_of}
use Rattle.moment_laws.specs.Places.{ldm_of, tc_of}
use Rattle.outcome_laws.proofs.knowledge.CommitsWereDecided.{decided_entry}
use Rattle.outcome_laws.specs.Counts.{coordinator_member}
use Rattle.outcome_laws.specs.Decided.{IsDecided, IsMarked}
use Rattle.commit_laws.specs.Owed.{IsAlong}
use Rattle.commit_laws.specs.Traces.{IsReplicaOf, replica_at}
use Rattle.commit_laws.specs.Values.{decided_at, is_final, value_at}
use Rattle.commit_laws.proofs.fates.Committed as committed
use Rattle.commit_laws.proofs.forth.DecidedStay.{decided_so}
use Rattle.commit_laws.proofs.led.AllLed.{keys_stay_led}
use Rattle.commit_laws.proofs.led.Entries.{decisions_once, one_entry}
use Rattle.commit_laws.proofs.led.Replicas.{moment_at}
use Rattle.commit_laws.proofs.records.Once.{rows_once}
use Rattle.commit_laws.proofs.records.Replicas.{replica_before}
use Rattle.commit_laws.proofs.settled.All.{all_stand}
use Rattle.commit_laws.proofs.led.RestingRows.{full_replica}
use Rattle.closing_laws.proofs.settled.Cuts.{events_of}
use Rattle.journal_laws.specs.Journal.{AreEventsOf, first_rows}
use Rattle.saved_laws.specs.Closings.{ClosedOnesAreCommitted, Commits, CommitsWereDecided, CommittedOnesAreFinal}
use Rattle.saved_laws.specs.Closings.{WasFullAtClosing}
use Rattle.saved_laws.specs.History.{row_up_to}
use Rattle.saved_laws.proofs.rows.Decisions.{DecideWith, decide_both, decided_before, decided_with}
use Rattle.saved_laws.proofs.rows.Front.{IsFront, front_stands}
use Rattle.saved_laws.proofs.rows.Histories.{history_up_to}
use Rattle.saved_laws.proofs.rows.Kept.{Leaves, an_image, leaves, the_row, unspoilt}
use Rattle.saved_laws.proofs.rows.Own.{OneMore, one_more, own_row}
use Rattle.saved_laws.proofs.rows.Replicas.{replica_was}
use Rattle.saved_laws.proofs.rows.Steps.{AreKept, IsLed, NoneWaits, Waits, by_image, by_row, none_waits_on, row_stays}
use Rattle.saved_laws.proofs.rows.Steps.{waits_on}

-- a transaction is decided in one epoch
decided_alike : (start : Start) (all : ℕ → List HostStep) (es : List HostStep) → IsMoment start all es → (tx : TxId)
    (a b : ℕ) → IsDecided start (logs_of start es) tx a → IsDecided start (logs_of start es) tx b → a ≡ b
decided_alike start all es moment tx a b one other =
    let h = tc_of start (coordinator_member tx) in
    let first = decided_entry start tx a h es one in
    let second = decided_entry start tx b h es other in
    let same =
    one_entry (decisions start es) first.entry second.entry (decisions_once start all es moment) first.there
    second.there ((λ i. same_tx (first.tx_is i) (second.tx_is i)) ∙ same_tx-self tx) in
    sym first.epoch_is ∙ ap (λ (z : Entry). z.epoch) same ∙ second.epoch_is

-- who was decided is so later on
decided_on : (start : Start) (newer es : List HostStep) (tx : TxId) (at : ℕ) → IsDecided start (logs_of start es) tx at
    → IsDecided start (logs_of start (newer ++ es)) tx at
decided_on start [] es tx at is = is
decided_on start (e ∷ newer) es tx at is =
    event_cases (machine start) e (newer ++ es) (tc_of start (coordinator_member tx)) (IsMarked (Decided tx at))
    (λ here. inr (decided_on start newer es tx at is)) (λ off. decided_on start newer es tx at is)

module _ (closed : ClosedOnesAreCommitted) (finals : CommittedOnesAreFinal) (decided : CommitsWereDecided)
    (start : Start) (logs : ℕ → List HostStep) (begins : start.start_epoch < start.epoch)
    (are : AreOfCluster start logs) (member : Member) (there : IsIn member (made start)) (before : Rows) (epoch : ℕ)
    (key : List ℕ) (held : holds start.shape member.node key ≡ true)
    (row_is : map.get before key ≡ row_of (first_rows start member) key) where
  abbrev end : List HostStep
  end = events_of start logs

  moment : IsMoment start logs (events_of start logs)
  moment = are_moments start logs are

  abbrev h : ℕ
  h = ldm_of start member

  abbrev own : List Event → Option (List ℕ)
  own events = own_row start member there epoch before key events

  along : (es : List HostStep) → IsPast es (events_of start logs) → IsAlong start logs (events_of start logs) es
  along es past = record { moment = moment; past = past }

  moment_of : (es : List HostStep) → IsPast es (events_of start logs) → IsMoment start logs es
  moment_of es past = moment_at start logs end es (along es past)

  -- a moment behind the closing of an epoch that isn't lesser, and the last one before that at which nobody is decided
  -- in a later epoch
  module _ (es : List HostStep) (past : IsPast es (events_of start logs)) (saved : ℕ) (low : epoch ≤ saved)
      (full : WasFullAtClosing start es saved member) (ms between : List HostStep)
      (older_is : full.older ≡ between ++ ms) (up_to : DecideWith (λ at. at ≤ epoch) ms)
      (late_then : DecideWith (λ at. epoch < at) between)
      (late_after : DecideWith (λ at. epoch < at) (full.newer ++ full.closing ∷ []))
      (late_rest : DecideWith (λ at. epoch < at) past.newer) where
    abbrev older : List HostStep
    older = full.older

    abbrev final : TxId → Bool
    final = is_final start (events_of start logs)

    abbrev kept : TxId → Bool
    kept = kept_of (decided_at start (events_of start logs) ms) (is_final start (events_of start logs))

    abbrev value : Option (List ℕ)
    value = value_at start (events_of start logs) key ms

    -- what comes behind the first moment
    record IsBehind (xs : List HostStep) : Type 0 where
      newer : List HostStep
      is : xs ≡ newer ++ ms
      late : DecideWith (λ at. epoch < at) newer

    behind_older : (ys : List HostStep) → DecideWith (λ at. epoch < at) ys → IsBehind (ys ++ full.older)
    behind_older ys late = record {
      newer = ys ++ between;
      is = ap (λ xs. ys ++ xs) older_is ∙ sym (append_assoc ys between ms);
      late = decide_both (λ at. epoch < at) ys between late late_then;
    }

    es_is : es ≡ (full.newer ++ full.closing ∷ []) ++ full.older
    es_is = full.is ∙ sym (append_assoc full.newer (full.closing ∷ []) older)

    es_behind : IsBehind es
    es_behind = subst IsBehind (sym es_is) (behind_older (full.newer ++ full.closing ∷ []) late_after)

    older_past : IsPast full.older es
    older_past = record { newer = full.newer ++ full.closing ∷ []; is = es_is }

    ms_past : IsPast ms es
    ms_past = past_trans (record { newer = between; is = older_is }) older_past

    -- the history up to the epoch
    value_is : row_up_to start logs epoch key ≡ value_at start (events_of start logs) key ms
    value_is =
        ap (row_at_end key (map.get (rows_of start.rows) key))
        (history_up_to start logs are epoch (past.newer ++ es_behind.newer) ms
        (past.is ∙ ap (λ xs. past.newer ++ xs) es_behind.is ∙ sym (append_assoc past.newer es_behind.newer ms)) up_to
        (decide_both (λ at. epoch < at) past.newer es_behind.newer late_rest es_behind.late))

    replica_older : IsReplicaOf start (logs_of start full.older) key member
    replica_older =
        full_replica start logs older (moment_of older (past_trans older_past past)) key member full.full held

    replica_ms : IsReplicaOf start (logs_of start ms) key member
    replica_ms =
        replica_was start logs between ms
        (subst (IsMoment start logs) older_is (moment_of older (past_trans older_past past))) key member
        (subst (λ xs. IsReplicaOf start (logs_of start xs) key member) older_is replica_older)

    replica_first : IsReplicaOf start (logs_of start []) key member
    replica_first =
        replica_was start logs ms []
        (subst (IsMoment start logs) (sym (append-nil ms)) (moment_of ms (past_trans ms_past past))) key member
        (subst (λ xs. IsReplicaOf start (logs_of start xs) key member) (sym (append-nil ms)) replica_ms)

    -- whoever is committed up to the epoch takes effect
    takes_effect : (e : HostStep) (xs : List HostStep) → IsPast (e ∷ xs) es → (v : TxId) (at : ℕ)
        → Commits start e xs member v key at → at ≤ epoch → is_final start (events_of start logs) v ≡ true
    takes_effect e xs less v at c down =
        finals start logs end es xs e saved member begins moment past there full less v key at c
        (omega (arith, down, low))

    was_decided : (e : HostStep) (xs : List HostStep) → IsPast (e ∷ xs) es → (v : TxId) (at : ℕ)
        → Commits start e xs member v key at → IsDecided start (logs_of start xs) v at
    was_decided e xs less v at c =
        decided start logs e xs begins (moment_of (e ∷ xs) (past_trans less past)) member there v key at c

    -- so it is one of those that were decided by the first moment
    low_kept : (e : HostStep) (xs : List HostStep) → IsPast (e ∷ xs) es → IsBehind xs → (v : TxId) (at : ℕ)
        → Commits start e xs member v key at → at ≤ epoch → kept v ≡ true
    low_kept e xs less b v at c down =
        by
        (decided_before start (λ at. epoch < at) b.newer ms b.late v at
        (subst (λ zs. IsDecided start (logs_of start zs) v at) b.is (was_decided e xs less v at c)))
      where
        by : (epoch < at) ⊎ IsDecided start (logs_of start ms) v at → kept v ≡ true
        by (inl up) = absurd (omega (arith, up, down))
        by (inr is) =
            and_from (decided_at start end ms v) (final v)
            (decided_so v at (logs_of start ms (tc_of start (coordinator_member v))) is)
            (takes_effect e xs less v at c down)

    kept_low : (e : HostStep) (xs : List HostStep) → IsPast (e ∷ xs) es → IsBehind xs → (v : TxId) → kept v ≡ true
        → (at : ℕ) → Commits start e xs member v key at → at ≤ epoch
    kept_low e xs less b v on at c =
        let its =
        committed.decided_at (logs_of start ms (tc_of start (coordinator_member v))) v
        (and_parts (decided_at start end ms v) (final v) on).0 in
        let down = decided_with start (λ at. at ≤ epoch) ms up_to v its.epoch its.marked in
        let same =
        decided_alike start logs xs (moment_of xs (past_trans (past_less e less) past)) v at its.epoch
        (was_decided e xs less v at c)
        (subst (λ zs. IsDecided start (logs_of start zs) v its.epoch) (sym b.is)
        (decided_on start b.newer ms v its.epoch its.marked)) in
        omega (arith, down, same)

    are_kept : (xs : List HostStep) → IsBehind xs → AreKept start (events_of start logs) member key kept xs
    are_kept xs b = record {
      decided = λ v on.
          let its =
          committed.decided_at (logs_of start ms (tc_of start (coordinator_member v))) v
          (and_parts (decided_at start end ms v) (final v) on).0 in
          decided_so v its.epoch (logs_of start xs (tc_of start (coordinator_member v)))
          (subst (λ zs. IsDecided start (logs_of start zs) v its.epoch) (sym b.is)
          (decided_on start b.newer ms v its.epoch its.marked));
      final = λ v on. (and_parts (decided_at start end ms v) (final v) on).1;
    }

    -- at the first moment
    led_first : (events : List Event) → AreEventsOf start member (logs_of start ms (ldm_of start member)) events
        → IsLed start (events_of start logs) member key kept value (own events) ms
    led_first events is = by (leaves kept cell.row cell.pending once)
      where
        cell : Cell
        cell = (replica_at start (logs_of start ms) member key).cell

        once : AreOnce (replica_at start (logs_of start ms) member key).cell.pending
        once = rows_once start are.nobody member there (logs_of start ms h) key

        front : IsFront decided start logs end begins moment member there epoch before key final replica_first row_is ms
            events
        front =
            front_stands decided start logs end begins moment member there epoch before key final replica_first row_is
            ms (past_trans ms_past past) up_to (λ e more less. takes_effect e more (past_trans less ms_past)) events is

        clean : list_any (is_spoilt final) (replica_at start (logs_of start ms) member key).cell.pending ≡ false
        clean =
            unspoilt final cell.pending once
            (λ v r found_is done. front.committed v (ap state_by found_is ∙ ap (λ b. Some b) done))

        led : kept_row kept (replica_at start (logs_of start ms) member key).cell.row
            (replica_at start (logs_of start ms) member key).cell.pending ≡ value
        led =
            (keys_stay_led all_stand start logs end ms moment (past_trans ms_past past) key).led member replica_ms clean

        by : Leaves kept (replica_at start (logs_of start ms) member key).cell.row
            (replica_at start (logs_of start ms) member key).cell.pending
            → IsLed start (events_of start logs) member key kept value (own events) ms
        by (an_image r is begun on image) =
            by_image (record {
              tx = r.tx;
              is_kept = on;
              r = r;
              there = is;
              begun = begun;
              image_is = sym image ∙ led;
            })
        by (the_row none same) = by_row (λ v on r is begun. none v r on is begun) (front.row ∙ sym same ∙ led)

    -- up to the closing
    led_on : (xs : List HostStep) → DecideWith (λ at. epoch < at) xs → IsPast (xs ++ ms) es
        → IsReplicaOf start (logs_of start (xs ++ ms)) key member → (events : List Event)
        → AreEventsOf start member (logs_of start (xs ++ ms) (ldm_of start member)) events
        → IsLed start (events_of start logs) member key kept value (own events) (xs ++ ms)
    led_on [] late less replica events is = led_first events is
    led_on (e ∷ xs) late less replica events is =
        by (led_on xs late.1 (past_less e less) was one.older one.are)
      where
        b : IsBehind (xs ++ ms)
        b = record { newer = xs; is = refl; late = late.1 }

        here : IsAlong start logs (events_of start logs) (e ∷ xs ++ ms)
        here = along (e ∷ xs ++ ms) (past_trans less past)

        was : IsReplicaOf start (logs_of start (xs ++ ms)) key member
        was =
            replica_before start logs e (xs ++ ms) (moment_of (e ∷ xs ++ ms) (past_trans less past)) key member replica

        one : OneMore start member there epoch before key e (xs ++ ms) events
        one = one_more start member there epoch before key are.nobody e (xs ++ ms) events is

        by : IsLed start (events_of start logs) member key kept value (own one.older) (xs ++ ms)
            → IsLed start (events_of start logs) member key kept value (own events) (e ∷ xs ++ ms)
        by (by_image w) =
            waits_on start end member key kept logs e (xs ++ ms) here there (are_kept (xs ++ ms) b) epoch before value
            one.older events was (kept_low e (xs ++ ms) less b) w one.goes
        by (by_row none same) =
            by_row (none_waits_on start end member key kept logs e (xs ++ ms) here there (are_kept (xs ++ ms) b) none)
            (row_stays start end member key kept logs e (xs ++ ms) here there (are_kept (xs ++ ms) b) epoch before value
            one.older events (low_kept e (xs ++ ms) less b) none one.goes ∙ same)

    -- there nothing that is kept is prepared any more
    record IsSettled (xs : List HostStep) (events : List Event) : Type 0 where
      none : NoneWaits start (events_of start logs) member key kept xs
      row : own_row start member there epoch before key events ≡ value_at start (events_of start logs) key ms

    settled_older : (events : List Event)
        → AreEventsOf start member (logs_of start full.older (ldm_of start member)) events
        → IsSettled full.older events
    settled_older events is =
        by
        (subst (IsLed start end member key kept value (own events)) (sym older_is)
        (led_on between late_then (subst (λ xs. IsPast xs es) older_is older_past)
        (subst (λ xs. IsReplicaOf start (logs_of start xs) key member) older_is replica_older) events
        (subst (λ xs. AreEventsOf start member (logs_of start xs h) events) older_is is)))
      where
        closing_past : IsPast (full.closing ∷ full.older) (events_of start logs)
        closing_past = past_trans (record { newer = full.newer; is = full.is }) past

        done : Waits start (events_of start logs) member key kept value full.older → ⊥
        done w =
            let its =
            committed.decided_at (logs_of start ms (tc_of start (coordinator_member w.tx))) w.tx
            (and_parts (decided_at start end ms w.tx) (final w.tx) w.is_kept).0 in
            let down = decided_with start (λ at. at ≤ epoch) ms up_to w.tx its.epoch its.marked in
            true≢false
            (sym (closed start logs end older full.closing saved begins moment closing_past full.marked w.tx its.epoch
            (subst (λ xs. IsDecided start (logs_of start xs) w.tx its.epoch) (sym older_is)
            (decided_on start between ms w.tx its.epoch its.marked)) (omega (arith, down, low))
            (and_parts (decided_at start end ms w.tx) (final w.tx) w.is_kept).1 key member replica_older w.r w.there)
            ∙ w.begun)

        by : IsLed start (events_of start logs) member key kept value (own events) full.older
            → IsSettled full.older events
        by (by_image w) = absurd (done w)
        by (by_row none same) = record { none = none; row = same }

    -- and so it is later on
    settled_on : (ys : List HostStep) → DecideWith (λ at. epoch < at) ys → IsPast (ys ++ full.older) es
        → (events : List Event)
        → AreEventsOf start member (logs_of start (ys ++ full.older) (ldm_of start member)) events
        → IsSettled (ys ++ full.older) events
    settled_on [] late less events is = settled_older events is
    settled_on (e ∷ ys) late less events is = by (settled_on ys late.1 (past_less e less) one.older one.are)
      where
        b : IsBehind (ys ++ full.older)
        b = behind_older ys late.1

        here : IsAlong start logs (events_of start logs) (e ∷ ys ++ full.older)
        here = along (e ∷ ys ++ older) (past_trans less past)

        one : OneMore start member there epoch before key e (ys ++ full.older) events
        one = one_more start member there epoch before key are.nobody e (ys ++ older) events is

        by : IsSettled (ys ++ full.older) one.older → IsSettled (e ∷ ys ++ full.older) events
        by rest = record {
          none =
              none_waits_on start end member key kept logs e (ys ++ older) here there (are_kept (ys ++ older) b)
              rest.none;
          row =
              row_stays start end member key kept logs e (ys ++ older) here there (are_kept (ys ++ older) b) epoch
              before value one.older events (low_kept e (ys ++ older) less b) rest.none one.goes ∙ rest.row;
        }

    pub own_is_history : (events : List Event)
        → AreEventsOf start member (logs_of start es (ldm_of start member)) events
        → own_row start member there epoch before key events ≡ row_up_to start logs epoch key
    own_is_history events is =
        (settled_on (full.newer ++ full.closing ∷ []) late_after (subst (λ xs. IsPast xs es) es_is (past_self es))
        events (subst (λ xs. AreEventsOf start member (logs_of start xs h) events) es_is is)).row
        ∙ sym value_is
