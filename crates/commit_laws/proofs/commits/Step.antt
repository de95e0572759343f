-- An event keeps what stands of commits.
use Rattle.std.proofs.Common.{◌≡◌, ◌≢◌, ◌≤◌, ◌⊎◌, ◌||◌, ◌∙◌, ℕ, Bool, true, false, List}
use Rattle.std.proofs.Common.{[], ◌∷◌, refl, sym, ap, subst, arith, inl, inr}
use Rattle.std.proofs.lemmas.Bool.{cases_eq, true≢false}
use Rattle.std.specs.Prelude.{Option, None, Some}
use Rattle.std.specs.List.{list_any, slice_get}
use Rattle.run_theory.specs.Links.{sent}
use Rattle.run_theory.specs.Lists.{Each, IsIn}
use Rattle.run_theory.proofs.Pasts.{each_in, each_map}
use Rattle.run_theory.proofs.Runs.{log_of-other}
use Rattle.run_theory.proofs.EventCases.{event_cases}
use Rattle.commit_laws.proofs.parts.Sent.{both_each}
use Rattle.commit_laws.proofs.forth.Grows.{known_grows}
use Rattle.sig_core.specs.declared.member.Member.{Member}
use Rattle.sig_core.specs.declared.member.TxId.{TxId}
use Rattle.sig_core.specs.declared.outs.Outgoing.{Outgoing}
use Rattle.sig_core.specs.declared.place.Part.TheVariants.{Ldm}
use Rattle.sig_core.specs.declared.rows.PendingRecord.{PendingRecord}
use Rattle.sig_core.specs.declared.signal.Body.{Body}
use Rattle.sig_core.specs.declared.signal.Body.TheVariants.{Chain, Client, Host}
use Rattle.sig_core.specs.declared.signal.chain.ChainSignal.TheVariants.{Commit, Committed, Complete, Completed}
use Rattle.sig_core.specs.declared.signal.client.ClientSignal.{ClientSignal}
use Rattle.sig_core.specs.declared.signal.client.ClientSignal.TheVariants.{TcCommitAck, TcCommitConf, TcKeyFailConf}
use Rattle.sig_core.specs.declared.signal.host.HostSignal.TheVariants.{Closed}
use Rattle.sig_core.specs.declared.view.View.{View}
use Rattle.sig_core.proofs.TxLemmas.{same_tx-is}
use Rattle.lqh_block.specs.Commit.{is_marker}
use Rattle.lqh_views.specs.Replica.{replica_row}
use Rattle.lqh_views.specs.State.{ReplicaState}
use Rattle.node_views.specs.WellFormed.{is_well_formed}
use Rattle.key_laws.specs.Records.{found}
use Rattle.key_laws.specs.Replica.{at_key}
use Rattle.takeover_block.specs.declared.stage.Stage.{Stage}
use Rattle.takeover_block.proofs.LawLemmas.{least_of}
use Rattle.takeover_block.specs.declared.stage.Stage.TheVariants as stage
use Rattle.world_core.specs.Start.{Start, made}
use Rattle.world_core.specs.Steps.{Addressed, HostStep}
use Rattle.world_views.specs.Machine.{IsOwnWork, machine, step_after}
use Rattle.view_laws.specs.Order.{sound_machine}
use Rattle.view_laws.specs.Runs.{view_after}
use Rattle.moment_laws.specs.Moments.{IsMoment, logs_of}
use Rattle.moment_laws.specs.Places.{ldm_of, tc_of}
use Rattle.moment_laws.proofs.MomentHosts.{host_made}
use Rattle.moment_laws.proofs.MomentSignals.{EachSent, IsClosed, sent_below, sent_next, taken_told}
use Rattle.moment_laws.proofs.MomentTurns.{Turn, host_low, keeps, raises, stands_behind, turn}
use Rattle.moment_laws.proofs.MomentViews.{current_number, moment_less}
use Rattle.request_laws.specs.Blocks.{rows_after}
use Rattle.request_laws.specs.Ways.{is_sent}
use Rattle.request_laws.proofs.routes.Headers.{sent_so}
use Rattle.request_laws.proofs.routes.Hosts.{PartHost, coordinates, is_beside, keeps_rows, part_host}
use Rattle.commit_laws.specs.Answered.{AllWereCommittedIn, IsAnswered}
use Rattle.commit_laws.specs.Commits.{ComesFromTheEnd, ComesWhenDone, CommitsStand, HasWrittenOne, IsDone, IsKept}
use Rattle.commit_laws.specs.Fates.{commits, fate}
use Rattle.commit_laws.specs.Forth.{ForthIsKnownAlways, IsForth, TellsForth}
use Rattle.commit_laws.specs.Going.{decided_ops, is_decided, is_forth}
use Rattle.commit_laws.specs.Markers.{CommitsAreRemembered}
use Rattle.commit_laws.specs.Settled.{IsSettledWith}
use Rattle.commit_laws.specs.Takeovers.{FirstIs, IsRuled, takeover_at}
use Rattle.commit_laws.specs.Together.{FatesMove, Follows}
use Rattle.commit_laws.specs.Traces.{has_marker_at, has_sent, is_acknowledgement, is_committed_at, is_committed_by}
use Rattle.commit_laws.specs.Traces.{is_known, record_at, rows_at}
use Rattle.commit_laws.specs.Whole.{CommitsGoWhole}
use Rattle.commit_laws.proofs.commits.Places.{commit_place}
use Rattle.commit_laws.proofs.commits.Now.{applied_now, at_all_first, from_here}
use Rattle.commit_laws.proofs.commits.Remain.{AcknowledgedAreKnown, at_all_stays, committed_stays, done_stays}
use Rattle.commit_laws.proofs.forth.DecidedStay.{forth_decided, written_before, written_more}
use Rattle.commit_laws.proofs.gathering.EndsTold.{IsEnd, beside_ends}
use Rattle.commit_laws.proofs.forth.Client.{IsToldOf, by_coordinator, by_takeover}
use Rattle.commit_laws.proofs.fates.Decided.{commits_forth}
use Rattle.commit_laws.proofs.records.KeptRows.{held_now, records_now}
use Rattle.commit_laws.proofs.records.KeyGoes.{TakesNow}
use Rattle.commit_laws.proofs.records.Locks.{let_go_now, prepared_now}
use Rattle.commit_laws.proofs.commits.Owners.{IsAtCommit, IsOwnersWord, OwnersSayCommits}
use Rattle.commit_laws.proofs.commits.OwnersTakeover.{IsBusy}
use Rattle.commit_laws.proofs.commits.RowsEnd.{IsRowsWord, rows_words}
use Rattle.commit_laws.proofs.hosts.RowsTurn.{IsBetween, IsTakenAt, rows_each}
use Rattle.commit_laws.proofs.hosts.SaverGoes.{of_saver}
use Rattle.commit_laws.proofs.links.TakenChains.{chain_told}
use Rattle.commit_laws.proofs.markers.Traces.{alone_now, complete_done, written_now}
use Rattle.commit_laws.proofs.led.Begins.{place_inside}

-- a closing tells of nothing
pub not_closing : (signal : ClientSignal) (body : Body) → body ≡ Client signal → IsClosed body → ⊥
not_closing signal body is closes = let both : Client signal ≡ Host (Closed closes.cause) = sym is ∙ closes.is in cc

module _ (forth : ForthIsKnownAlways) (remembered : CommitsAreRemembered) (acknowledged : AcknowledgedAreKnown)
    (whole : CommitsGoWhole) (owners : OwnersSayCommits) (start : Start) (all : ℕ → List HostStep) (e : HostStep)
    (es : List HostStep) (follows : Follows start all e es)
  where
    abbrev old : ℕ → List HostStep
    old = logs_of start es

    abbrev new : ℕ → List HostStep
    new = logs_of start (e ∷ es)

    abbrev moment : IsMoment start all (e ∷ es)
    moment = follows.moment

    abbrev before : IsMoment start all es
    before = moment_less start all e es moment

    abbrev old_number : ℕ
    old_number = current_number start old

    abbrev new_number : ℕ
    new_number = current_number start new

    -- who is committed at a member stays so, whether that was made or not
    any_stays : (member : Member) (key : List ℕ) (tx : TxId) → is_committed_at start old member key tx ≡ true
        → is_committed_at start new member key tx ≡ true
    any_stays member key tx is = by (cases_eq e.host (ldm_of start member))
      where
        same_rows : e.host ≢ ldm_of start member → rows_at start new member ≡ rows_at start old member
        same_rows other = ap (rows_after start member) (log_of-other (machine start) e es (ldm_of start member) other)

        more : (o : Option PendingRecord) (marked was now : Bool) → (was ≡ true → now ≡ true)
            → is_committed_by (marked || was) o ≡ true → is_committed_by (marked || now) o ≡ true
        more (Some r) marked was now up is = is
        more None true was now up is = refl
        more None false was now up is = up is

        by : (e.host ≡ ldm_of start member) ⊎ (e.host ≢ ldm_of start member)
            → is_committed_at start new member key tx ≡ true
        by (inl at) =
            let low = host_low start all e es moment in
            committed_stays forth remembered acknowledged start all e es moment member
            (host_made start Ldm member (omega (arith, low, at))) key tx is
        by (inr other) =
            subst
            (λ (s : ReplicaState). is_committed_by (list_any (is_marker tx key) s.lqh.markers || is_known start new tx)
            (found tx (at_key key s.lqh).cell.pending) ≡ true)
            (sym (same_rows other))
            (more (record_at start old member key tx) (has_marker_at start old member key tx) (is_known start old tx)
            (is_known start new tx) (known_grows start e es tx) is)

    decided_of : (tx : TxId) → is_forth start old tx ≡ true → is_decided start old tx ≡ true
    decided_of tx gone = forth_decided start all es before tx gone

    done_more : (tx : TxId) → is_forth start old tx ≡ true → IsDone start old tx → IsDone start new tx
    done_more tx gone done =
        done_stays forth remembered acknowledged start all e es moment tx (decided_of tx gone) done

    one_more : (tx : TxId) → is_decided start old tx ≡ true → HasWrittenOne start old tx → HasWrittenOne start new tx
    one_more tx decided one = record {
      key = one.key;
      written = written_more start all e es moment tx one.key decided
          one.written;
    }

    -- what was told before stays so
    end_stays : (body : Body) → TellsForth (IsForth start old) body → ComesFromTheEnd start old body
        → ComesFromTheEnd start new body
    end_stays (Chain (Commit tx key epoch chain at)) gone comes = λ written place member less there.
        any_stays member key tx
        (comes (written_before start all e es moment tx key (decided_of tx gone) written) place member less there)
    end_stays (Chain (Committed tx key)) gone comes = λ written.
        at_all_stays forth remembered acknowledged start all e es moment tx key
        (comes (written_before start all e es moment tx key (decided_of tx gone) written))
    end_stays body gone comes = tt

    word_stays : (body : Body) → TellsForth (IsForth start old) body → ComesWhenDone start old body
        → ComesWhenDone start new body
    word_stays (Chain (Complete tx key chain at)) gone done = done_more tx gone done
    word_stays (Chain (Completed tx key)) gone done = done_more tx gone done
    word_stays (Client (TcCommitConf tx epoch)) gone done = done_more tx gone done
    word_stays (Client (TcKeyFailConf tx epoch)) gone done =
        (done_more tx gone done.0, one_more tx (decided_of tx gone) done.1)
    word_stays (Client (TcCommitAck tx)) gone done = done_more tx gone done
    word_stays body gone done = tt

    old_forth : EachSent start (λ (y : Addressed). TellsForth (IsForth start old) y.signal.body) old
    old_forth = (forth start all es before).signals

    old_done : EachSent start (λ (y : Addressed). ComesWhenDone start new y.signal.body) old
    old_done i j =
        both_each (λ (y : Addressed). TellsForth (IsForth start old) y.signal.body)
        (λ (y : Addressed). ComesWhenDone start old y.signal.body)
        (λ (y : Addressed). ComesWhenDone start new y.signal.body) (sent (sound_machine start) i j (old i))
        (λ y gone done. word_stays y.signal.body gone done) (old_forth i j) (follows.stood.commits.done i j)

    -- what the event sends
    abbrev NewWord : Body → Type 0
    NewWord (Chain (Commit tx key epoch chain at)) = ComesFromTheEnd start new (Chain (Commit tx key epoch chain at))
    NewWord (Chain (Committed tx key)) = ComesFromTheEnd start new (Chain (Committed tx key))
    NewWord (Chain (Completed tx key)) = IsDone start new tx
    NewWord (Client (TcCommitAck tx)) = IsDone start new tx
    NewWord (Client (TcKeyFailConf tx epoch)) = HasWrittenOne start new tx
    NewWord body = Unit {0}

    abbrev AreNew : List Outgoing → Type 0
    AreNew sends = Each (λ (o : Outgoing). NewWord o.body) sends

    abbrev sends_at : ℕ → List Outgoing
    sends_at h = (step_after start h (old h) e).effects.sends

    -- of the client's side
    told_done : is_well_formed start.shape e.step.taken ≡ true → (tx : TxId) → IsToldOf tx e.step.taken.body
        → IsDone start new tx
    told_done sound tx told_of = by told_of
      where
        client_told : (signal : ClientSignal) → e.step.taken.body ≡ Client signal
            → ComesWhenDone start new (Client signal)
        client_told signal is =
            subst (ComesWhenDone start new) is
            (taken_told start (λ (y : Addressed). ComesWhenDone start new y.signal.body) all e es moment old_done sound
            (λ own. absurd (subst (IsOwnWork start e.host) is own)) (not_closing signal e.step.taken.body is))

        by : IsToldOf tx e.step.taken.body → IsDone start new tx
        by (by_coordinator epoch is) = client_told (TcCommitConf tx epoch) is
        by (by_takeover epoch is) = (client_told (TcKeyFailConf tx epoch) is).0

    beside_new : (body : Body) → IsEnd (λ tx. IsDone start new tx) body → NewWord body
    beside_new (Chain signal) is = absurd is
    beside_new (Client (TcCommitAck tx)) is = is
    beside_new (Client (TcKeyFailConf tx epoch)) is = absurd is
    beside_new body is = tt

    -- of rows
    module _ (me : Member) (there : IsIn me (made start)) (s : ReplicaState)
        (between : IsBetween start all e es moment me there s) (taken : IsTakenAt start all e es moment me there s)
      where
        abbrev takes : TakesNow start all e es moment me there
        takes = record { rows = s; between = between; taken = taken; at = taken.at; now = taken.now }

        gone_of : (tx : TxId) (key : List ℕ) (epoch : ℕ) (chain : List Member) (at : ℕ)
            → e.step.taken.body ≡ Chain (Commit tx key epoch chain at) → is_forth start old tx ≡ true
        gone_of tx key epoch chain at is =
            subst (TellsForth (IsForth start old)) is
            (chain_told start all e es moment taken.now (Commit tx key epoch chain at) is
            (λ (y : Addressed). TellsForth (IsForth start old) y.signal.body) old_forth)

        rows_new : (body : Body) → IsRowsWord e.step.taken.body body → NewWord body
        rows_new (Chain (Commit tx key epoch chain front)) one = λ written place member less is.
            let was =
            written_before start all e es moment tx key
            (decided_of tx (gone_of tx key epoch chain one.at one.body_is)) written in
            let some = least_of one.at one.behind in
            let front_is = one.front_is in
            from_here forth remembered acknowledged whole start all e es moment follows.stood me there takes tx key
            epoch
            chain one.at one.body_is was place member (omega (arith, some, less, front_is))
            (subst (λ ms. slice_get ms place ≡ Some member)
            (commit_place start all e es moment me there takes whole tx key epoch chain one.at one.body_is was).0 is)
        rows_new (Chain (Committed tx key)) one = λ written.
            at_all_first forth remembered acknowledged whole start all e es moment follows.stood me there takes tx key
            one.epoch one.chain one.at one.body_is
            (written_before start all e es moment tx key
            (decided_of tx (gone_of tx key one.epoch one.chain one.at one.body_is)) written)
            one.first
        rows_new (Chain (Completed tx key)) one =
            done_more tx
            (subst (TellsForth (IsForth start old)) one.body_is
            (chain_told start all e es moment taken.now (Complete tx key one.chain one.at) one.body_is
            (λ (y : Addressed). TellsForth (IsForth start old) y.signal.body) old_forth))
            (complete_done forth start all e es moment remembered acknowledged follows.stood me there takes tx key
            one.chain
            one.at one.body_is)
        rows_new (Client (TcCommitAck tx)) one = absurd one
        rows_new (Client (TcKeyFailConf tx epoch)) one = absurd one
        rows_new body one = tt

        taken_new : AreNew (replica_row s e.step.taken).effects.sends
        taken_new =
            each_map (λ (o : Outgoing). IsRowsWord e.step.taken.body o.body) (λ (o : Outgoing). NewWord o.body)
            (replica_row s e.step.taken).effects.sends (λ o one. rows_new o.body one) (rows_words s e.step.taken)

    rows_sent : (me : Member) (there : IsIn me (made start)) → e.host ≡ ldm_of start me
        → AreNew (sends_at (ldm_of start me))
    rows_sent me there =
        rows_each start all e es moment me there (λ (o : Outgoing). NewWord o.body)
        (λ o own. of_saver NewWord (record { reports = λ epoch. tt; confirms = tt; goes_on = λ at. tt }) o.body own)
        (λ s between taken. taken_new me there s between taken)

    -- of coordinators and takeovers
    module _ (me : Member) (there : IsIn me (made start)) where
      wrote_one : (tx : TxId) → IsAtCommit start old me tx → HasWrittenOne start new tx
      wrote_one tx at = subst (HasWrittenOne start new) at.tx_is (one_more at.gathered.tx decided ruled.1)
        where
          both : (one : Stage) → IsBusy one → IsRuled start old one at.gathered
              → (fate start old at.gathered.tx ≡ commits) × HasWrittenOne start old at.gathered.tx
          both (stage.Committing epoch awaited) busy is = is
          both (stage.Completing epoch awaited) busy is = is
          both stage.Resting busy is = absurd busy
          both (stage.Gathering n) busy is = absurd busy
          both (stage.Aborting n) busy is = absurd busy

          ruled : (fate start old at.gathered.tx ≡ commits) × HasWrittenOne start old at.gathered.tx
          ruled =
              both (takeover_at start old me).stage at.busy
              (subst (λ o. FirstIs start old (IsRuled start old (takeover_at start old me).stage) o) at.first
              ((follows.stood.takeovers.each me there).ruled at.number_is))

          decided : is_decided start old at.gathered.tx ≡ true
          decided = decided_of at.gathered.tx (commits_forth forth start all es before at.gathered.tx ruled.0)

      owner_new : (body : Body) → IsOwnersWord start old me body → NewWord body
      owner_new (Chain (Commit tx key epoch chain at)) last = λ written place member less is.
          let low = place_inside chain place member is in
          absurd (omega (arith, last, less, low))
      owner_new (Chain (Committed tx key)) is = absurd is
      owner_new (Chain (Completed tx key)) is = absurd is
      owner_new (Client (TcCommitAck tx)) is = absurd is
      owner_new (Client (TcKeyFailConf tx epoch)) is = wrote_one tx is
      owner_new body is = tt

    all_new : AreNew (sends_at e.host)
    all_new = by (part_host start follows.moment.cluster.nobody e.host (host_low start all e es moment))
      where
        by : PartHost start e.host → AreNew (sends_at e.host)
        by (coordinates me there at) =
            subst (λ h. AreNew (sends_at h)) (sym at)
            (each_map (λ (o : Outgoing). IsOwnersWord start old me o.body) (λ (o : Outgoing). NewWord o.body)
            (sends_at (tc_of start me)) (λ o is. owner_new me there o.body is)
            (owners start all e es moment me there at))
        by (keeps_rows me there at) = subst (λ h. AreNew (sends_at h)) (sym at) (rows_sent me there at)
        by (is_beside first) =
            each_map (λ (o : Outgoing). IsEnd (λ tx. IsDone start new tx) o.body) (λ (o : Outgoing). NewWord o.body)
            (sends_at e.host) (λ o is. beside_new o.body is)
            (beside_ends start follows.moment.cluster.nobody e.host first (λ tx. IsDone start new tx) (old e.host) e
            told_done)

    -- commits come from the end
    end_of : (body : Body) → NewWord body → ComesFromTheEnd start new body
    end_of (Chain (Commit tx key epoch chain at)) is = is
    end_of (Chain (Committed tx key)) is = is
    end_of body is = tt

    abbrev EndNow : Addressed → Type 0
    EndNow y = y.signal.view.number ≡ new_number → ComesFromTheEnd start new y.signal.body

    old_ends : EachSent start EndNow old
    old_ends i j = by (turn start all e es moment)
      where
        by : Turn start all e es moment → Each EndNow (sent (sound_machine start) i j (old i))
        by (keeps same stands) =
            both_each (λ (y : Addressed). TellsForth (IsForth start old) y.signal.body)
            (λ (y : Addressed). y.signal.view.number ≡ old_number → ComesFromTheEnd start old y.signal.body) EndNow
            (sent (sound_machine start) i j (old i))
            (λ y gone comes number. end_stays y.signal.body gone (comes (number ∙ ap (λ (v : View). v.number) same)))
            (old_forth i j) (follows.stood.commits.commits i j)
        by (raises above stands) =
            each_map (λ (y : Addressed). y.signal.view.number ≤ old_number) EndNow
            (sent (sound_machine start) i j (old i)) (λ y low number. absurd (omega (arith, low, number, above)))
            (sent_below start all es before i j)

    pub commits_new : EachSent start EndNow new
    commits_new =
        sent_next start EndNow all e es moment old_ends
        (λ goes.
        sent_so start e.host (old e.host) e
        (λ (v : View) to (body : Body). v.number ≡ new_number → ComesFromTheEnd start new body)
        (each_map (λ (o : Outgoing). NewWord o.body)
        (λ (o : Outgoing). (view_after start e.host (e ∷ old e.host)).number ≡ new_number
        → ComesFromTheEnd start new o.body) (sends_at e.host) (λ o is number. end_of o.body is) all_new))

    -- what the client's side knows is done
    acknowledged_done : (tx : TxId) → is_sent (is_acknowledgement tx) (sends_at 0) ≡ true → e.host ≡ 0
        → IsDone start new tx
    acknowledged_done tx is at =
        find (sends_at 0) (subst (λ h. AreNew (sends_at h)) at all_new) is
      where
        ack : (body : Body) → is_acknowledgement tx body ≡ true → NewWord body → IsDone start new tx
        ack (Client (TcCommitAck other)) own word = subst (IsDone start new) (same_tx-is other tx own) word
        ack body own word = absurd (true≢false (sym own))

        find : (os : List Outgoing) → AreNew os → is_sent (is_acknowledgement tx) os ≡ true → IsDone start new tx
        find [] words is = absurd (true≢false (sym is))
        find (o ∷ os) words is = by (is_acknowledgement tx o.body) refl is (find os words.1)
          where
            by : (b : Bool) → is_acknowledgement tx o.body ≡ b
                → (b || is_sent (is_acknowledgement tx) os) ≡ true
                → (is_sent (is_acknowledgement tx) os ≡ true → IsDone start new tx) → IsDone start new tx
            by true own is more = ack o.body own words.0
            by false off is more = more is

    pub known_new : (tx : TxId) → is_known start new tx ≡ true → IsDone start new tx
    known_new tx is =
        event_cases (machine start) e es 0
        (λ log. has_sent start (is_acknowledgement tx) 0 log ≡ true → IsDone start new tx)
        (λ at. either at (is_sent (is_acknowledgement tx) (sends_at 0)) refl) (λ off. was) is
      where
        was : is_known start old tx ≡ true → IsDone start new tx
        was known = done_more tx ((forth start all es before).known tx known) (follows.stood.commits.known tx known)

        either : e.host ≡ 0 → (b : Bool) → is_sent (is_acknowledgement tx) (sends_at 0) ≡ b
            → (b || has_sent start (is_acknowledgement tx) 0 (old 0)) ≡ true → IsDone start new tx
        either at true here is = acknowledged_done tx here at
        either at false off is = was is

    -- what comes when all is done
    module _ (answered : (i j : ℕ)
        → Each (λ (x : Addressed). IsAnswered start (logs_of start (e ∷ es)) x.signal.view.number x.signal.body)
        (sent (sound_machine start) i j (logs_of start (e ∷ es) i))) where
      abbrev IsFreshOrDone : Addressed → Type 0
      IsFreshOrDone y =
          ((y.signal.view.number ≡ new_number) × NewWord y.signal.body) ⊎ ComesWhenDone start new y.signal.body

      fresh_or_done : EachSent start IsFreshOrDone new
      fresh_or_done =
          sent_next start IsFreshOrDone all e es moment
          (λ i j.
          each_map (λ (y : Addressed). ComesWhenDone start new y.signal.body) IsFreshOrDone
          (sent (sound_machine start) i j (old i)) (λ y done. inr done) (old_done i j))
          (λ goes.
          sent_so start e.host (old e.host) e
          (λ (v : View) to (body : Body). ((v.number ≡ new_number) × NewWord body) ⊎ ComesWhenDone start new body)
          (each_map (λ (o : Outgoing). NewWord o.body)
          (λ (o : Outgoing). (((view_after start e.host (e ∷ old e.host)).number ≡ new_number) × NewWord o.body)
          ⊎ ComesWhenDone start new o.body) (sends_at e.host)
          (λ o is. inl (ap (λ (v : View). v.number) (stands_behind start all e es moment goes), is)) all_new))

      -- all answers of the current view are of what is committed at all replicas
      all_done : (number : ℕ) (tx : TxId) → number ≡ new_number → AllWereCommittedIn start new number tx
          → IsDone start new tx
      all_done number tx is were key written =
          let one = were key written in
          subst (ComesFromTheEnd start new) one.body
          (each_in EndNow one.signal (sent (sound_machine start) one.from one.to (new one.from))
          (commits_new one.from one.to)
          one.there (one.view ∙ is)) written

      either_done : (number : ℕ) (tx : TxId) → number ≡ new_number
          → AllWereCommittedIn start new number tx ⊎ (is_known start new tx ≡ true) → IsDone start new tx
      either_done number tx is (inl were) = all_done number tx is were
      either_done number tx is (inr known) = known_new tx known

      fresh_done : (number : ℕ) (body : Body) → number ≡ new_number → NewWord body → IsAnswered start new number body
          → ComesWhenDone start new body
      fresh_done number (Chain (Complete tx key chain at)) is word answers = either_done number tx is answers
      fresh_done number (Chain (Completed tx key)) is word answers = word
      fresh_done number (Client (TcCommitConf tx epoch)) is word answers = all_done number tx is answers
      fresh_done number (Client (TcKeyFailConf tx epoch)) is word answers = (either_done number tx is answers, word)
      fresh_done number (Client (TcCommitAck tx)) is word answers = word
      fresh_done number body is word answers = tt

      done_new : EachSent start (λ (y : Addressed). ComesWhenDone start new y.signal.body) new
      done_new i j =
          both_each IsFreshOrDone (λ (y : Addressed). IsAnswered start new y.signal.view.number y.signal.body)
          (λ (y : Addressed). ComesWhenDone start new y.signal.body) (sent (sound_machine start) i j (new i))
          (λ y fresh answers. by y fresh answers) (fresh_or_done i j) (answered i j)
        where
          by : (y : Addressed) → IsFreshOrDone y → IsAnswered start new y.signal.view.number y.signal.body
              → ComesWhenDone start new y.signal.body
          by y (inl fresh) answers = fresh_done y.signal.view.number y.signal.body fresh.0 fresh.1 answers
          by y (inr done) answers = done

      pub commits_stand : (moves : (tx : TxId) → FatesMove start e es tx)
          → ((tx : TxId) → IsKept start (logs_of start (e ∷ es)) tx → is_decided start (logs_of start es) tx ≡ false
          → (key : List ℕ) → IsSettledWith start (logs_of start es) key tx
          (decided_ops start (logs_of start (e ∷ es)) tx))
          → CommitsStand start (logs_of start (e ∷ es))
      commits_stand moves settled = record {
        held = held_now forth remembered acknowledged start all e es moment follows.stood moves settled;
        records = records_now forth remembered acknowledged start all e es moment follows.stood moves settled;
        written = λ tx member there key.
            written_now forth start all e es moment remembered acknowledged follows.stood member there key tx;
        commits = commits_new;
        done = done_new;
        applied = applied_now forth remembered acknowledged whole start all e es moment follows.stood;
        alone = alone_now forth start all e es moment remembered acknowledged follows.stood;
        let_go = λ member among key tx.
            let_go_now forth remembered acknowledged whole start all e es moment follows.stood member among key tx;
        prepared = λ member among key tx.
            prepared_now forth remembered acknowledged whole start all e es moment follows.stood member among key tx;
        known = known_new;
      }
