-- Rows conserve tokens: of a transaction they send no more than came and no longer waits, and an installation ends all
-- that waits.
use Rattle.std.proofs.Common.{◌≡◌, ◌≤◌, ◌+◌, ◌==◌, ℕ, Bool, true, false, List, [], ◌∷◌, map, refl, sym, ap, arith, ◌∙◌}
use Rattle.std.specs.Prelude.{Option, None, Some}
use Rattle.std.specs.FinMap as finite
use Rattle.std.specs.List.{count_by}
use Rattle.std.proofs.lemmas.Bool.{true≢false}
use Rattle.run_theory.specs.Counts.{one_if as plain_one, tally}
use Rattle.run_theory.specs.Lists.{IsIn}
use Rattle.sig_core.specs.declared.member.Member.{Member}
use Rattle.sig_core.specs.declared.member.TxId.{TxId}
use Rattle.sig_core.specs.declared.outs.Outgoing.{Outgoing}
use Rattle.sig_core.specs.declared.rows.PendingRecord.{PendingRecord}
use Rattle.sig_core.specs.declared.signal.Body.{Body}
use Rattle.sig_core.specs.declared.signal.Body.TheVariants.{Chain, Epoch, Host, Membership, Takeover}
use Rattle.sig_core.specs.declared.signal.Signal.{Signal}
use Rattle.sig_core.specs.declared.signal.chain.ChainSignal.TheVariants.{LqhKeyConf, LqhKeyRef, LqhKeyReq}
use Rattle.sig_core.specs.declared.signal.epoch.EpochSignal.{EpochSignal}
use Rattle.sig_core.specs.declared.signal.epoch.EpochSignal.TheVariants.{GcpClosed, GcpSaveReq, GcpStateReq}
use Rattle.sig_core.specs.declared.signal.host.HostSignal.TheVariants.{Continue}
use Rattle.sig_core.specs.declared.signal.host.Work.TheVariants as work
use Rattle.sig_core.specs.declared.signal.membership.MembershipSignal.TheVariants.{FenceReq}
use Rattle.sig_core.specs.declared.signal.takeover.TakeoverSignal.TheVariants.{LqhTransReq}
use Rattle.sig_core.specs.declared.view.View.{View}
use Rattle.sig_core.specs.Same.{same_tx}
use Rattle.sig_core.specs.Step.{Step}
use Rattle.row_locks.specs.Queues.{waits}
use Rattle.row_locks.specs.Rows.{RowLock}
use Rattle.row_locks.specs.Tables.{or_unlocked}
use Rattle.row_locks.proofs.LocksLemmas.{key_cmp}
use Rattle.tc_block.specs.Complete.{one_if}
use Rattle.lqh_block.specs.declared.request.Marker.{Marker}
use Rattle.lqh_block.specs.declared.request.Request.{Request}
use Rattle.lqh_block.specs.Lqh.{lqh_row}
use Rattle.lqh_views.specs.Address.{addressed}
use Rattle.lqh_views.specs.declared.report.Report.{Report}
use Rattle.lqh_views.specs.Epochs.{epoch_table}
use Rattle.lqh_views.specs.Replica.{is_stale, passed, replica_by, replica_row, serve_if}
use Rattle.lqh_views.specs.Report.{go_on_by, is_orphaned_marker, is_orphaned_record, last_before, marker_by, record_by}
use Rattle.lqh_views.specs.Report.{reporting, telling, told_record_if}
use Rattle.lqh_views.specs.State.{ReplicaState}
use Rattle.lqh_views.proofs.AddressLemmas.{same-body}
use Rattle.lqh_saver.specs.Saver.{saver_row}
use Rattle.lqh_saver.specs.State.{SavingState}
use Rattle.lqh_saver.specs.Switching.{given_up, has_position}
use Rattle.lqh_saver.proofs.Walk.{saver_outcomes}
use Rattle.node_views.specs.declared.parts.Parts.{Parts}
use Rattle.world_views.specs.Machine.{after}
use Rattle.moment_laws.specs.Places.{ldm_of}
use Rattle.run_laws.specs.Tokens as plain
use Rattle.run_laws.proofs.tokens.Rows.{is_own, lqh_tokens, tokens_out}
use Rattle.run_laws.proofs.tokens.Waiting.{WaitersAsk}
use Rattle.run_laws.specs.Tokens.{is_token}
use Rattle.world_core.specs.Start.{NobodyStarts, Start, made}
use Rattle.world_core.specs.Steps.{HostStep}
use Rattle.outcome_laws.specs.Counts.{count_sent}
use Rattle.outcome_laws.proofs.coordinators.Lists.{count_more}
use Rattle.request_laws.specs.Blocks.{rows_after}
use Rattle.request_laws.specs.Tokens.{count_waiting}
use Rattle.request_laws.proofs.replicas.WaitersHaveRequests.{none_ask_installed, waiters_ask as signal_asks}
use Rattle.request_laws.proofs.replicas.AlongLogs.{AreRows, always, first_rows, rows_so}

-- two ways to say one where a test passes
pub one_same : (b : Bool) → plain_one b ≡ one_if b
one_same true = refl
one_same false = refl

-- what passes one test or the other, where they agree
tally_count : {A : Type 0} (p q : A → Bool) → ((x : A) → p x ≡ q x) → (xs : List A) → tally p xs ≡ count_by q xs
tally_count p q same [] = refl
tally_count p q same (x ∷ xs) =
    omega (arith, count_more q x xs, one_same (q x), ap plain_one (same x), tally_count p q same xs)

module _ (tx : TxId) where
  -- the signals are the same as in a cluster in which nothing fails
  token_same : (body : Body) → plain.is_token tx body ≡ is_token tx body
  token_same (Chain (LqhKeyReq other what chain at)) = refl
  token_same (Chain (LqhKeyConf other key answer)) = refl
  token_same (Chain (LqhKeyRef other key cause)) = refl
  token_same _ = refl

  pub out_same : (sends : List Outgoing) → tokens_out tx sends ≡ count_sent (is_token tx) sends
  out_same = tally_count (λ (o : Outgoing). plain.is_token tx o.body) (λ (o : Outgoing). is_token tx o.body)
      (λ o. token_same o.body)

  waiting_same : (s : ReplicaState) → tally (is_own tx) s.lqh.waiting ≡ count_waiting tx s
  waiting_same s = tally_count (is_own tx) (λ (q : Request). same_tx q.tx tx) (λ q. refl) s.lqh.waiting

  -- what a step of the rows comes to
  abbrev Conserves : ReplicaState → Body → Step ReplicaState → Type 0
  Conserves s body step =
      count_sent (is_token tx) step.effects.sends + count_waiting tx step.state
      ≤ count_waiting tx s + one_if (is_token tx body)

  -- what is addressed elsewhere is the same
  addressed_count : (view : View) (sends : List Outgoing)
      → count_sent (is_token tx) (map (addressed view) sends) ≡ count_sent (is_token tx) sends
  addressed_count view [] = refl
  addressed_count view (send ∷ sends) =
      omega (
        arith,
        count_more (λ (sent : Outgoing). is_token tx sent.body) (addressed view send) (map (addressed view) sends),
        count_more (λ (sent : Outgoing). is_token tx sent.body) send sends,
        ap (λ body. one_if (is_token tx body)) (same-body view send),
        addressed_count view sends,
      )

  module _ (s : ReplicaState) where
    -- reports, and orders about epochs
    marker_conserves : (body : Body) (r : Report) (o : Option (ℕ × Marker)) → Conserves s body (marker_by s r o)
    marker_conserves body r None = omega arith
    marker_conserves body r (Some (at, m)) = omega arith

    record_conserves : (body : Body) (r : Report) (o : Option (ℕ × PendingRecord)) → Conserves s body (record_by s r o)
    record_conserves body r None =
        marker_conserves body r (last_before (is_orphaned_marker s.lqh.layout.view.full) s.lqh.markers r.markers)
    record_conserves body r (Some (at, one)) = by one.committed
      where
        by : (b : Bool)
            → Conserves s body
            (telling s (record { to = r.to; records = at; markers = r.markers }) (told_record_if r.to one b))
        by true = omega arith
        by false = omega arith

    report_conserves : (body : Body) (r : Report) → Conserves s body (reporting s r)
    unfolding reporting
    report_conserves body r =
        record_conserves body r (last_before (is_orphaned_record s.lqh.layout.view.full) s.lqh.rows.pending r.records)

    go_on_conserves : (body : Body) (own : Bool) (o : Option Report) → Conserves s body (go_on_by s own o)
    go_on_conserves body true None = omega arith
    go_on_conserves body true (Some r) = report_conserves body r
    go_on_conserves body false None = omega arith
    go_on_conserves body false (Some r) = omega arith

    epoch_conserves : (body : Body) (from : ℕ) (signal : EpochSignal) → Conserves s body (epoch_table s from signal)
    epoch_conserves body from (GcpClosed epoch) = omega arith
    epoch_conserves body from (GcpSaveReq epoch) = omega arith
    epoch_conserves body from GcpStateReq = omega arith
    epoch_conserves body from _ = omega arith

    module _ (x : Signal) (ask : WaitersAsk s.lqh) where
      passed_conserves : Conserves s x.body (passed s x)
      passed_conserves =
          let step = lqh_row s.lqh x in
          omega (
            arith,
            addressed_count s.lqh.layout.view step.effects.sends,
            out_same step.effects.sends,
            waiting_same s,
            waiting_same (passed s x).state,
            lqh_tokens tx s.lqh x.body ask,
            one_same (is_token tx x.body),
            ap plain_one (token_same x.body),
          )

      served_conserves : (stale : Bool) → Conserves s x.body (serve_if s x stale)
      served_conserves true = omega arith
      served_conserves false = passed_conserves

      by_conserves : (body : Body) → Conserves s x.body (replica_by s x body)
      by_conserves (Membership (FenceReq proposal)) = omega arith
      by_conserves (Takeover LqhTransReq) = report_conserves x.body _
      by_conserves (Host (Continue work.Report at)) =
          go_on_conserves x.body (x.view.number == s.lqh.layout.view.number) s.report
      by_conserves (Host (Continue work.Granted at)) = served_conserves (is_stale s x)
      by_conserves (Host (Continue work.Expired at)) = served_conserves (is_stale s x)
      by_conserves (Epoch signal) = epoch_conserves x.body x.member.node signal
      by_conserves _ = passed_conserves

-- whatever rows take in which each wait has a request
pub rows_conserve : (s : ReplicaState) (x : Signal) (tx : TxId) → WaitersAsk s.lqh
    → count_sent (is_token tx) (replica_row s x).effects.sends + count_waiting tx (replica_row s x).state
    ≤ count_waiting tx s + one_if (is_token tx x.body)
rows_conserve s x tx ask = by_conserves tx s x ask x.body

-- with their saver, which sends none and leaves what waits
abbrev Conserve : ReplicaState → Signal → TxId → Step SavingState → Type 0
Conserve s x tx step =
    count_sent (is_token tx) step.effects.sends + count_waiting tx step.state.replica
    ≤ count_waiting tx s + one_if (is_token tx x.body)

pub saving_conserve : (s : SavingState) (x : Signal) (tx : TxId) → WaitersAsk s.replica.lqh
    → Conserve s.replica x tx (saver_row s x)
saving_conserve s x tx ask =
    saver_outcomes s x (Conserve s.replica x tx) (record {
      passes = λ is. rows_conserve s.replica x tx ask;
      durable = λ epoch is. rows_conserve s.replica x tx ask;
      orders = λ is. omega arith;
      writes = λ n walk to at is walking some. omega arith;
      ends = λ n walk to is walking all. omega arith;
      switches = λ finished end is walked has usable. omega arith;
      idles = λ is. omega arith;
    })

-- so it is of the rows of a member along logs
first_asks : (start : Start) (member : Member) → WaitersAsk (first_rows start member).lqh
first_asks start member = record {
  asks = λ key tx is.
      absurd (true≢false (sym is ∙ ap (λ (lock : RowLock). waits tx lock.queue)
      (ap or_unlocked (finite.get-empty key_cmp key))));
}

-- and where redo is given up
still_ask : (s : ReplicaState) (at : ℕ) → has_position s.lqh.outlet at ≡ true → WaitersAsk s.lqh
    → WaitersAsk (given_up s at).lqh
still_ask s at has ask = record { asks = ask.asks }

-- a host runs rows in which each wait has a request
abbrev pub RunsRows : Parts → Type 0
RunsRows = AreRows (λ (s : ReplicaState). WaitersAsk s.lqh)

pub rows_run : (start : Start) (nobody : NobodyStarts start) (member : Member) → IsIn member (made start)
    → (log : List HostStep)
    → RunsRows (after start (ldm_of start member) log).parts
rows_run start nobody member there log =
    rows_so (λ (s : ReplicaState). WaitersAsk s.lqh) signal_asks (λ s view ask. none_ask_installed s view) still_ask
    start nobody member there (first_asks start member) log

pub waiters_ask : (start : Start) (nobody : NobodyStarts start) (member : Member) → IsIn member (made start)
    → (log : List HostStep)
    → WaitersAsk (rows_after start member log).lqh
waiters_ask start nobody member there =
    always (λ (s : ReplicaState). WaitersAsk s.lqh) signal_asks (λ s view ask. none_ask_installed s view) still_ask
    start nobody member there (first_asks start member)
