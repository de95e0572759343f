-- Steps while a report is under way: of the report, and of all else.
use Rattle.std.proofs.Common.{◌≡◌, ◌⊎◌, inl, inr, ◌∙◌, ◌==◌, ℕ, Bool, true, false, List, [], ◌∷◌, map, refl, ap, sym}
use Rattle.std.proofs.Common.{subst}
use Rattle.std.proofs.lemmas.Bool.{true≢false}
use Rattle.std.specs.Prelude.{◌&&◌, Option, None, Some}
use Rattle.run_theory.specs.Lists.{Each, IsIn}
use Rattle.run_theory.proofs.Pasts.{each_in}
use Rattle.sig_core.specs.declared.member.TxId.{TxId}
use Rattle.sig_core.specs.declared.outs.Outgoing.{Outgoing}
use Rattle.sig_core.specs.declared.rows.PendingRecord.{PendingRecord}
use Rattle.sig_core.specs.declared.signal.Body.{Body}
use Rattle.sig_core.specs.declared.signal.Body.TheVariants.{Host, Membership, Takeover, Epoch}
use Rattle.sig_core.specs.declared.signal.Signal.{Signal}
use Rattle.sig_core.specs.declared.signal.epoch.EpochSignal.{EpochSignal}
use Rattle.sig_core.specs.declared.signal.epoch.EpochSignal.TheVariants.{GcpClosed, GcpSaveReq, GcpStateReq}
use Rattle.sig_core.specs.declared.signal.host.HostSignal.TheVariants.{Continue}
use Rattle.sig_core.specs.declared.signal.host.Work.TheVariants as work
use Rattle.sig_core.specs.declared.signal.membership.MembershipSignal.TheVariants.{FenceReq}
use Rattle.sig_core.specs.declared.signal.takeover.RecordState.TheVariants as state
use Rattle.sig_core.specs.declared.signal.takeover.TakeoverSignal.TheVariants.{LqhTransReq}
use Rattle.sig_core.specs.declared.view.View.{View}
use Rattle.sig_core.specs.Place.{rows_of}
use Rattle.sig_core.specs.Portion.{go_on_at}
use Rattle.sig_core.specs.Rows.{is_of}
use Rattle.sig_core.specs.Same.{same_key, same_tx}
use Rattle.sig_core.specs.Step.{Step}
use Rattle.sig_core.proofs.TxLemmas.{same_tx-is}
use Rattle.lqh_block.specs.declared.request.Marker.{Marker}
use Rattle.lqh_block.specs.declared.request.Request.{Request}
use Rattle.lqh_block.specs.Commit.{is_marker}
use Rattle.lqh_block.specs.Lqh.{lqh_row}
use Rattle.lqh_block.proofs.EachLqh.{RequestSends, RowsSend, lqh_sends_each}
use Rattle.row_records.proofs.KeyLemmas.{same as same_key-is}
use Rattle.lqh_views.specs.declared.report.Report.{Report}
use Rattle.lqh_views.specs.Address.{addressed}
use Rattle.lqh_views.specs.Epochs.{epoch_table}
use Rattle.lqh_views.specs.Replica.{is_stale, passed, replica_by, serve_if}
use Rattle.lqh_views.specs.Report.{go_on_by, is_orphaned, is_orphaned_marker, is_orphaned_record, last_before}
use Rattle.lqh_views.specs.Report.{marker_by, record_by, reporting, told, told_marker, told_record, told_record_if}
use Rattle.lqh_views.specs.State.{ReplicaState}
use Rattle.lqh_views.specs.WholeReports.{IsMarkerTold, IsRecordTold, asks, before_end, ends, has_marker, has_record}
use Rattle.lqh_views.specs.WholeReports.{the_end}
use Rattle.lqh_views.proofs.AddressLemmas.{same-body}
use Rattle.lqh_views.proofs.Below.{Leaves, NoneFrom, last_leaves, none_any}
use Rattle.lqh_views.proofs.ListsKept.{AreKept, both, lists_kept, same_lists}
use Rattle.sig_core.specs.declared.signal.takeover.RecordState.{RecordState}

-- steps that aren't of the report

-- the signal isn't the end of a report
abbrev pub IsNoEnd : Body → Type 0
IsNoEnd body = ends body ≡ false

abbrev pub NoEnd : List Outgoing → Type 0
NoEnd sends = Each (λ send. IsNoEnd send.body) sends

pub not_in : (to : ℕ) (sends : List Outgoing) → NoEnd sends → IsIn (the_end to) sends → ⊥
not_in to sends none there = true≢false (each_in (λ send. IsNoEnd send.body) (the_end to) sends none there)

addressed_no_end : (view : View) (sends : List Outgoing) → NoEnd sends → NoEnd (map (addressed view) sends)
addressed_no_end view [] none = tt
addressed_no_end view (send ∷ sends) none =
    (subst IsNoEnd (sym (same-body view send)) none.0, addressed_no_end view sends none.1)

request_no_end : (r : Request) → RequestSends (λ send. IsNoEnd send.body) r
request_no_end r = record {
  log_full = λ used reserved need. refl;
  table_full = λ rows. refl;
  answers = λ a. refl;
  passes = λ image next is. refl;
}

module _ (tx : TxId) (key : List ℕ) where
  -- the lists are kept, the report is where it was, and its end isn't told
  abbrev pub Rests : ReplicaState → Step ReplicaState → Type 0
  Rests s step =
      AreKept tx key s.lqh step.state.lqh × (step.state.report ≡ s.report) × NoEnd step.effects.sends

  passed_rests : (s : ReplicaState) (x : Signal) → Rests s (passed s x)
  passed_rests s x = (
    lists_kept tx key s.lqh x.body,
    refl,
    addressed_no_end s.lqh.layout.view (lqh_row s.lqh x).effects.sends
        (lqh_sends_each (λ send. IsNoEnd send.body) s.lqh x.body sends),
  )
    where
      sends : RowsSend (λ send. IsNoEnd send.body) s.lqh x.body
      sends = record {
        asked = λ r is. request_no_end r;
        waited = λ at r is. request_no_end r;
        grants_more = refl;
        expires_more = refl;
        commits_on = λ u k epoch chain at is behind. refl;
        committed = λ u k epoch chain at is first. refl;
        completes_on = λ u k chain at is behind. refl;
        completed = λ u k chain at is first. refl;
        aborted = λ u k is. refl;
        gives_up = λ u k is. refl;
        times_out = λ u k. refl;
        waits = λ u k ahead is there. refl;
        dumps = λ at rows next is. refl;
      }

  serve_rests : (s : ReplicaState) (x : Signal) (stale : Bool) → Rests s (serve_if s x stale)
  serve_rests s x true = (same_lists tx key s.lqh, refl, tt)
  serve_rests s x false = passed_rests s x

  epoch_rests : (s : ReplicaState) (from : ℕ) (signal : EpochSignal) → Rests s (epoch_table s from signal)
  epoch_rests s from (GcpClosed epoch) = (same_lists tx key s.lqh, refl, (refl, tt))
  epoch_rests s from (GcpSaveReq epoch) = (same_lists tx key s.lqh, refl, (refl, tt))
  epoch_rests s from GcpStateReq = (same_lists tx key s.lqh, refl, (refl, tt))
  epoch_rests s from _ = (same_lists tx key s.lqh, refl, tt)

  -- the report that is under way goes on
  pub record GoesOn (s : ReplicaState) (step : Step ReplicaState) : Type 0 where
    pub report : Report
    pub is : s.report ≡ Some report
    pub same : step ≡ reporting s report

  go_on_kind : (s : ReplicaState) (own : Bool) (report : Option Report) → s.report ≡ report
      → Rests s (go_on_by s own report) ⊎ GoesOn s (go_on_by s own report)
  go_on_kind s true None is = inl (same_lists tx key s.lqh, refl, tt)
  go_on_kind s true (Some r) is = inr (record { report = r; is = is; same = refl })
  go_on_kind s false None is = inl (same_lists tx key s.lqh, refl, tt)
  go_on_kind s false (Some r) is = inl (same_lists tx key s.lqh, refl, tt)

  -- a step at a signal that doesn't ask for a report
  pub step_kind : (s : ReplicaState) (x : Signal) (body : Body) → asks body ≡ false
      → Rests s (replica_by s x body) ⊎ GoesOn s (replica_by s x body)
  step_kind s x (Membership (FenceReq proposal)) other = inl (same_lists tx key s.lqh, refl, (refl, tt))
  step_kind s x (Takeover LqhTransReq) other = absurd (true≢false other)
  step_kind s x (Host (Continue work.Report at)) other =
      go_on_kind s (x.view.number == s.lqh.layout.view.number) s.report refl
  step_kind s x (Host (Continue work.Granted at)) other = inl (serve_rests s x (is_stale s x))
  step_kind s x (Host (Continue work.Expired at)) other = inl (serve_rests s x (is_stale s x))
  step_kind s x (Epoch signal) other = inl (epoch_rests s x.member.node signal)
  step_kind s x _ other = inl (passed_rests s x)

  -- a step of the report

  -- It goes on with that much left, and its end isn't told
  pub record IsLeft (Left : ReplicaState → Report → Type 0) (s : ReplicaState) (to : ℕ)
      (step : Step ReplicaState) : Type 0 where
    pub report : Report
    pub is : step.state.report ≡ Some report
    pub same : report.to ≡ to
    pub left : Left step.state report
    pub lqh : step.state.lqh ≡ s.lqh
    pub unended : NoEnd step.effects.sends

  abbrev pub RecordLeft : ReplicaState → Report → Type 0
  RecordLeft s r = NoneFrom (is_of tx key) s.lqh.rows.pending r.records

  abbrev pub MarkerLeft : ReplicaState → Report → Type 0
  MarkerLeft s r = NoneFrom (is_marker tx key) s.lqh.markers r.markers

  record_no_end : (to : ℕ) (r : PendingRecord) (b : Bool) → IsNoEnd (told_record_if to r b).body
  record_no_end to r true = refl
  record_no_end to r false = refl

  module _ (s : ReplicaState) (r : Report) (orphaned : is_orphaned s.lqh.layout.view.full tx ≡ true) where
    abbrev of_record : PendingRecord → Bool
    of_record = is_orphaned_record s.lqh.layout.view.full

    abbrev of_marker : Marker → Bool
    of_marker = is_orphaned_marker s.lqh.layout.view.full

    -- the signal behind what is told
    abbrev behind_it : List Outgoing
    behind_it = go_on_at (rows_of s.lqh.node) work.Report 0 ∷ []

    own_record : (one : PendingRecord) → is_of tx key one ≡ true → of_record one ≡ true
    own_record one is =
        let same = both (same_tx one.tx tx) (same_key one.key key) is in
        ap (is_orphaned s.lqh.layout.view.full) (same_tx-is one.tx tx same.0) ∙ orphaned

    own_marker : (one : Marker) → is_marker tx key one ≡ true → of_marker one ≡ true
    own_marker one is =
        let same = both (same_tx one.tx tx) (same_key one.key key) is in
        ap (is_orphaned s.lqh.layout.view.full) (same_tx-is one.tx tx same.0) ∙ orphaned

    -- the entry that is told is the one
    entry_told : (u : TxId) (k : List ℕ) (what : RecordState) (epoch : ℕ) → (same_tx u tx && same_key k key) ≡ true
        → told r.to tx key what epoch ≡ told r.to u k what epoch
    entry_told u k what epoch is =
        let same = both (same_tx u tx) (same_key k key) is in
        λ i. told r.to (sym (same_tx-is u tx same.0) i) (sym (same_key-is k key same.1) i) what epoch

    record_is_told : (one : PendingRecord) (rest : List Outgoing) → is_of tx key one ≡ true
        → IsRecordTold r.to tx key (before_end (told_record r.to one ∷ rest))
    record_is_told one rest is = by one.committed
      where
        by : (b : Bool) → IsRecordTold r.to tx key (before_end (told_record_if r.to one b ∷ rest))
        by true = inr (one.epoch, inl (entry_told one.tx one.key state.Committed one.epoch is))
        by false = inl (inl (entry_told one.tx one.key state.Prepared 0 is))

    marker_is_told : (one : Marker) (rest : List Outgoing) → is_marker tx key one ≡ true
        → IsMarkerTold r.to tx key (before_end (told_marker r.to one ∷ rest))
    marker_is_told one rest is = (one.epoch, inl (entry_told one.tx one.key state.Marker one.epoch is))

    -- a step that tells of the one before any end, or goes on with it left
    abbrev TellsRecord : Step ReplicaState → Type 0
    TellsRecord step = IsRecordTold r.to tx key (before_end step.effects.sends) ⊎ IsLeft RecordLeft s r.to step

    abbrev TellsMarker : Step ReplicaState → Type 0
    TellsMarker step = IsMarkerTold r.to tx key (before_end step.effects.sends) ⊎ IsLeft MarkerLeft s r.to step

    pub tells_record : has_record tx key s ≡ true → RecordLeft s r → TellsRecord (reporting s r)
    unfolding reporting
    tells_record there left =
        by (last_before of_record s.lqh.rows.pending r.records)
        (last_leaves (is_of tx key) of_record own_record s.lqh.rows.pending r.records left)
      where
        by : (found : Option (ℕ × PendingRecord)) → Leaves (is_of tx key) s.lqh.rows.pending found
            → TellsRecord (record_by s r found)
        by None leaves = absurd (true≢false (sym there ∙ none_any (is_of tx key) s.lqh.rows.pending leaves))
        by (Some found) (inl own) = inl (record_is_told found.1 behind_it own)
        by (Some found) (inr none) = inr (record {
          report = record { to = r.to; records = found.0; markers = r.markers };
          is = refl;
          same = refl;
          left = none;
          lqh = refl;
          unended = (record_no_end r.to found.1 found.1.committed, (refl, tt));
        })

    pub tells_marker : has_marker tx key s ≡ true → MarkerLeft s r → TellsMarker (reporting s r)
    unfolding reporting
    tells_marker there left = by (last_before of_record s.lqh.rows.pending r.records)
      where
        by_marker : (found : Option (ℕ × Marker)) → Leaves (is_marker tx key) s.lqh.markers found
            → TellsMarker (marker_by s r found)
        by_marker None leaves = absurd (true≢false (sym there ∙ none_any (is_marker tx key) s.lqh.markers leaves))
        by_marker (Some found) (inl own) = inl (marker_is_told found.1 behind_it own)
        by_marker (Some found) (inr none) = inr (record {
          report = record { to = r.to; records = 0; markers = found.0 };
          is = refl;
          same = refl;
          left = none;
          lqh = refl;
          unended = (refl, (refl, tt));
        })

        by : (found : Option (ℕ × PendingRecord)) → TellsMarker (record_by s r found)
        by None =
            by_marker (last_before of_marker s.lqh.markers r.markers)
            (last_leaves (is_marker tx key) of_marker own_marker s.lqh.markers r.markers left)
        by (Some found) = inr (record {
          report = record { to = r.to; records = found.0; markers = r.markers };
          is = refl;
          same = refl;
          left = left;
          lqh = refl;
          unended = (record_no_end r.to found.1 found.1.committed, (refl, tt));
        })
