-- Rows that know only of decided transactions, at a signal that tells a true thing, tell only true things: they pass a
-- commit on with its epoch, and tell a takeover of their records and markers as they are.
use Rattle.std.proofs.Common.{◌==◌, ℕ, Bool, true, false, List, [], ◌∷◌, map, sym, subst}
use Rattle.std.specs.Prelude.{IfSome, Option, None, Some}
use Rattle.run_theory.specs.Lists.{Each}
use Rattle.run_theory.proofs.EachSent.{each_get}
use Rattle.sig_core.specs.declared.member.TxId.{TxId}
use Rattle.sig_core.specs.declared.outs.Outgoing.{Outgoing}
use Rattle.sig_core.specs.declared.rows.PendingRecord.{PendingRecord}
use Rattle.sig_core.specs.declared.signal.Body.{Body}
use Rattle.sig_core.specs.declared.signal.Body.TheVariants.{Host, Membership, Takeover, Epoch}
use Rattle.sig_core.specs.declared.signal.Signal.{Signal}
use Rattle.sig_core.specs.declared.signal.epoch.EpochSignal.{EpochSignal}
use Rattle.sig_core.specs.declared.signal.epoch.EpochSignal.TheVariants.{GcpClosed, GcpSaveReq, GcpStateReq}
use Rattle.sig_core.specs.declared.signal.host.HostSignal.TheVariants.{Continue}
use Rattle.sig_core.specs.declared.signal.host.Work.TheVariants.{Granted, Expired, Report}
use Rattle.sig_core.specs.declared.signal.membership.MembershipSignal.TheVariants.{FenceReq}
use Rattle.sig_core.specs.declared.signal.takeover.TakeoverSignal.TheVariants.{LqhTransReq}
use Rattle.sig_core.specs.declared.view.View.{View}
use Rattle.sig_core.specs.Step.{Step}
use Rattle.lqh_block.specs.declared.request.Marker.{Marker}
use Rattle.lqh_block.specs.declared.request.Request.{Request}
use Rattle.lqh_block.specs.Lqh.{lqh_row, lqh_table}
use Rattle.lqh_block.specs.State.{LqhState}
use Rattle.lqh_block.proofs.EachLqh.{RequestSends, lqh_sends_each}
use Rattle.lqh_views.specs.Address.{addressed}
use Rattle.lqh_views.specs.declared.report.Report as reports
use Rattle.lqh_views.specs.Epochs.{epoch_table}
use Rattle.lqh_views.specs.Replica.{is_stale, passed, replica_by, replica_row, serve_if}
use Rattle.lqh_views.specs.Report.{go_on_by, is_orphaned_marker, is_orphaned_record, last_before, marker_by, record_by}
use Rattle.lqh_views.specs.Report.{reporting, told_record_if}
use Rattle.lqh_views.specs.State.{ReplicaState}
use Rattle.lqh_saver.specs.Saver.{saver_row}
use Rattle.lqh_saver.specs.State.{SavingState}
use Rattle.lqh_saver.proofs.StepLemmas.{saver_sends}
use Rattle.lqh_views.proofs.AddressLemmas.{same-body}
use Rattle.lqh_views.proofs.LastLemmas.{IsThere, last-there}
use Rattle.outcome_laws.specs.Known.{IsDecidedIf, RowsKnow}
use Rattle.outcome_laws.specs.Tells.{Tells}
use Rattle.outcome_laws.proofs.rows.RecordsAndMarkers.{IsKnownMarker, IsKnownRecord}

module _ (D : TxId → ℕ → Type 0) (B : TxId → Type 0) where
  abbrev AreTrue : List Outgoing → Type 0
  AreTrue sends = Each (λ (sent : Outgoing). Tells D B sent.body) sends

  abbrev SendsTrue : {S : Type 0} → Step S → Type 0
  SendsTrue step = AreTrue step.effects.sends

  -- a request that is performed
  request_tells : (r : Request) → RequestSends (λ (sent : Outgoing). Tells D B sent.body) r
  request_tells r = record {
    log_full = λ used reserved need. tt;
    table_full = λ rows. tt;
    answers = λ a. tt;
    passes = λ image next is. tt;
  }

  table_tells : (s : LqhState) (body : Body) → Tells D B body → SendsTrue (lqh_table s body)
  table_tells s body told =
      lqh_sends_each (λ (sent : Outgoing). Tells D B sent.body) s body (record {
        asked = λ r is. request_tells r;
        waited = λ at r is. request_tells r;
        grants_more = tt;
        expires_more = tt;
        commits_on = λ tx key epoch chain at is behind. subst (Tells D B) is told;
        committed = λ tx key epoch chain at is first. tt;
        completes_on = λ tx key chain at is behind. tt;
        completed = λ tx key chain at is first. tt;
        aborted = λ tx key is. tt;
        gives_up = λ tx key is. tt;
        times_out = λ tx key. tt;
        waits = λ tx key ahead is there. tt;
        dumps = λ at rows next is. tt;
      })

  -- what is addressed elsewhere says the same
  addressed_tells : (view : View) (sends : List Outgoing) → AreTrue sends → AreTrue (map (addressed view) sends)
  addressed_tells view [] all = tt
  addressed_tells view (send ∷ sends) all =
      (subst (Tells D B) (sym (same-body view send)) all.0, addressed_tells view sends all.1)

  -- of a record, as it is
  record_tells : (to : ℕ) (r : PendingRecord) (b : Bool) → IsDecidedIf D B r b
      → Tells D B (told_record_if to r b).body
  record_tells to r true decided = decided
  record_tells to r false decided = tt

  module _ (s : ReplicaState) (known : RowsKnow D B s) where
    abbrev orphaned : PendingRecord → Bool
    orphaned = is_orphaned_record s.lqh.layout.view.full

    abbrev orphaned_marker : Marker → Bool
    orphaned_marker = is_orphaned_marker s.lqh.layout.view.full

    -- a report to a takeover
    marker_tells : (r : reports.Report) (found : Option (ℕ × Marker))
        → IfSome found (IsThere orphaned_marker s.lqh.markers) → SendsTrue (marker_by s r found)
    marker_tells r None is = (tt, tt)
    marker_tells r (Some (at, m)) is =
        (each_get (IsKnownMarker D B) s.lqh.markers at m known.markers is.there, (tt, tt))

    report_by_tells : (r : reports.Report) (found : Option (ℕ × PendingRecord))
        → IfSome found (IsThere orphaned s.lqh.rows.pending) → SendsTrue (record_by s r found)
    report_by_tells r None is =
        marker_tells r (last_before orphaned_marker s.lqh.markers r.markers)
        (last-there orphaned_marker s.lqh.markers r.markers)
    report_by_tells r (Some (at, one)) is =
        let decided = each_get (IsKnownRecord D B) s.lqh.rows.pending at one known.records is.there in
        (record_tells r.to one one.committed decided, (tt, tt))

    report_tells : (r : reports.Report) → SendsTrue (reporting s r)
    unfolding reporting
    report_tells r =
        report_by_tells r (last_before orphaned s.lqh.rows.pending r.records)
        (last-there orphaned s.lqh.rows.pending r.records)

    goes_on_tells : (b : Bool) (o : Option reports.Report) → SendsTrue (go_on_by s b o)
    goes_on_tells true (Some r) = report_tells r
    goes_on_tells true None = tt
    goes_on_tells false o = tt

    epochs_tell : (from : ℕ) (signal : EpochSignal) → SendsTrue (epoch_table s from signal)
    epochs_tell from (GcpClosed epoch) = (tt, tt)
    epochs_tell from (GcpSaveReq epoch) = (tt, tt)
    epochs_tell from GcpStateReq = (tt, tt)
    epochs_tell from _ = tt

    module _ (x : Signal) (told : Tells D B x.body) where
      passed_tells : SendsTrue (passed s x)
      passed_tells =
          addressed_tells s.lqh.layout.view (lqh_row s.lqh x).effects.sends (table_tells s.lqh x.body told)

      serve_tells : (b : Bool) → SendsTrue (serve_if s x b)
      serve_tells true = tt
      serve_tells false = passed_tells

      by_tells : (body : Body) → SendsTrue (replica_by s x body)
      by_tells (Membership (FenceReq proposal)) = (tt, tt)
      by_tells (Takeover LqhTransReq) = report_tells _
      by_tells (Host (Continue Report at)) = goes_on_tells (x.view.number == s.lqh.layout.view.number) s.report
      by_tells (Host (Continue Granted at)) = serve_tells (is_stale s x)
      by_tells (Host (Continue Expired at)) = serve_tells (is_stale s x)
      by_tells (Epoch signal) = epochs_tell x.member.node signal
      by_tells _ = passed_tells

  -- whatever they take that is true
  pub rows_tell : (s : ReplicaState) (x : Signal) → RowsKnow D B s → Tells D B x.body
      → Each (λ (sent : Outgoing). Tells D B sent.body) (replica_row s x).effects.sends
  rows_tell s x known told = by_tells s known x told x.body

  -- and their saver tells nothing of transactions
  pub saving_tell : (s : SavingState) (x : Signal) → RowsKnow D B s.replica → Tells D B x.body
      → Each (λ (sent : Outgoing). Tells D B sent.body) (saver_row s x).effects.sends
  saving_tell s x known told =
      saver_sends s x (Each (λ (sent : Outgoing). Tells D B sent.body)) (rows_tell s.replica x known told) tt (record {
        goes_on = λ own. (tt, tt);
        reports = λ walk to own walking. (tt, tt);
        confirms = λ finished end ordered walked usable. (tt, tt);
      })
