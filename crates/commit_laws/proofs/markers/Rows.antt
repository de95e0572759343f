-- Rows of a member mark each commit, and leave a marker until its commit is acknowledged, whatever they take.
use Rattle.std.proofs.Common.{◌≡◌, ◌==◌, ℕ, Bool, true, false}
use Rattle.std.specs.Prelude.{Option, None, Some}
use Rattle.sig_core.specs.declared.member.TxId.{TxId}
use Rattle.sig_core.specs.declared.rows.PendingRecord.{PendingRecord}
use Rattle.sig_core.specs.declared.signal.Body.{Body}
use Rattle.sig_core.specs.declared.signal.Body.TheVariants.{Client, Epoch, Host, Membership, Takeover}
use Rattle.sig_core.specs.declared.signal.Signal.{Signal}
use Rattle.sig_core.specs.declared.signal.client.ClientSignal.TheVariants.{TcCommitAck}
use Rattle.sig_core.specs.declared.signal.epoch.EpochSignal.{EpochSignal}
use Rattle.sig_core.specs.declared.signal.epoch.EpochSignal.TheVariants.{GcpClosed, GcpSaveReq, GcpStateReq}
use Rattle.sig_core.specs.declared.signal.host.HostSignal.TheVariants.{Continue}
use Rattle.sig_core.specs.declared.signal.host.Work.TheVariants.{Expired, Granted, Report}
use Rattle.sig_core.specs.declared.signal.membership.MembershipSignal.TheVariants.{FenceReq}
use Rattle.sig_core.specs.declared.signal.takeover.TakeoverSignal.TheVariants.{LqhTransReq}
use Rattle.lqh_block.specs.declared.request.Marker.{Marker}
use Rattle.lqh_views.specs.declared.report.Report as reports
use Rattle.lqh_views.specs.Epochs.{epoch_table}
use Rattle.lqh_views.specs.Replica.{is_stale, passed, replica_by, replica_row, serve_if}
use Rattle.lqh_views.specs.Report.{go_on_by, is_orphaned_marker, is_orphaned_record, last_before, marker_by, record_by}
use Rattle.lqh_views.specs.Report.{reporting}
use Rattle.lqh_views.specs.State.{ReplicaState}
use Rattle.commit_laws.proofs.markers.Lists.{AreKept, Remember, all_stay, lists_kept}

module _ (K : TxId → Bool) (s : ReplicaState) (all : Remember K s.lqh) where
  abbrev Kept : ReplicaState → Type 0
  Kept now = AreKept K s.lqh now.lqh

  rests : Kept s
  rests = (all_stay K s.lqh.markers, all)

  -- a report to a takeover leaves the lists as they are
  marker_kept : (r : reports.Report) (o : Option (ℕ × Marker)) → Kept (marker_by s r o).state
  marker_kept r None = rests
  marker_kept r (Some (at, m)) = rests

  record_kept : (r : reports.Report) (o : Option (ℕ × PendingRecord)) → Kept (record_by s r o).state
  record_kept r None =
      marker_kept r (last_before (is_orphaned_marker s.lqh.layout.view.full) s.lqh.markers r.markers)
  record_kept r (Some (at, one)) = rests

  report_kept : (r : reports.Report) → Kept (reporting s r).state
  unfolding reporting
  report_kept r =
      record_kept r (last_before (is_orphaned_record s.lqh.layout.view.full) s.lqh.rows.pending r.records)

  goes_on_kept : (b : Bool) (o : Option reports.Report) → Kept (go_on_by s b o).state
  goes_on_kept true (Some r) = report_kept r
  goes_on_kept true None = rests
  goes_on_kept false o = rests

  epochs_kept : (from : ℕ) (signal : EpochSignal) → Kept (epoch_table s from signal).state
  epochs_kept from (GcpClosed epoch) = rests
  epochs_kept from (GcpSaveReq epoch) = rests
  epochs_kept from GcpStateReq = rests
  epochs_kept from _ = rests

  module _ (x : Signal) (acks : (tx : TxId) → x.body ≡ Client (TcCommitAck tx) → K tx ≡ true) where
    passed_kept : Kept (passed s x).state
    passed_kept = lists_kept K s.lqh all x.body acks

    serve_kept : (b : Bool) → Kept (serve_if s x b).state
    serve_kept true = rests
    serve_kept false = passed_kept

    by_kept : (body : Body) → Kept (replica_by s x body).state
    by_kept (Membership (FenceReq proposal)) = rests
    by_kept (Takeover LqhTransReq) = report_kept _
    by_kept (Host (Continue Report at)) = goes_on_kept (x.view.number == s.lqh.layout.view.number) s.report
    by_kept (Host (Continue Granted at)) = serve_kept (is_stale s x)
    by_kept (Host (Continue Expired at)) = serve_kept (is_stale s x)
    by_kept (Epoch signal) = epochs_kept x.member.node signal
    by_kept _ = passed_kept

    pub rows_kept : Kept (replica_row s x).state
    rows_kept = by_kept x.body
