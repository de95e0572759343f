-- Rows that know only of decided transactions, at a signal that tells a true thing, know only of such behind it.
use Rattle.std.proofs.Common.{◌==◌, ℕ, Bool, true, false}
use Rattle.std.specs.Prelude.{Option, None, Some}
use Rattle.sig_core.specs.declared.member.TxId.{TxId}
use Rattle.sig_core.specs.declared.rows.PendingRecord.{PendingRecord}
use Rattle.sig_core.specs.declared.signal.Body.{Body}
use Rattle.sig_core.specs.declared.signal.Body.TheVariants.{Host, Membership, Takeover, Epoch}
use Rattle.sig_core.specs.declared.signal.Signal.{Signal}
use Rattle.sig_core.specs.declared.signal.epoch.EpochSignal.{EpochSignal}
use Rattle.sig_core.specs.declared.signal.epoch.EpochSignal.TheVariants.{GcpClosed, GcpSaveReq, GcpStateReq}
use Rattle.sig_core.specs.declared.signal.host.HostSignal.TheVariants.{Continue}
use Rattle.sig_core.specs.declared.signal.host.Work.TheVariants.{Granted, Expired, Report}
use Rattle.sig_core.specs.declared.signal.membership.MembershipSignal.TheVariants.{FenceReq}
use Rattle.sig_core.specs.declared.signal.takeover.TakeoverSignal.TheVariants.{LqhTransReq}
use Rattle.sig_core.specs.declared.view.View.{View}
use Rattle.lqh_block.specs.declared.request.Marker.{Marker}
use Rattle.lqh_views.specs.declared.report.Report as reports
use Rattle.lqh_views.specs.Epochs.{epoch_table}
use Rattle.lqh_views.specs.Replica.{installed, is_stale, passed, replica_by, replica_row, serve_if}
use Rattle.lqh_views.specs.Report.{go_on_by, is_orphaned_marker, is_orphaned_record, last_before, marker_by, record_by}
use Rattle.lqh_views.specs.Report.{reporting}
use Rattle.lqh_views.specs.State.{ReplicaState}
use Rattle.lqh_saver.specs.Saver.{saver_row}
use Rattle.lqh_saver.specs.State.{SavingState}
use Rattle.lqh_saver.proofs.StepLemmas.{saver_rows}
use Rattle.outcome_laws.specs.Known.{RowsKnow}
use Rattle.outcome_laws.specs.Tells.{Tells}
use Rattle.outcome_laws.proofs.rows.RecordsAndMarkers.{ListsKnow, lists_know}

module _ (D : TxId → ℕ → Type 0) (B : TxId → Type 0) where
  -- they know it of two lists alone
  known_lists : (s : ReplicaState) → ListsKnow D B s.lqh → RowsKnow D B s
  known_lists s lists = record { records = lists.0; markers = lists.1 }

  -- a report to a takeover leaves the lists as they are
  marker_knows : (s : ReplicaState) (r : reports.Report) (o : Option (ℕ × Marker)) → ListsKnow D B s.lqh
      → ListsKnow D B (marker_by s r o).state.lqh
  marker_knows s r None known = known
  marker_knows s r (Some (at, m)) known = known

  report_by_knows : (s : ReplicaState) (r : reports.Report) (o : Option (ℕ × PendingRecord)) → ListsKnow D B s.lqh
      → ListsKnow D B (record_by s r o).state.lqh
  report_by_knows s r None known =
      marker_knows s r (last_before (is_orphaned_marker s.lqh.layout.view.full) s.lqh.markers r.markers) known
  report_by_knows s r (Some (at, one)) known = known

  report_knows : (s : ReplicaState) (r : reports.Report) → ListsKnow D B s.lqh
      → ListsKnow D B (reporting s r).state.lqh
  unfolding reporting
  report_knows s r known =
      report_by_knows s r (last_before (is_orphaned_record s.lqh.layout.view.full) s.lqh.rows.pending r.records) known

  goes_on_knows : (s : ReplicaState) (b : Bool) (o : Option reports.Report) → ListsKnow D B s.lqh
      → ListsKnow D B (go_on_by s b o).state.lqh
  goes_on_knows s true (Some r) known = report_knows s r known
  goes_on_knows s true None known = known
  goes_on_knows s false o known = known

  epochs_know : (s : ReplicaState) (from : ℕ) (signal : EpochSignal) → ListsKnow D B s.lqh
      → ListsKnow D B (epoch_table s from signal).state.lqh
  epochs_know s from (GcpClosed epoch) known = known
  epochs_know s from (GcpSaveReq epoch) known = known
  epochs_know s from GcpStateReq known = known
  epochs_know s from _ known = known

  module _ (s : ReplicaState) (x : Signal) (known : ListsKnow D B s.lqh) (told : Tells D B x.body) where
    passed_knows : ListsKnow D B (passed s x).state.lqh
    passed_knows = lists_know D B s.lqh x.body known told

    serve_knows : (b : Bool) → ListsKnow D B (serve_if s x b).state.lqh
    serve_knows true = known
    serve_knows false = passed_knows

    by_knows : (body : Body) → ListsKnow D B (replica_by s x body).state.lqh
    by_knows (Membership (FenceReq proposal)) = known
    by_knows (Takeover LqhTransReq) = report_knows s _ known
    by_knows (Host (Continue Report at)) =
        goes_on_knows s (x.view.number == s.lqh.layout.view.number) s.report known
    by_knows (Host (Continue Granted at)) = serve_knows (is_stale s x)
    by_knows (Host (Continue Expired at)) = serve_knows (is_stale s x)
    by_knows (Epoch signal) = epochs_know s x.member.node signal known
    by_knows _ = passed_knows

  -- whatever they take that is true
  pub rows_know : (s : ReplicaState) (x : Signal) → RowsKnow D B s → Tells D B x.body
      → RowsKnow D B (replica_row s x).state
  rows_know s x known told =
      known_lists (replica_row s x).state (by_knows s x (known.records, known.markers) told x.body)

  -- with their saver, which gives up redo alone
  pub saving_know : (s : SavingState) (x : Signal) → RowsKnow D B s.replica → Tells D B x.body
      → RowsKnow D B (saver_row s x).state.replica
  saving_know s x known told =
      saver_rows s x (RowsKnow D B) known (rows_know s.replica x known told)
      (λ at has. record { records = known.records; markers = known.markers })

  -- and whatever view is installed
  pub rows_know_installed : (s : ReplicaState) (view : View) → RowsKnow D B s → RowsKnow D B (installed s view)
  rows_know_installed s view known = record { records = known.records; markers = known.markers }
