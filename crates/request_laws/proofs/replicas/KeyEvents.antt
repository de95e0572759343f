-- One key of a node's rows under views: a signal does to it what its event says, and an installation leaves some of its
-- holders.
use Rattle.std.proofs.Common.{◌≡◌, ◌==◌, ℕ, Bool, true, false, List, refl, sym, ap, subst}
use Rattle.std.specs.Prelude.{Option, None, Some}
use Rattle.sig_core.specs.declared.rows.PendingRecord.{PendingRecord}
use Rattle.sig_core.specs.declared.signal.Body.{Body}
use Rattle.sig_core.specs.declared.signal.Body.TheVariants.{Epoch, Host, Membership, Takeover}
use Rattle.sig_core.specs.declared.signal.Signal.{Signal}
use Rattle.sig_core.specs.declared.signal.epoch.EpochSignal.{EpochSignal}
use Rattle.sig_core.specs.declared.signal.epoch.EpochSignal.TheVariants.{GcpClosed, GcpSaveReq, GcpStateReq}
use Rattle.sig_core.specs.declared.signal.host.HostSignal.TheVariants.{Continue}
use Rattle.sig_core.specs.declared.signal.host.Work.TheVariants as work
use Rattle.sig_core.specs.declared.signal.membership.MembershipSignal.TheVariants.{FenceReq}
use Rattle.sig_core.specs.declared.signal.takeover.TakeoverSignal.TheVariants.{LqhTransReq}
use Rattle.row_locks.proofs.KeepingLemmas.{keep_orderly, lock-left}
use Rattle.lqh_block.specs.declared.request.Marker.{Marker}
use Rattle.lqh_block.specs.State.{LqhState}
use Rattle.lqh_block.specs.Views.{goes_on_holding}
use Rattle.lqh_views.specs.declared.report.Report.{Report}
use Rattle.lqh_views.specs.Epochs.{epoch_table}
use Rattle.lqh_views.specs.Replica.{is_stale, replica_by, serve_if}
use Rattle.lqh_views.specs.Report.{go_on_by, is_orphaned_marker, is_orphaned_record, last_before, marker_by, record_by}
use Rattle.lqh_views.specs.Report.{reporting}
use Rattle.lqh_views.specs.State.{ReplicaState}
use Rattle.key_laws.specs.Replica.{at_key, event_at, key_after}
use Rattle.key_laws.proofs.KeyAfter.{replica_is}
use Rattle.host_laws.specs.ReplicaLaws.{IsWell}
use Rattle.host_laws.proofs.rows.Replicas.{signals_are_events as rows_are_events, signals_keep_well as rows_keep_well}
use Rattle.request_laws.specs.Replicas.{InstallationsAreEvents, InstallationsKeepWell, SignalsAreEvents}
use Rattle.request_laws.specs.Replicas.{SignalsKeepWell, event_by, event_if}

-- a report leaves the rows as they are
pub reporting_same : (s : ReplicaState) (r : Report) → (reporting s r).state.lqh ≡ s.lqh
unfolding reporting
reporting_same s r = by (last_before (is_orphaned_record s.lqh.layout.view.full) s.lqh.rows.pending r.records)
  where
    by_marker : (o : Option (ℕ × Marker)) → (marker_by s r o).state.lqh ≡ s.lqh
    by_marker None = refl
    by_marker (Some (at, m)) = refl

    by : (o : Option (ℕ × PendingRecord)) → (record_by s r o).state.lqh ≡ s.lqh
    by None = by_marker (last_before (is_orphaned_marker s.lqh.layout.view.full) s.lqh.markers r.markers)
    by (Some (at, one)) = refl

pub go_on_same : (s : ReplicaState) (own : Bool) (o : Option Report) → (go_on_by s own o).state.lqh ≡ s.lqh
go_on_same s true None = refl
go_on_same s true (Some r) = reporting_same s r
go_on_same s false None = refl
go_on_same s false (Some r) = refl

-- and so do orders about epochs
pub epoch_same : (s : ReplicaState) (from : ℕ) (signal : EpochSignal) → (epoch_table s from signal).state.lqh ≡ s.lqh
epoch_same s from (GcpClosed epoch) = refl
epoch_same s from (GcpSaveReq epoch) = refl
epoch_same s from GcpStateReq = refl
epoch_same s from _ = refl

module _ (s : ReplicaState) (x : Signal) (well : IsWell s.lqh) where
  module _ (key : List ℕ) where
    served : (stale : Bool) → at_key key (serve_if s x stale).state.lqh
        ≡ key_after (event_if (event_at key s.lqh x.body) stale) (at_key key s.lqh)
    served true = refl
    served false = rows_are_events s.lqh x.body key well

    does : (body : Body)
        → at_key key (replica_by s x body).state.lqh ≡ key_after (event_by key s x body) (at_key key s.lqh)
    does (Membership (FenceReq proposal)) = refl
    does (Takeover LqhTransReq) = ap (at_key key) (reporting_same s _)
    does (Host (Continue work.Report at)) =
        ap (at_key key) (go_on_same s (x.view.number == s.lqh.layout.view.number) s.report)
    does (Host (Continue work.Granted at)) = served (is_stale s x)
    does (Host (Continue work.Expired at)) = served (is_stale s x)
    does (Epoch signal) = ap (at_key key) (epoch_same s x.member.node signal)
    does _ = rows_are_events s.lqh x.body key well

  same_well : (now : LqhState) → now ≡ s.lqh → IsWell now
  same_well now same = subst IsWell (sym same) well

  served_well : (stale : Bool) → IsWell (serve_if s x stale).state.lqh
  served_well true = well
  served_well false = rows_keep_well s.lqh x.body well

  stays_well : (body : Body) → IsWell (replica_by s x body).state.lqh
  stays_well (Membership (FenceReq proposal)) = well
  stays_well (Takeover LqhTransReq) = same_well _ (reporting_same s _)
  stays_well (Host (Continue work.Report at)) =
      same_well _ (go_on_same s (x.view.number == s.lqh.layout.view.number) s.report)
  stays_well (Host (Continue work.Granted at)) = served_well (is_stale s x)
  stays_well (Host (Continue work.Expired at)) = served_well (is_stale s x)
  stays_well (Epoch signal) = same_well _ (epoch_same s x.member.node signal)
  stays_well _ = rows_keep_well s.lqh x.body well

pub signals_are_events : SignalsAreEvents
signals_are_events s x key well = does s x well key x.body

pub signals_keep_well : SignalsKeepWell
signals_keep_well s x well = stays_well s x well x.body

pub installations_are_events : InstallationsAreEvents
installations_are_events s view key well =
    replica_is _ _ refl (lock-left (goes_on_holding s.lqh.rows view.full) s.lqh.locks key) refl

pub installations_keep_well : InstallationsKeepWell
installations_keep_well s view well = record {
  placed = well.placed;
  orderly = keep_orderly s.lqh.locks (goes_on_holding s.lqh.rows view.full) well.orderly;
}
