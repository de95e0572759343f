-- Who waits in the queue of a key under views has a request for it among those that wait.
use Rattle.std.proofs.Common.{◌≡◌, ◌⊎◌, ◌==◌, ℕ, Bool, true, false, inl, inr, refl, sym, ap, ◌∙◌, subst}
use Rattle.std.proofs.lemmas.Bool.{true≢false}
use Rattle.std.specs.Prelude.{Option, None, Some}
use Rattle.sig_core.specs.declared.rows.PendingRecord.{PendingRecord}
use Rattle.sig_core.specs.declared.signal.Body.{Body}
use Rattle.sig_core.specs.declared.signal.Body.TheVariants.{Epoch, Host, Membership, Takeover}
use Rattle.sig_core.specs.declared.signal.Signal.{Signal}
use Rattle.sig_core.specs.declared.signal.host.HostSignal.TheVariants.{Continue}
use Rattle.sig_core.specs.declared.signal.host.Work.TheVariants.{Granted, Expired, Report}
use Rattle.sig_core.specs.declared.signal.membership.MembershipSignal.TheVariants.{FenceReq}
use Rattle.sig_core.specs.declared.signal.takeover.TakeoverSignal.TheVariants.{LqhTransReq}
use Rattle.sig_core.specs.declared.view.View.{View}
use Rattle.row_locks.specs.Queues.{waits}
use Rattle.row_locks.specs.Rows.{RowLock}
use Rattle.row_locks.proofs.KeepingLemmas.{lock-left}
use Rattle.lqh_block.specs.declared.request.Marker.{Marker}
use Rattle.lqh_block.specs.Lqh.{lqh_table}
use Rattle.lqh_block.specs.State.{LqhState}
use Rattle.lqh_block.specs.Views.{goes_on_holding}
use Rattle.lqh_views.specs.declared.report.Report as reports
use Rattle.lqh_views.specs.Replica.{installed, is_stale, replica_by, replica_row, serve_if}
use Rattle.lqh_views.specs.Report.{go_on_by, is_orphaned_marker, is_orphaned_record, last_before, marker_by, record_by}
use Rattle.lqh_views.specs.Report.{reporting}
use Rattle.lqh_views.specs.State.{ReplicaState}
use Rattle.run_laws.proofs.tokens.Waiting.{WaitersAsk, lqh_asks}
use Rattle.request_laws.proofs.replicas.KeyEvents.{epoch_same}

module _ (s : ReplicaState) where
  marker_same : (r : reports.Report) (found : Option (ℕ × Marker)) → (marker_by s r found).state.lqh ≡ s.lqh
  marker_same r None = refl
  marker_same r (Some (at, m)) = refl

  record_same : (r : reports.Report) (found : Option (ℕ × PendingRecord)) → (record_by s r found).state.lqh ≡ s.lqh
  record_same r None =
      marker_same r (last_before (is_orphaned_marker s.lqh.layout.view.full) s.lqh.markers r.markers)
  record_same r (Some (at, one)) = refl

  report_same : (r : reports.Report) → (reporting s r).state.lqh ≡ s.lqh
  unfolding reporting
  report_same r = record_same r (last_before (is_orphaned_record s.lqh.layout.view.full) s.lqh.rows.pending r.records)

  goes_on_same : (b : Bool) (o : Option reports.Report) → (go_on_by s b o).state.lqh ≡ s.lqh
  goes_on_same true (Some r) = report_same r
  goes_on_same true None = refl
  goes_on_same false o = refl

  module _ (x : Signal) where
    -- the rows are left alone, or do what they do within a view
    abbrev IsWithin : LqhState → Type 0
    IsWithin after = (after ≡ s.lqh) ⊎ (after ≡ (lqh_table s.lqh x.body).state)

    serve_within : (b : Bool) → IsWithin (serve_if s x b).state.lqh
    serve_within true = inl refl
    serve_within false = inr refl

    by_within : (body : Body) → IsWithin (replica_by s x body).state.lqh
    by_within (Membership (FenceReq proposal)) = inl refl
    by_within (Takeover LqhTransReq) = inl (report_same _)
    by_within (Host (Continue Report at)) = inl (goes_on_same (x.view.number == s.lqh.layout.view.number) s.report)
    by_within (Host (Continue Granted at)) = serve_within (is_stale s x)
    by_within (Host (Continue Expired at)) = serve_within (is_stale s x)
    by_within (Epoch signal) = inl (epoch_same s x.member.node signal)
    by_within _ = inr refl

    pub rows_within : IsWithin (replica_row s x).state.lqh
    rows_within = by_within x.body

-- so it stays at each signal
pub waiters_ask : (s : ReplicaState) (x : Signal) → WaitersAsk s.lqh → WaitersAsk (replica_row s x).state.lqh
waiters_ask s x ask = by (rows_within s x)
  where
    by : IsWithin s x (replica_row s x).state.lqh → WaitersAsk (replica_row s x).state.lqh
    by (inl same) = subst WaitersAsk (sym same) ask
    by (inr same) = subst WaitersAsk (sym same) (lqh_asks s.lqh x.body ask)

-- and behind a view that is installed nobody waits
pub none_ask_installed : (s : ReplicaState) (view : View) → WaitersAsk (installed s view).lqh
none_ask_installed s view = record {
  asks = λ key tx is.
      absurd (true≢false (sym is ∙ ap (λ (lock : RowLock). waits tx lock.queue)
      (lock-left (goes_on_holding s.lqh.rows view.full) s.lqh.locks key)));
}
