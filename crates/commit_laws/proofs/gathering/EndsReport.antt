-- Rows end a report once for each time that they are asked for one, while none is under way.
use Rattle.std.proofs.Common.{◌≤◌, ◌⊎◌, ◌+◌, ℕ, Bool, true, false, [], inl, inr, refl, ap, arith}
use Rattle.std.specs.Prelude.{Option, None, Some, is_some}
use Rattle.sig_core.specs.declared.member.TxId.{TxId}
use Rattle.sig_core.specs.declared.rows.PendingRecord.{PendingRecord}
use Rattle.sig_core.specs.declared.signal.Body.{Body}
use Rattle.sig_core.specs.declared.signal.Body.TheVariants.{Takeover}
use Rattle.sig_core.specs.declared.signal.Signal.{Signal}
use Rattle.sig_core.specs.declared.signal.takeover.TakeoverSignal.TheVariants.{LqhTransReq}
use Rattle.sig_core.specs.Step.{Step}
use Rattle.tc_block.specs.Complete.{one_if}
use Rattle.lqh_block.specs.declared.request.Marker.{Marker}
use Rattle.lqh_views.specs.declared.report.Report.{Report}
use Rattle.lqh_views.specs.Replica.{replica_by, replica_row}
use Rattle.lqh_views.specs.Report.{is_orphaned_marker, is_orphaned_record, last_before, marker_by, record_by, reporting}
use Rattle.lqh_views.specs.Report.{telling, told_record_if}
use Rattle.lqh_views.specs.State.{ReplicaState}
use Rattle.lqh_views.specs.WholeReports.{asks, ends, whole}
use Rattle.lqh_views.proofs.ReportSteps.{GoesOn, Rests, step_kind}
use Rattle.outcome_laws.specs.Counts.{count_sent}
use Rattle.outcome_laws.proofs.coordinators.Lists.{none_counted}

-- reports that are under way
abbrev pub under_way : ReplicaState → ℕ
under_way s = one_if (is_some s.report)

module _ (s : ReplicaState) where
  -- so many at most ended, or are under way behind the step
  abbrev Few : ℕ → Step ReplicaState → Type 0
  Few n step = count_sent ends step.effects.sends + under_way step.state ≤ n

  marker_few : (r : Report) (found : Option (ℕ × Marker)) → Few 1 (marker_by s r found)
  marker_few r None = omega arith
  marker_few r (Some (at, m)) = omega arith

  record_few : (r : Report) (found : Option (ℕ × PendingRecord)) → Few 1 (record_by s r found)
  record_few r None =
      marker_few r (last_before (is_orphaned_marker s.lqh.layout.view.full) s.lqh.markers r.markers)
  record_few r (Some (at, one)) = by one.committed
    where
      by : (b : Bool)
          → Few 1 (telling s (record { to = r.to; records = at; markers = r.markers }) (told_record_if r.to one b))
      by true = omega arith
      by false = omega arith

  report_few : (r : Report) → Few 1 (reporting s r)
  unfolding reporting
  report_few r =
      record_few r (last_before (is_orphaned_record s.lqh.layout.view.full) s.lqh.rows.pending r.records)

  -- a transaction and a key that play no part
  abbrev any : TxId
  any = record { tc = 0; start = 0; seq = 0 }

  other_few : (step : Step ReplicaState) → Rests any [] s step ⊎ GoesOn any [] s step → Few (under_way s) step
  other_few step (inl rests) =
      omega (
        arith,
        none_counted ends step.effects.sends rests.2,
        ap (λ (o : Option Report). one_if (is_some o)) rests.1,
      )
  other_few step (inr goes) =
      omega (
        arith,
        ap (λ (t : Step ReplicaState). count_sent ends t.effects.sends + under_way t.state) goes.same,
        report_few goes.report,
        ap (λ (o : Option Report). one_if (is_some o)) goes.is,
      )

  by_few : (x : Signal) (body : Body) → Few (under_way s + one_if (asks body)) (replica_by s x body)
  by_few x (Takeover LqhTransReq) = omega (arith, report_few (whole s x.member.node))
  by_few x body = omega (arith, other_few (replica_by s x body) (step_kind any [] s x body refl))

-- whatever they take
pub rows_end : (s : ReplicaState) (x : Signal)
    → count_sent ends (replica_row s x).effects.sends + under_way (replica_row s x).state
    ≤ under_way s + one_if (asks x.body)
rows_end s x = by_few s x x.body
