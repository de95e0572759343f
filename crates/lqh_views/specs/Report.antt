-- The report to a takeover: every record and every marker of a transaction whose coordinator isn't a full member. Both
-- lists are gone through from their last entry to their first, the records before the markers, one entry an event.
use Rattle.std.specs.Prelude.{ℕ, zero, suc, ◌==◌, Bool, true, false, not, List, [], ◌∷◌, length, slice_get, Option}
use Rattle.std.specs.Prelude.{None, Some}
use Rattle.sig_core.specs.declared.member.Member.{Member}
use Rattle.sig_core.specs.declared.member.TxId.{TxId}
use Rattle.sig_core.specs.declared.outs.Outgoing.{Outgoing}
use Rattle.sig_core.specs.declared.rows.PendingRecord.{PendingRecord}
use Rattle.sig_core.specs.declared.signal.Body.TheVariants.{Takeover}
use Rattle.sig_core.specs.declared.signal.host.Work.TheVariants as work
use Rattle.sig_core.specs.declared.signal.takeover.RecordState.{RecordState}
use Rattle.sig_core.specs.declared.signal.takeover.RecordState.TheVariants as state
use Rattle.sig_core.specs.declared.signal.takeover.TakeoverSignal.TheVariants.{LqhTransConf, LqhTransEnd}
use Rattle.sig_core.specs.Place.{rows_of, takeover}
use Rattle.sig_core.specs.Portion.{go_on_at}
use Rattle.sig_core.specs.Step.{Step, sends_only, stay}
use Rattle.lqh_block.specs.declared.request.Marker.{Marker}
use Rattle.lqh_block.specs.Views.{is_coordinated}
use Rattle.lqh_views.specs.declared.report.Report.{Report}
use Rattle.lqh_views.specs.State.{ReplicaState, with_report}

-- its coordinator is none of these full members
abbrev pub is_orphaned : List Member → TxId → Bool
is_orphaned full tx = not (is_coordinated full tx)

abbrev pub is_orphaned_record : List Member → PendingRecord → Bool
is_orphaned_record full r = is_orphaned full r.tx

abbrev pub is_orphaned_marker : List Member → Marker → Bool
is_orphaned_marker full m = is_orphaned full m.tx

-- the entry at a place, where it passes a test, and else what the rest gives
abbrev pub found_if : {X : Type 0} → ℕ → X → Option (ℕ × X) → Bool → Option (ℕ × X)
found_if at x rest true = Some (at, x)
found_if at x rest false = rest

abbrev pub found_at : {X : Type 0} → (X → Bool) → ℕ → Option (ℕ × X) → Option X → Option (ℕ × X)
found_at p at rest None = rest
found_at p at rest (Some x) = found_if at x rest (p x)

-- the last entry before a place that passes a test, with its place
abbrev pub last_before : {X : Type 0} → (X → Bool) → List X → ℕ → Option (ℕ × X)
last_before p xs zero = None
last_before p xs (suc n) = found_at p n (last_before p xs n) (slice_get xs n)

-- a takeover is told something
abbrev pub told : ℕ → TxId → List ℕ → RecordState → ℕ → Outgoing
told to tx key state epoch = record { to = takeover to; body = Takeover (LqhTransConf tx key state epoch) }

-- of a record: that it is prepared, or committed in its epoch
abbrev pub told_record_if : ℕ → PendingRecord → Bool → Outgoing
told_record_if to r true = told to r.tx r.key state.Committed r.epoch
told_record_if to r false = told to r.tx r.key state.Prepared 0

abbrev pub told_record : ℕ → PendingRecord → Outgoing
told_record to r = told_record_if to r r.committed

-- of a marker: the epoch of the commit
abbrev pub told_marker : ℕ → Marker → Outgoing
told_marker to m = told to m.tx m.key state.Marker m.epoch

-- something is told, this is left to report, and the block goes on with it
abbrev pub telling : ReplicaState → Report → Outgoing → Step ReplicaState
telling s left send =
    record {
      state = with_report s (Some left);
      effects = sends_only (send ∷ go_on_at (rows_of s.lqh.node) work.Report 0 ∷ []);
    }

-- all is told
abbrev pub ending : ReplicaState → Report → Step ReplicaState
ending s r =
    record {
      state = with_report s None;
      effects = sends_only (record { to = takeover r.to; body = Takeover LqhTransEnd } ∷ []);
    }

abbrev pub marker_by : ReplicaState → Report → Option (ℕ × Marker) → Step ReplicaState
marker_by s r None = ending s r
marker_by s r (Some (at, m)) = telling s (record { to = r.to; records = 0; markers = at }) (told_marker r.to m)

-- the last marker that is left is told, and where there is none all is told
abbrev pub next_marker : ReplicaState → Report → Step ReplicaState
next_marker s r = marker_by s r (last_before (is_orphaned_marker s.lqh.layout.view.full) s.lqh.markers r.markers)

abbrev pub record_by : ReplicaState → Report → Option (ℕ × PendingRecord) → Step ReplicaState
record_by s r None = next_marker s r
record_by s r (Some (at, one)) =
    telling s (record { to = r.to; records = at; markers = r.markers }) (told_record r.to one)

-- the last record that is left is told, and where there is none the last marker
unfoldable pub reporting : ReplicaState → Report → Step ReplicaState
reporting s r = record_by s r (last_before (is_orphaned_record s.lqh.layout.view.full) s.lqh.rows.pending r.records)

-- a takeover at this node asks: a report of all that there is begins
abbrev pub report_row : ReplicaState → ℕ → Step ReplicaState
report_row s from =
    reporting s (record { to = from; records = length s.lqh.rows.pending; markers = length s.lqh.markers })

abbrev pub go_on_by : ReplicaState → Bool → Option Report → Step ReplicaState
go_on_by s true (Some r) = reporting s r
go_on_by s _ _ = stay s

-- the report goes on, unless another view was installed since
abbrev pub go_on_row : ReplicaState → ℕ → Step ReplicaState
go_on_row s number = go_on_by s (number == s.lqh.layout.view.number) s.report
