-- When all members have ended, a takeover was told of all that they have.
use Rattle.std.specs.Prelude.{◌≡◌, ℕ, true, false, nat_lt, List, ◌∷◌, None, Some, is_some}
use Rattle.run_theory.specs.Lists.{Each, IsIn}
use Rattle.sig_core.specs.declared.member.Member.{Member}
use Rattle.sig_core.specs.declared.member.TxId.{TxId}
use Rattle.sig_core.specs.declared.place.BlockId.TheVariants as block
use Rattle.sig_core.specs.declared.rows.PendingRecord.{PendingRecord}
use Rattle.sig_core.specs.declared.signal.Body.TheVariants.{Takeover}
use Rattle.sig_core.specs.declared.signal.takeover.TakeoverSignal.TheVariants.{LqhTransEnd}
use Rattle.takeover_block.specs.declared.gathered.Gathered.{Gathered}
use Rattle.takeover_block.specs.declared.stage.Stage.TheVariants.{Gathering}
use Rattle.takeover_block.specs.Keys.{has_key}
use Rattle.node_views.specs.WellFormed.{is_well_formed}
use Rattle.world_core.specs.Start.{Start, made}
use Rattle.world_core.specs.Steps.{HostStep}
use Rattle.view_laws.specs.Runs.{view_after}
use Rattle.moment_laws.specs.Moments.{IsMoment, current, logs_of}
use Rattle.moment_laws.specs.Places.{tc_of}
use Rattle.request_laws.specs.Orphans.{IsOrphan}
use Rattle.commit_laws.specs.Takeovers.{takeover_at}
use Rattle.commit_laws.specs.Traces.{IsReplicaOf, has_marker_at, record_at}

-- the takeover of the member takes the word of the last member that it asked in the current view
pub record EndsGathering (start : Start) (e : HostStep) (es : List HostStep) (member : Member) : Type 0 where
  pub made_is : IsIn member (made start)
  pub host_is : e.host ≡ tc_of start member
  pub block_is : e.step.taken.to.block ≡ block.Takeover
  pub body_is : e.step.taken.body ≡ Takeover LqhTransEnd
  pub sound : is_well_formed start.shape e.step.taken ≡ true
  pub header : e.step.taken.view.number ≡ (current start (logs_of start (e ∷ es))).number
  pub same : current start (logs_of start (e ∷ es)) ≡ current start (logs_of start es)
  pub stands : view_after start (tc_of start member) (logs_of start es (tc_of start member))
      ≡ current start (logs_of start es)
  pub awaited : ℕ
  pub gathers : (takeover_at start (logs_of start es) member).stage ≡ Gathering awaited
  pub last : nat_lt 1 awaited ≡ false

module _ (start : Start) (logs : ℕ → List HostStep) where
  -- a replica has a record of the transaction that is only prepared
  pub record IsPreparedSomewhere (tx : TxId) : Type 0 where
    pub key : List ℕ
    pub member : Member
    pub replica : IsReplicaOf start logs key member
    pub own : PendingRecord
    pub there : record_at start logs member key tx ≡ Some own
    pub prepared : own.committed ≡ false

  -- it was told of each key of which a full member has a record or a marker, and that each is committed of which one
  -- has a marker; who wasn't told to be committed is prepared at a replica
  pub record AllIsTold (member : Member) : Type 0 where
    pub records : (one : Member) → IsIn one (current start logs).full → (tx : TxId) → IsOrphan (current start logs) tx
        → (key : List ℕ) → is_some (record_at start logs one key tx) ≡ true
        → Each (λ (g : Gathered). g.tx ≡ tx → has_key g.keys key ≡ true) (takeover_at start logs member).gathered
    pub markers : (one : Member) → IsIn one (current start logs).full → (tx : TxId) → IsOrphan (current start logs) tx
        → (key : List ℕ) → has_marker_at start logs one key tx ≡ true
        → Each (λ (g : Gathered). g.tx ≡ tx → (has_key g.keys key ≡ true) × (g.epoch ≡ None → ⊥))
        (takeover_at start logs member).gathered
    pub prepared : Each (λ (g : Gathered). g.epoch ≡ None → IsPreparedSomewhere g.tx)
        (takeover_at start logs member).gathered

abbrev pub GatheringsAreWhole : Type 0
GatheringsAreWhole =
    (start : Start) (all : ℕ → List HostStep) (e : HostStep) (es : List HostStep) → IsMoment start all (e ∷ es)
    → (member : Member) → EndsGathering start e es member → AllIsTold start (logs_of start es) member
