-- What blocks know of transactions: that one has begun, and in which epoch one was decided.
use Rattle.std.specs.Prelude.{ℕ, Bool, true, false, Option, None, Some, slice_get}
use Rattle.run_theory.specs.Lists.{Each}
use Rattle.sig_core.specs.declared.member.TxId.{TxId}
use Rattle.sig_core.specs.declared.rows.PendingRecord.{PendingRecord}
use Rattle.api_block.specs.declared.opened.OpenTransaction.{OpenTransaction}
use Rattle.api_views.specs.State.{ClientState}
use Rattle.tc_block.specs.declared.phase.Phase.{Phase}
use Rattle.tc_block.specs.declared.phase.Phase.TheVariants as phase
use Rattle.tc_views.specs.State.{CoordinatorState}
use Rattle.takeover_block.specs.declared.gathered.Gathered.{Gathered}
use Rattle.takeover_block.specs.declared.stage.Stage.{Stage}
use Rattle.takeover_block.specs.declared.stage.Stage.TheVariants as stage
use Rattle.takeover_block.specs.State.{TakeoverState}
use Rattle.dih_node.specs.State.{DihState}
use Rattle.lqh_block.specs.declared.request.Marker.{Marker}
use Rattle.lqh_views.specs.State.{ReplicaState}
use Rattle.node_views.specs.declared.parts.Parts.{Parts}
use Rattle.node_views.specs.declared.parts.Parts.TheVariants as part

-- where this is said of a transaction that was decided in an epoch, and that of one that the client knows to have begun
module _ (D : TxId → ℕ → Type 0) (B : TxId → Type 0) where
  -- a coordinator knows the epoch of a transaction that it commits
  abbrev pub IsDecidedIn : TxId → Phase → Type 0
  IsDecidedIn tx (phase.Committing epoch awaited) = D tx epoch
  IsDecidedIn tx (phase.Completing epoch awaited) = D tx epoch
  IsDecidedIn tx other = Unit {0}

  abbrev pub CoordinatorKnows : CoordinatorState → Type 0
  CoordinatorKnows s = Each (λ e. IsDecidedIn e.0 e.1.phase) s.tc.live

  -- the epochs of a node hold requests for those that have begun
  abbrev pub EpochsKnow : DihState → Type 0
  EpochsKnow s = Each B s.held

  -- a takeover knows the epoch of who was told to be committed, and of whom it commits
  abbrev pub IsDecidedAs : TxId → Option ℕ → Type 0
  IsDecidedAs tx None = Unit {0}
  IsDecidedAs tx (Some epoch) = D tx epoch

  abbrev pub IsDecidedAt : Stage → Option Gathered → Type 0
  IsDecidedAt (stage.Committing epoch awaited) (Some g) = D g.tx epoch
  IsDecidedAt (stage.Completing epoch awaited) (Some g) = D g.tx epoch
  IsDecidedAt other first = Unit {0}

  pub record TakeoverKnows (s : TakeoverState) : Type 0 where
    pub gathered : Each (λ g. IsDecidedAs g.tx g.epoch) s.gathered
    pub first : IsDecidedAt s.stage (slice_get s.gathered 0)

  -- rows know it of each record that is committed, and of each marker
  abbrev pub IsDecidedIf : PendingRecord → Bool → Type 0
  IsDecidedIf r true = D r.tx r.epoch
  IsDecidedIf r false = Unit {0}

  pub record RowsKnow (s : ReplicaState) : Type 0 where
    pub records : Each (λ r. IsDecidedIf r r.committed) s.lqh.rows.pending
    pub markers : Each (λ (m : Marker). D m.tx m.epoch) s.lqh.markers

  -- the client's side knows which have begun
  abbrev pub HasBegun : Option TxId → Type 0
  HasBegun None = Unit {0}
  HasBegun (Some tx) = B tx

  abbrev pub ClientKnows : ClientState → Type 0
  ClientKnows s = Each (λ (t : OpenTransaction). HasBegun t.tx) s.api.opened

  -- and so with all blocks of a host
  abbrev pub PartsKnow : Parts → Type 0
  PartsKnow (part.Shell p) = ClientKnows p.client
  PartsKnow (part.Main p) = Unit {0}
  PartsKnow (part.Tc p) = CoordinatorKnows p.coordinator × (TakeoverKnows p.takeover × EpochsKnow p.dih)
  PartsKnow (part.Ldm p) = RowsKnow p.replica
