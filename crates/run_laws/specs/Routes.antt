-- Signals along chains: where they are sent, and what they ask for there.
use Rattle.frag_map.specs.Laws.{first_chain}
use Rattle.frag_map.specs.Layout.{first_layout, holds}
use Rattle.frag_map.specs.Shape.{IsShape}
use Rattle.world_core.specs.Hosts.{rows_host}
use Rattle.node_core.specs.Blocks.{has_tc, lqh_of, tc_of}
use Rattle.std.specs.Prelude.{◌≡◌, ◌≢◌, ◌<◌, ◌⊎◌, ◌==◌, if◌then◌else◌, ℕ, length, List, Option, None, Some, true, ◌≤◌}
use Rattle.run_theory.specs.Lists.{Each}
use Rattle.world_core.specs.Steps.{Addressed, HostStep}
use Rattle.sig_core.specs.declared.member.Member.{Member}
use Rattle.sig_core.specs.declared.member.TxId.{TxId}
use Rattle.sig_core.specs.declared.place.BlockId.TheVariants.{Lqh}
use Rattle.sig_core.specs.declared.place.Place.{Place}
use Rattle.sig_core.specs.declared.signal.Body.{Body}
use Rattle.sig_core.specs.declared.signal.Body.TheVariants.{Chain}
use Rattle.sig_core.specs.declared.signal.chain.ChainSignal.TheVariants.{LqhKeyReq, LqhKeyConf, LqhKeyRef, Commit}
use Rattle.sig_core.specs.declared.signal.chain.ChainSignal.TheVariants.{Committed, Complete, Completed, Abort, Aborted}
use Rattle.sig_core.specs.declared.signal.chain.RowWork.{RowWork}
use Rattle.sig_core.specs.declared.signal.chain.RowWork.TheVariants.{Operate, Store}
use Rattle.sig_core.specs.Chain.{node_at, primary_of}
use Rattle.sig_core.specs.Op.{key_of}
use Rattle.sig_core.specs.Place.{coordinator_of}
use Rattle.lqh_block.specs.declared.request.Request.{Request}
use Rattle.sig_core.specs.Work.{work_key}
use Rattle.tc_block.specs.declared.phase.Asked.{Asked}
use Rattle.tc_block.specs.declared.touched.Touched.{Touched}
use Rattle.tc_block.specs.declared.transaction.Transaction.{Transaction}
use Rattle.node_core.specs.declared.host.Host.{Host}
use Rattle.world_core.specs.Start.{Start}
use Rattle.key_laws.specs.BackupEvents.{IsOfImage}
use Rattle.key_laws.specs.PrimaryEvents.{IsOfOperation}
use Rattle.run_laws.specs.Transit.{AreInTransit, Comes, IsRun, host_after}

-- the replicas of a key, the primary first; no other layout than the first is installed by now
abbrev pub replicas : Start → List ℕ → List Member
replicas start key = first_chain start.shape key

-- the node of the primary, and the host of its rows
abbrev pub primary : Start → List ℕ → ℕ
primary start key = node_at (replicas start key) 0

abbrev pub primary_host : Start → List ℕ → ℕ
primary_host start key = rows_host start (primary start key)

-- the host of the rows at a place of its chain
abbrev pub replica_host : Start → List ℕ → ℕ → ℕ
replica_host start key at = rows_host start (node_at (replicas start key) at)

-- an operation is for the first place of a chain, and an image for a later one
abbrev pub IsWorkAt : ℕ → RowWork → Type 0
IsWorkAt at (Operate op) = at ≡ 0
IsWorkAt at (Store key image) = 0 < at

-- what is for this place of a chain is sent to its node
pub record IsSentTo (node : ℕ) (chain : List Member) (at : ℕ) : Type 0 where
  pub inside : at < length chain
  pub node_is : node ≡ node_at chain at

-- a request is sent along the replicas of its key
pub record IsRequestRouted (start : Start) (node : ℕ) (q : Request) : Type 0 where
  pub chain : q.chain ≡ replicas start (work_key q.work)
  pub sent : IsSentTo node q.chain q.at
  pub work : IsWorkAt q.at q.work

-- a commit is sent along the replicas, or to the primary alone
pub record IsCommitRouted (start : Start) (node : ℕ) (key : List ℕ) (chain : List Member) (at : ℕ) : Type 0 where
  pub along : (chain ≡ replicas start key) ⊎ (chain ≡ primary_of (replicas start key))
  pub sent : IsSentTo node chain at

-- a completion along the replicas
pub record IsCompletionRouted (start : Start) (node : ℕ) (key : List ℕ) (chain : List Member) (at : ℕ) : Type 0 where
  pub along : chain ≡ replicas start key
  pub sent : IsSentTo node chain at

abbrev pub IsRouted : Start → ℕ → Body → Type 0
IsRouted start node (Chain (LqhKeyReq tx work chain at)) = IsRequestRouted start node
    (record { tx = tx; work = work; chain = chain; at = at })
IsRouted start node (Chain (Commit tx key epoch chain at)) = IsCommitRouted start node key chain at
IsRouted start node (Chain (Complete tx key chain at)) = IsCompletionRouted start node key chain at
IsRouted start node body = Unit {0}

-- a coordinator has the replicas of each key that was written, and the primary of each other one
abbrev pub IsTouchedRouted : Start → Touched → Type 0
IsTouchedRouted start t = t.chain ≡ (if t.written then replicas start t.key else primary_of (replicas start t.key))

abbrev pub IsAskedRouted : Start → Option Asked → Type 0
IsAskedRouted start None = Unit {0}
IsAskedRouted start (Some asked) = asked.chain ≡ replicas start (key_of asked.op)

pub record IsTransactionRouted (start : Start) (t : Transaction) : Type 0 where
  pub touched : Each (IsTouchedRouted start) t.touched
  pub asked : IsAskedRouted start t.asked

-- what waits at a host, and what its coordinator has
pub record IsHostRouted (start : Start) (host : Host) : Type 0 where
  pub layout : has_tc host ≡ true → (tc_of host).layout ≡ first_layout start.shape
  pub waiting : Each (λ (q : Request). IsRequestRouted start (lqh_of host).node q) (lqh_of host).waiting
  pub live : Each (λ (e : TxId × Transaction). IsTransactionRouted start e.1) (tc_of host).live

-- so it is after every run of some nodes
pub record AreRouted (start : Start) (es : List HostStep) (xs : List Addressed) : Type 0 where
  pub signals : Each (λ (x : Addressed). IsRouted start x.signal.to.node x.signal.body) xs
  pub hosts : (h : ℕ) → IsHostRouted start (host_after start es h)

abbrev pub SignalsAreRouted : Type 0
SignalsAreRouted = (start : Start) (es : List HostStep) (xs : List Addressed) → IsRun start es
    → AreInTransit start es xs → AreRouted start es xs

-- the replicas are nodes of the key's group
pub record IsNodeFor (start : Start) (node : ℕ) (key : List ℕ) : Type 0 where
  pub from : 1 ≤ node
  pub to : node ≤ start.shape.nodes
  pub holding : holds start.shape node key ≡ true

abbrev pub ReplicasAreNodes : Type 0
ReplicasAreNodes =
    (start : Start) (key : List ℕ) (at : ℕ) → IsShape start.shape → at < length (replicas start key)
    → IsNodeFor start (node_at (replicas start key) at) key

-- what asks a replica for something is for the rows of a node, and its answer for the coordinator of the transaction
abbrev pub IsForBlock : Place → Body → Type 0
IsForBlock to (Chain (LqhKeyReq tx work chain at)) = to.block ≡ Lqh
IsForBlock to (Chain (Commit tx key epoch chain at)) = to.block ≡ Lqh
IsForBlock to (Chain (Complete tx key chain at)) = to.block ≡ Lqh
IsForBlock to (Chain (Abort tx key)) = to.block ≡ Lqh
IsForBlock to (Chain (LqhKeyConf tx key answer)) = to ≡ coordinator_of tx
IsForBlock to (Chain (LqhKeyRef tx key cause)) = to ≡ coordinator_of tx
IsForBlock to (Chain (Committed tx key)) = to ≡ coordinator_of tx
IsForBlock to (Chain (Completed tx key)) = to ≡ coordinator_of tx
IsForBlock to (Chain (Aborted tx key)) = to ≡ coordinator_of tx
IsForBlock to body = Unit {0}

abbrev pub SignalsAreForBlocks : Type 0
SignalsAreForBlocks =
    (start : Start) (es : List HostStep) (xs : List Addressed) → IsRun start es → AreInTransit start es xs
    → Each (λ (x : Addressed). IsForBlock x.signal.to x.signal.body) xs

-- a request comes to the primary with an operation, and to each other replica with an image
abbrev pub RequestsAreForReplicas : Type 0
RequestsAreForReplicas =
    (start : Start) (es : List HostStep) (e : HostStep) (tx : TxId) (work : RowWork) (chain : List Member)
    (at : ℕ) → Comes start es e
    → e.step.taken.body ≡ Chain (LqhKeyReq tx work chain at)
    → (e.host ≡ primary_host start (work_key work) → IsOfOperation work)
    × (e.host ≢ primary_host start (work_key work) → IsOfImage work)

-- a commit is at the first place of its chain just where it comes to the primary
abbrev pub CommitsEndAtPrimary : Type 0
CommitsEndAtPrimary =
    (start : Start) (es : List HostStep) (e : HostStep) (tx : TxId) (key : List ℕ) (epoch : ℕ) (chain : List Member)
    (at : ℕ) → Comes start es e
    → e.step.taken.body ≡ Chain (Commit tx key epoch chain at)
    → (at == 0) ≡ (e.host == primary_host start key)

-- a signal for this place is routed, and for its block
pub record IsOnWay (start : Start) (to : Place) (body : Body) : Type 0 where
  pub routed : IsRouted start to.node body
  pub block : IsForBlock to body

-- so is each that comes to a host
abbrev pub ComingAreRouted : Type 0
ComingAreRouted = (start : Start) (es : List HostStep) (e : HostStep) → Comes start es e
    → IsOnWay start e.step.taken.to e.step.taken.body
