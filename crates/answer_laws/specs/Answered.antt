-- What the API's transactions wait for when nothing is under way.
use Rattle.frag_map.specs.Shape.{IsShape}
use Rattle.tc_block.specs.Phases.{is_aborting, is_committing, is_completing}
use Rattle.host_laws.specs.OpenedAfter.{opened_after}
use Rattle.world_core.specs.Hosts.{home, rows_host}
use Rattle.node_core.specs.Blocks.{lqh_of, tc_of}
use Rattle.std.specs.Prelude.{◌≡◌, ◌≤◌, ℕ, Bool, true, false, is_some, List, Option, None, Some, ◌<◌}
use Rattle.api_block.specs.declared.opened.Doing.{Doing}
use Rattle.api_block.specs.declared.opened.Doing.TheVariants.{Ready, Operating, Committing}
use Rattle.api_block.specs.declared.opened.OpenTransaction.{OpenTransaction}
use Rattle.api_block.specs.Opened.{is_beginning}
use Rattle.lqh_block.specs.declared.request.Request.{Request}
use Rattle.lqh_block.specs.Operate.{is_granted}
use Rattle.lqh_block.specs.State.{LqhState}
use Rattle.sig_core.specs.Work.{work_key}
use Rattle.node_core.specs.declared.host.Host.{Host}
use Rattle.run_theory.specs.Lists.{IsIn}
use Rattle.run_theory.specs.Runs.{AreLogs, IsWithin}
use Rattle.world_core.specs.Steps.{HostStep}
use Rattle.sig_core.specs.declared.member.TxId.{TxId}
use Rattle.sig_core.specs.Op.{key_of}
use Rattle.tc_block.specs.declared.phase.Asked.{Asked}
use Rattle.tc_block.specs.declared.phase.Phase.TheVariants as phases
use Rattle.tc_block.specs.declared.transaction.Transaction.{Transaction}
use Rattle.tc_block.specs.Abort.{is_verifying}
use Rattle.tc_block.specs.State.{TcState}
use Rattle.world_core.specs.Hosts.{first_hosts}
use Rattle.world_core.specs.Machine.{after, machine}
use Rattle.world_core.specs.Quiet.{IsQuiet}
use Rattle.world_core.specs.Start.{Start}

-- a request of the transaction waits here in the queue of its key
pub record IsQueued (tx : TxId) (s : LqhState) : Type 0 where
  pub request : Request
  pub waits : IsIn request s.waiting
  pub own : request.tx ≡ tx
  pub queued : is_granted s.locks request ≡ false

abbrev pub IsQueuedAt : TxId → Host → Type 0
IsQueuedAt tx host = IsQueued tx (lqh_of host)

-- and so at a node
pub record WaitsForLock (start : Start) (logs : ℕ → List HostStep) (tx : TxId) : Type 0 where
  pub node : ℕ
  pub from : 1 ≤ node
  pub to : node ≤ start.shape.nodes
  pub there : IsQueuedAt tx (after start (rows_host start node) (logs (rows_host start node)))

-- the coordinator has the transaction, whose end it hasn't reported
pub record IsLive (tx : TxId) (s : TcState) : Type 0 where
  pub transaction : Transaction
  pub live : IsIn (tx, transaction) s.live
  pub unreported : is_completing transaction.phase ≡ false

abbrev pub IsLiveAt : TxId → Host → Type 0
IsLiveAt tx host = IsLive tx (tc_of host)

-- the coordinator has the transaction: it takes operations, and none is unanswered
pub record IsOpen (tx : TxId) (s : TcState) : Type 0 where
  pub transaction : Transaction
  pub live : IsIn (tx, transaction) s.live
  pub phase : transaction.phase ≡ phases.Open
  pub asked : transaction.asked ≡ None

abbrev pub IsOpenAt : TxId → Host → Type 0
IsOpenAt tx host = IsOpen tx (tc_of host)

-- what may be left unanswered when nothing is under way: no more than an operation that waits for a lock
abbrev pub is_answered_by : Start → (ℕ → List HostStep) → Doing → Option TxId → Type 0
is_answered_by start logs Ready (Some tx) = IsOpenAt tx (after start (home start tx) (logs (home start tx)))
is_answered_by start logs Operating (Some tx) = WaitsForLock start logs tx
is_answered_by start logs _ _ = ⊥

abbrev pub IsAnswered : Start → (ℕ → List HostStep) → OpenTransaction → Type 0
IsAnswered start logs t = is_answered_by start logs t.doing t.tx

-- these are right logs, and nothing is under way
pub record AreQuiet (start : Start) (logs : ℕ → List HostStep) : Type 0 where
  pub shape : IsShape start.shape
  pub right : AreLogs (machine start) logs
  pub within : IsWithin (first_hosts start) logs
  pub quiet : IsQuiet (machine start) (first_hosts start) logs

-- a claim about each transaction of quiet logs
abbrev pub EachAtQuiet : (Start → (ℕ → List HostStep) → OpenTransaction → Type 0) → Type 0
EachAtQuiet Claim = (start : Start) (logs : ℕ → List HostStep) (t : OpenTransaction) → AreQuiet start logs
    → IsIn t (opened_after start logs) → Claim start logs t

-- each command is answered, but for an operation that waits for a lock
abbrev pub EachIsAnswered : Type 0
EachIsAnswered = EachAtQuiet IsAnswered

-- whether a transaction begins is answered
abbrev pub HasBegun : OpenTransaction → Type 0
HasBegun t = is_beginning t.doing ≡ false

abbrev pub NoBeginIsLost : Type 0
NoBeginIsLost = EachAtQuiet (λ start logs t. HasBegun t)

-- its operation was sent
abbrev pub is_operating : Doing → Bool
is_operating Operating = true
is_operating _ = false

-- a transaction that has begun, and whose end isn't reported, is one of its coordinator, which hasn't reported it
-- either
abbrev pub HasCoordinator : Start → (ℕ → List HostStep) → OpenTransaction → Type 0
HasCoordinator start logs t =
    (tx : TxId) → t.tx ≡ Some tx → IsLiveAt tx (after start (home start tx) (logs (home start tx)))

abbrev pub EachHasCoordinator : Type 0
EachHasCoordinator = EachAtQuiet HasCoordinator

-- the transaction is one of this host's coordinator
abbrev pub IsLiveAs : TxId → Transaction → Host → Type 0
IsLiveAs tx t host = IsIn (tx, t) (tc_of host).live

-- a request of the transaction for the key is among those whose lock wasn't granted when they came
pub record IsWaiting (tx : TxId) (key : List ℕ) (s : LqhState) : Type 0 where
  pub request : Request
  pub waits : IsIn request s.waiting
  pub own : request.tx ≡ tx
  pub on : work_key request.work ≡ key

abbrev pub IsWaitingAt : TxId → List ℕ → Host → Type 0
IsWaitingAt tx key host = IsWaiting tx key (lqh_of host)

-- and so at a node
pub record Waits (start : Start) (logs : ℕ → List HostStep) (tx : TxId) (key : List ℕ) : Type 0 where
  pub node : ℕ
  pub from : 1 ≤ node
  pub to : node ≤ start.shape.nodes
  pub there : IsWaitingAt tx key (after start (rows_host start node) (logs (rows_host start node)))

-- an operation that a coordinator's transaction has unanswered waits at a node
abbrev pub EachOperationWaits : Type 0
EachOperationWaits =
    (start : Start) (logs : ℕ → List HostStep) (h : ℕ) (tx : TxId) (t : Transaction) (asked : Asked)
    → AreQuiet start logs → h < first_hosts start
    → IsLiveAs tx t (after start h (logs h)) → t.asked ≡ Some asked → Waits start logs tx (key_of asked.op)

-- a transaction that has an operation unanswered at its coordinator is one whose operation was sent
abbrev pub AsksWhereOperating : Start → (ℕ → List HostStep) → OpenTransaction → Type 0
AsksWhereOperating start logs t =
    (tx : TxId) (u : Transaction) (asked : Asked) → t.tx ≡ Some tx
    → IsLiveAs tx u (after start (home start tx) (logs (home start tx))) → u.asked ≡ Some asked
    → is_operating t.doing ≡ true

abbrev pub EachAsksWhereOperating : Type 0
EachAsksWhereOperating = EachAtQuiet AsksWhereOperating

-- no coordinator waits for keys of a transaction to be committed
abbrev pub NoCommitIsAwaited : Type 0
NoCommitIsAwaited =
    (start : Start) (logs : ℕ → List HostStep) (h : ℕ) (tx : TxId) (t : Transaction) → AreQuiet start logs
    → h < first_hosts start
    → IsLiveAs tx t (after start h (logs h)) → is_committing t.phase ≡ false

-- The coordinator of a transaction whose end isn't reported has it. It hasn't reported the end either, and doesn't wait
-- for keys to be committed. If it has an operation unanswered, the API has sent that, and it waits at a node.
pub record IsKeptByCoordinator (start : Start) (logs : ℕ → List HostStep) (t : OpenTransaction) (tx : TxId) : Type 0
  where
    pub transaction : Transaction
    pub live : IsLiveAs tx transaction (after start (home start tx) (logs (home start tx)))
    pub unreported : is_completing transaction.phase ≡ false
    pub uncommitted : is_committing transaction.phase ≡ false
    pub operating : (asked : Asked) → transaction.asked ≡ Some asked → is_operating t.doing ≡ true
    pub waiting : (asked : Asked) → transaction.asked ≡ Some asked → Waits start logs tx (key_of asked.op)

abbrev pub EachIsKeptByCoordinator : Type 0
EachIsKeptByCoordinator =
    EachAtQuiet (λ start logs t. (tx : TxId) → t.tx ≡ Some tx → IsKeptByCoordinator start logs t tx)

-- no transaction waits for its epoch
abbrev pub NoEpochIsAwaited : Type 0
NoEpochIsAwaited =
    (start : Start) (logs : ℕ → List HostStep) (h : ℕ) (tx : TxId) (t : Transaction) → AreQuiet start logs
    → h < first_hosts start
    → IsLiveAs tx t (after start h (logs h)) → is_verifying t.phase ≡ false

-- no transaction that has no operation unanswered waits for the end of its abort
abbrev pub NoAbortIsAwaited : Type 0
NoAbortIsAwaited =
    (start : Start) (logs : ℕ → List HostStep) (h : ℕ) (tx : TxId) (t : Transaction) → AreQuiet start logs
    → h < first_hosts start
    → IsLiveAs tx t (after start h (logs h)) → t.asked ≡ None → is_aborting t.phase ≡ false

-- A transaction whose operation was sent has it unanswered at its coordinator, where that has the transaction open.
abbrev pub AskedWhereOperating : Start → (ℕ → List HostStep) → OpenTransaction → Type 0
AskedWhereOperating start logs t =
    (tx : TxId) (u : Transaction) → t.tx ≡ Some tx → t.doing ≡ Operating
    → IsLiveAs tx u (after start (home start tx) (logs (home start tx))) → u.phase ≡ phases.Open
    → is_some u.asked ≡ true

abbrev pub EachAskedWhereOperating : Type 0
EachAskedWhereOperating = EachAtQuiet AskedWhereOperating

-- One whose commit was asked for isn't open at its coordinator.
abbrev pub ClosedWhereCommitting : Start → (ℕ → List HostStep) → OpenTransaction → Type 0
ClosedWhereCommitting start logs t =
    (tx : TxId) (u : Transaction) → t.tx ≡ Some tx → t.doing ≡ Committing
    → IsLiveAs tx u (after start (home start tx) (logs (home start tx))) → u.phase ≡ phases.Open → ⊥

abbrev pub EachClosedWhereCommitting : Type 0
EachClosedWhereCommitting = EachAtQuiet ClosedWhereCommitting

-- one that has begun is known by its number
abbrev pub IsNumbered : OpenTransaction → Type 0
IsNumbered t = is_beginning t.doing ≡ false → is_some t.tx ≡ true

abbrev pub EachIsNumbered : Type 0
EachIsNumbered = EachAtQuiet (λ start logs t. IsNumbered t)

-- an operation that a coordinator's transaction has unanswered waits in the queue of a lock
abbrev pub EachOperationIsQueued : Type 0
EachOperationIsQueued =
    (start : Start) (logs : ℕ → List HostStep) (h : ℕ) (tx : TxId) (t : Transaction) (asked : Asked)
    → AreQuiet start logs → h < first_hosts start
    → IsLiveAs tx t (after start h (logs h)) → t.asked ≡ Some asked → WaitsForLock start logs tx
