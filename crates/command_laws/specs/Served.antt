-- What a command comes to, between two quiet moments.
use Rattle.world_core.specs.Hosts.{home, rows_host}
use Rattle.node_core.specs.Blocks.{api_of, lqh_of}
use Rattle.std.specs.Prelude.{◌≡◌, ◌<◌, ◌≤◌, ◌⊎◌, ◌++◌, ℕ, Bool, true, false, is_some, List, [], ◌∷◌, drop, length}
use Rattle.std.specs.Prelude.{position, Option, None, Some}
use Rattle.run_theory.specs.Cuts.{IsCut}
use Rattle.run_theory.specs.Lists.{IsIn, IsPast}
use Rattle.world_core.specs.Steps.{HostStep}
use Rattle.sig_core.specs.declared.mark.Mark.TheVariants.{Reported}
use Rattle.sig_core.specs.declared.member.Member.{Member}
use Rattle.sig_core.specs.declared.member.TxId.{TxId}
use Rattle.sig_core.specs.declared.op.Answer.{Answer}
use Rattle.sig_core.specs.declared.op.Op.{Op}
use Rattle.sig_core.specs.declared.outcome.AbortCause.{AbortCause}
use Rattle.sig_core.specs.declared.outcome.AbortCause.TheVariants.{LogFull, TableFull, Timeout}
use Rattle.sig_core.specs.declared.outcome.Outcome.TheVariants.{Aborted, Committed}
use Rattle.sig_core.specs.declared.reply.ApiReply.{ApiReply}
use Rattle.sig_core.specs.declared.reply.ApiReply.TheVariants.{Answered, Ended, Pending}
use Rattle.sig_core.specs.declared.reply.Waiting.TheVariants.{HeldBy}
use Rattle.sig_core.specs.declared.request.ApiReq.{ApiReq}
use Rattle.sig_core.specs.declared.request.ApiReq.TheVariants.{Commit, Operate}
use Rattle.sig_core.specs.declared.request.ApiReq.TheVariants as request
use Rattle.sig_core.specs.Op.{key_of}
use Rattle.sig_core.specs.Same.{same_tx}
use Rattle.api_block.specs.declared.operate.TheConstants.{OPERATIONS}
use Rattle.api_block.specs.declared.opened.Doing.TheVariants.{Operating, Ready}
use Rattle.api_block.specs.declared.opened.OpenTransaction.{OpenTransaction}
use Rattle.api_block.specs.Opened.{has_tx, is_named, own_place, where_at}
use Rattle.row_locks.specs.Holders.{holds}
use Rattle.row_locks.specs.Queues.{waits}
use Rattle.row_locks.specs.Tables.{Locks, ahead_at, lock_at}
use Rattle.tc_block.specs.declared.phase.Asked.{Asked}
use Rattle.tc_block.specs.declared.transaction.Transaction.{Transaction}
use Rattle.node_core.specs.declared.host.Host.{Host}
use Rattle.node_core.specs.Replies.{is_left_open, replies_of}
use Rattle.world_core.specs.Machine.{after}
use Rattle.world_core.specs.Requests.{requests}
use Rattle.world_core.specs.Start.{Start}
use Rattle.answer_laws.specs.Answered.{AreQuiet, EachAtQuiet, IsLiveAs, WaitsForLock}
use Rattle.host_laws.specs.OpenedAfter.{opened_after}

-- The shell asked for one more thing between two quiet moments: the later logs have those before, and of the shell's
-- requests
-- this one more.
pub record IsServedBetween (start : Start) (was now : ℕ → List HostStep) (request : ApiReq) : Type 0 where
  pub before : AreQuiet start was
  pub since : AreQuiet start now
  pub cut : IsCut was now
  pub asked : requests (now 0) ≡ requests (was 0) ++ request ∷ []

-- the replies of the shell's host behind those that it had before
abbrev pub replies_since : Start → (ℕ → List HostStep) → (ℕ → List HostStep) → List ApiReply
replies_since start was now = drop (length (replies_of (after start 0 (was 0)))) (replies_of (after start 0 (now 0)))

-- the transaction of a name: the first that has it
abbrev pub named_in : List OpenTransaction → ℕ → Option OpenTransaction
named_in opened name = where_at opened None (λ at t. Some t) (position (is_named (Some name)) opened)

-- a step of the shell's host since then was marked to have reported the transaction committed in this epoch
pub record IsMarked (was now : ℕ → List HostStep) (tx : TxId) (epoch : ℕ) : Type 0 where
  pub step : HostStep
  pub older : List HostStep
  pub inside : IsPast (step ∷ older) (now 0)
  pub later : IsPast (was 0) older
  pub marked : IsIn (Reported tx (Committed epoch)) step.step.marks

-- the transaction of this name was reported committed since then
pub record IsToldCommitted (start : Start) (was now : ℕ → List HostStep) (name : ℕ) (tx : TxId) : Type 0 where
  pub epoch : ℕ
  pub told : IsIn (Ended (Some name) (Committed epoch)) (replies_since start was now)
  pub marked : IsMarked was now tx epoch

-- a commit of a transaction that takes commands ends in its being committed
abbrev pub CommitsAreCommitted : Type 0
CommitsAreCommitted =
    (start : Start) (was now : ℕ → List HostStep) (name : ℕ) (t : OpenTransaction) (tx : TxId)
    → IsServedBetween start was now (Commit name)
    → named_in (opened_after start was) name ≡ Some t → t.doing ≡ Ready → t.tx ≡ Some tx
    → IsToldCommitted start was now name tx

-- an operation alone was answered since then
pub record IsAnsweredAlone (start : Start) (was now : ℕ → List HostStep) : Type 0 where
  pub answer : Answer
  pub told : IsIn (Answered None answer) (replies_since start was now)

-- and a transaction of one was reported committed
pub record IsCommittedAlone (start : Start) (was now : ℕ → List HostStep) : Type 0 where
  pub tx : TxId
  pub epoch : ℕ
  pub told : IsIn (Ended None (Committed epoch)) (replies_since start was now)
  pub marked : IsMarked was now tx epoch

-- an operation alone that is answered ends in its being committed
abbrev pub LoneAreCommitted : Type 0
LoneAreCommitted =
    (start : Start) (was now : ℕ → List HostStep) (op : Op) → IsServedBetween start was now (Operate None op)
    → IsAnsweredAlone start was now
    → IsCommittedAlone start was now

-- the transaction that the last command is about, if it is about one that is there
abbrev pub own_in : Host → Option OpenTransaction
own_in host = where_at (api_of host).opened None (λ at t. Some t) (own_place (api_of host))

-- the transaction waits in the queue of the key, and another one holds that
abbrev pub IsHeldUpAt : TxId → List ℕ → Host → Type 0
IsHeldUpAt tx key host = is_some (ahead_at (lqh_of host).locks key tx) ≡ true

-- its coordinator has its operation unanswered, and at one of the nodes that this is sent along it is held up on the
-- key
pub record IsHeldUp (start : Start) (logs : ℕ → List HostStep) (tx : TxId) : Type 0 where
  pub transaction : Transaction
  pub live : IsLiveAs tx transaction (after start (home start tx) (logs (home start tx)))
  pub asked : Asked
  pub unanswered : transaction.asked ≡ Some asked
  pub member : Member
  pub inside : IsIn member asked.chain
  pub low : member.node ≤ start.shape.nodes
  pub held : IsHeldUpAt tx (key_of asked.op)
      (after start (rows_host start member.node) (logs (rows_host start member.node)))

-- so it is at quiet where its operation was sent
abbrev pub EachIsHeldUp : Type 0
EachIsHeldUp = EachAtQuiet (λ start logs t. (tx : TxId) → t.tx ≡ Some tx → t.doing ≡ Operating → IsHeldUp start logs tx)

-- the transaction waits in the queue of the key, and that other one holds it
pub record IsBehind (tx ahead : TxId) (key : List ℕ) (locks : Locks) : Type 0 where
  pub waiting : waits tx (lock_at locks key).queue ≡ true
  pub held : holds ahead (lock_at locks key).holders ≡ true
  pub other : same_tx ahead tx ≡ false

abbrev pub IsBehindAt : TxId → TxId → List ℕ → Host → Type 0
IsBehindAt tx ahead key host = IsBehind tx ahead key (lqh_of host).locks

-- the name of a transaction, where it has one that the API knows
abbrev pub name_of_tx : List OpenTransaction → TxId → Option ℕ
name_of_tx opened tx = where_at opened None (λ at t. t.name) (position (has_tx tx) opened)

-- the name of a transaction was told since then that holds, at a node, the lock of a key for which the own transaction
-- waits
pub record IsToldHolder (start : Start) (was mid now : ℕ → List HostStep) : Type 0 where
  pub own : OpenTransaction
  pub is : own_in (after start 0 (was 0)) ≡ Some own
  pub tx : TxId
  pub number : own.tx ≡ Some tx
  pub ahead : TxId
  pub node : ℕ
  pub low : node ≤ start.shape.nodes
  pub key : List ℕ
  pub behind : IsBehindAt tx ahead key (after start (rows_host start node) (mid (rows_host start node)))
  pub told : IsIn (Pending own.name (HeldBy (name_of_tx (opened_after start mid) ahead))) (replies_since start mid now)

-- where a command left something of its own unanswered, the two questions about it tell for whom that waits
abbrev pub HoldersAreTold : Type 0
HoldersAreTold =
    (start : Start) (was mid now : ℕ → List HostStep) → IsServedBetween start was mid request.Waits
    → IsServedBetween start mid now request.Pending → is_left_open (after start 0 (was 0)) ≡ true
    → IsToldHolder start was mid now

-- there is no room or no time for an operation
abbrev pub is_refusal : AbortCause → Bool
is_refusal (LogFull used reserved need) = true
is_refusal (TableFull rows) = true
is_refusal Timeout = true
is_refusal cause = false

-- an operation of the transaction of this name was answered since then
pub record IsAnsweredAs (start : Start) (was now : ℕ → List HostStep) (name : ℕ) : Type 0 where
  pub answer : Answer
  pub told : IsIn (Answered (Some name) answer) (replies_since start was now)

-- it ended since then, for want of room or of time
pub record IsRefusedAs (start : Start) (was now : ℕ → List HostStep) (name : ℕ) : Type 0 where
  pub cause : AbortCause
  pub told : IsIn (Ended (Some name) (Aborted cause)) (replies_since start was now)
  pub refusal : is_refusal cause ≡ true

-- its operation waits for a lock
pub record StillWaits (start : Start) (now : ℕ → List HostStep) (name : ℕ) (tx : TxId) : Type 0 where
  pub item : OpenTransaction
  pub inside : IsIn item (opened_after start now)
  pub called : item.name ≡ Some name
  pub own : item.tx ≡ Some tx
  pub does : item.doing ≡ Operating
  pub waits : WaitsForLock start now tx

-- an operation of a transaction that takes commands is answered, or refused for want of room or of time, or waits for a
-- lock
abbrev pub OperationsAreAnswered : Type 0
OperationsAreAnswered =
    (start : Start) (was now : ℕ → List HostStep) (name : ℕ) (op : Op) (t : OpenTransaction) (tx : TxId)
    → IsServedBetween start was now (Operate (Some name) op)
    → named_in (opened_after start was) name ≡ Some t → t.doing ≡ Ready → t.tx ≡ Some tx → t.operations < OPERATIONS
    → IsAnsweredAs start was now name ⊎ (IsRefusedAs start was now name ⊎ StillWaits start now name tx)
