-- What each request of the shell comes to.
use Rattle.frag_map.specs.Shape.{IsShape}
use Rattle.std.specs.Prelude.{◌≡◌, ◌<◌, ◌⊎◌, ℕ, true, false, List, ◌∷◌, ◌++◌, None, Some}
use Rattle.run_theory.specs.Lists.{IsIn}
use Rattle.run_theory.specs.Runs.{AreLogs, IsWithin}
use Rattle.api_block.specs.declared.operate.TheConstants.{OPERATIONS}
use Rattle.api_block.specs.declared.opened.OpenTransaction.{OpenTransaction}
use Rattle.world_core.specs.Steps.{HostStep}
use Rattle.sig_core.specs.declared.member.TxId.{TxId}
use Rattle.sig_core.specs.declared.op.Op.{Op}
use Rattle.sig_core.specs.declared.outcome.AbortCause.TheVariants as cause
use Rattle.sig_core.specs.declared.outcome.Outcome.TheVariants.{Aborted}
use Rattle.sig_core.specs.declared.reply.ApiReply.TheVariants.{Ended}
use Rattle.sig_core.specs.declared.request.ApiReq.{ApiReq}
use Rattle.sig_core.specs.declared.request.ApiReq.TheVariants as request
use Rattle.node_core.specs.Replies.{is_left_open}
use Rattle.world_core.specs.Hosts.{first_hosts}
use Rattle.world_core.specs.Machine.{after, machine}
use Rattle.world_core.specs.Quiet.{IsQuiet}
use Rattle.world_core.specs.Requests.{AreAskedAtQuiet, request_in}
use Rattle.world_core.specs.Start.{Start}
use Rattle.answer_laws.specs.Answered.{IsAnswered}
use Rattle.host_laws.specs.OpenedAfter.{opened_after}
use Rattle.command_laws.specs.Aborts.{HasOperation, IsAbortHeard, IsGivenUp}
use Rattle.command_laws.specs.Alone.{IsRefusedAlone, IsTurnedAway, WaitsAlone}
use Rattle.command_laws.specs.Begun.{BeginComesTo, TakesCommands}
use Rattle.command_laws.specs.Between.{IsAskedAgain, IsServedIn}
use Rattle.command_laws.specs.Dumped.{DumpComesTo}
use Rattle.command_laws.specs.Once.{IsToldOnce}
use Rattle.command_laws.specs.Served.{IsAnsweredAlone, IsAnsweredAs, IsCommittedAlone, IsRefusedAs, IsServedBetween}
use Rattle.command_laws.specs.Served.{IsToldCommitted, IsToldHolder, StillWaits, replies_since}
use Rattle.command_laws.specs.Ticked.{IsTicked}
use Rattle.command_laws.specs.TurnedDown.{IsRefusedWhereDue, IsTurnedDown}

-- its operation waits for a lock
pub record IsLeftWaiting (start : Start) (now : ℕ → List HostStep) (name : ℕ) : Type 0 where
  pub tx : TxId
  pub waits : StillWaits start now name tx

-- An operation of a transaction with a name is turned down or answered, or its transaction is aborted for want of room
-- or of
-- time, or it waits for a lock.
abbrev pub OperationComesTo : Start → (was now : ℕ → List HostStep) → ℕ → Op → Type 0
OperationComesTo start was now name op =
    IsTurnedDown start was now (request.Operate (Some name) op)
    ⊎ (IsAnsweredAs start was now name ⊎ (IsRefusedAs start was now name ⊎ IsLeftWaiting start now name))

-- its transaction was reported committed
pub record IsReportedCommitted (start : Start) (was now : ℕ → List HostStep) (name : ℕ) : Type 0 where
  pub tx : TxId
  pub committed : IsToldCommitted start was now name tx

-- a commit is turned down or reported
abbrev pub CommitComesTo : Start → (was now : ℕ → List HostStep) → ℕ → Type 0
CommitComesTo start was now name =
    IsTurnedDown start was now (request.Commit name) ⊎ IsReportedCommitted start was now name

-- an operation alone was answered, and its transaction reported committed
pub record IsDoneAlone (start : Start) (was now : ℕ → List HostStep) : Type 0 where
  pub answered : IsAnsweredAlone start was now
  pub committed : IsCommittedAlone start was now

-- An operation alone is done, or its transaction is aborted for want of room or of time, or can't begin, or it waits
-- for a lock.
abbrev pub LoneComesTo : Start → (was now : ℕ → List HostStep) → Type 0
LoneComesTo start was now =
    IsDoneAlone start was now ⊎ (IsRefusedAlone start was now ⊎ (IsTurnedAway start was now ⊎ WaitsAlone start was now))

abbrev pub OperationsComeTo : Type 0
OperationsComeTo =
    (start : Start) (was now : ℕ → List HostStep) (name : ℕ) (op : Op)
    → IsServedBetween start was now (request.Operate (Some name) op) → OperationComesTo start was now name op

abbrev pub CommitsComeTo : Type 0
CommitsComeTo =
    (start : Start) (was now : ℕ → List HostStep) (name : ℕ) → IsServedBetween start was now
    (request.Commit name) → CommitComesTo start was now name

-- and operations, of which it has had fewer than it may
pub record TakesOperations (start : Start) (logs : ℕ → List HostStep) (name : ℕ) (tx : TxId) : Type 0 where
  pub takes : TakesCommands start logs name tx
  pub few : takes.item.operations < OPERATIONS

-- it was reported aborted, as was asked for
abbrev pub IsAbortedAs : Start → (was now : ℕ → List HostStep) → ℕ → Type 0
IsAbortedAs start was now name = IsIn (Ended (Some name) (Aborted cause.Request)) (replies_since start was now)

-- What a request comes to between these two moments. A transaction that takes it isn't turned down, and at a commit or
-- an
-- abort no other reply has its name than that of its end. A command that left
-- something of its own unanswered is asked about twice: the second time it is told who holds what it waits for.
abbrev pub AnswersRequest : Start → (was now : ℕ → List HostStep) → ApiReq → Type 0
AnswersRequest start was now (request.Operate (Some name) op) =
    OperationComesTo start was now name op
    ×
    ((tx : TxId) → TakesOperations start was name tx
    → IsAnsweredAs start was now name ⊎ (IsRefusedAs start was now name ⊎ StillWaits start now name tx))
AnswersRequest start was now (request.Operate None op) = LoneComesTo start was now
AnswersRequest start was now (request.Commit name) =
    CommitComesTo start was now name ×
    ((tx : TxId) → TakesCommands start was name tx
    → IsToldCommitted start was now name tx × IsToldOnce start was now name)
AnswersRequest start was now (request.Abort name) =
    ((tx : TxId) → TakesCommands start was name tx → IsAbortedAs start was now name × IsToldOnce start was now name)
    ×
    ((tx : TxId) → HasOperation start was name tx → IsAbortHeard start was now (Some name))
AnswersRequest start was now request.Pending =
    (first : ℕ → List HostStep) → IsServedBetween start first was request.Waits → is_left_open
    (after start 0 (first 0)) ≡ true → IsToldHolder start first was now × IsGivenUp start first was now
AnswersRequest start was now (request.Begin name at) = BeginComesTo start was now name at
AnswersRequest start was now (request.Tick round of) = IsTicked start was now round of
AnswersRequest start was now (request.Rows node) = DumpComesTo start was now (request.Rows node) node false
AnswersRequest start was now (request.Digest node) = DumpComesTo start was now (request.Digest node) node true
AnswersRequest start was now request = Unit {0}

-- The request that comes after `before` in the log of the shell's host is served between two quiet moments of these
-- logs and
-- answered there: by a refusal, where it is turned down; and then each transaction whose end isn't reported takes
-- commands, or
-- its operation waits for a lock.
pub record IsAnsweredIn (start : Start) (logs : ℕ → List HostStep) (request : ApiReq) (before : List HostStep) : Type 0
  where
    pub moments : IsServedIn start logs request before
    pub answers : AnswersRequest start moments.was moments.now request
    pub turned_down : IsRefusedWhereDue start moments.was moments.now request
    pub left : (t : OpenTransaction) → IsIn t (opened_after start moments.now) → IsAnswered start moments.now t

-- So it is of each request, if nothing is under way at the end or another request comes later.
abbrev pub RequestsAreAnswered : Type 0
RequestsAreAnswered =
    (start : Start) (logs : ℕ → List HostStep) → IsShape start.shape → AreLogs (machine start) logs → IsWithin
    (first_hosts start) logs → AreAskedAtQuiet start logs
    → (newer : List HostStep) (e : HostStep) (before : List HostStep) (request : ApiReq) → logs 0 ≡ newer ++ e ∷ before
    → request_in e.step.taken.body ≡ Some request
    → IsQuiet (machine start) (first_hosts start) logs ⊎ IsAskedAgain start newer
    → IsAnsweredIn start logs request before
