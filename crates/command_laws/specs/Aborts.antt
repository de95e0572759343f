-- What an abort comes to, between two quiet moments.
use Rattle.std.specs.Prelude.{◌≡◌, ℕ, List, Option, None, Some}
use Rattle.run_theory.specs.Lists.{IsIn}
use Rattle.world_core.specs.Steps.{HostStep}
use Rattle.sig_core.specs.declared.member.TxId.{TxId}
use Rattle.sig_core.specs.declared.outcome.AbortCause.TheVariants as cause
use Rattle.sig_core.specs.declared.outcome.Outcome.TheVariants.{Aborted}
use Rattle.sig_core.specs.declared.reply.ApiReply.TheVariants.{Ended}
use Rattle.sig_core.specs.declared.request.ApiReq.TheVariants.{Abort}
use Rattle.api_block.specs.declared.opened.Doing.TheVariants.{Operating, Ready}
use Rattle.api_block.specs.declared.opened.OpenTransaction.{OpenTransaction}
use Rattle.world_core.specs.Machine.{after}
use Rattle.world_core.specs.Start.{Start}
use Rattle.host_laws.specs.OpenedAfter.{opened_after}
use Rattle.command_laws.specs.Served.{IsServedBetween, named_in, own_in, replies_since}

-- an abort of a transaction that takes commands ends in its being aborted at the client's request
abbrev pub ReadyAbortsAreAnswered : Type 0
ReadyAbortsAreAnswered =
    (start : Start) (was now : ℕ → List HostStep) (name : ℕ) (t : OpenTransaction) (tx : TxId)
    → IsServedBetween start was now (Abort name)
    → named_in (opened_after start was) name ≡ Some t → t.doing ≡ Ready → t.tx ≡ Some tx
    → IsIn (Ended (Some name) (Aborted cause.Request)) (replies_since start was now)

-- the transaction of this name has an operation that was sent, and isn't answered
pub record HasOperation (start : Start) (logs : ℕ → List HostStep) (name : ℕ) (tx : TxId) : Type 0 where
  pub item : OpenTransaction
  pub named : named_in (opened_after start logs) name ≡ Some item
  pub operating : item.doing ≡ Operating
  pub own : item.tx ≡ Some tx

-- the end of this transaction is reported as its being aborted at the client's request
abbrev pub IsAbortHeard : Start → (was now : ℕ → List HostStep) → Option ℕ → Type 0
IsAbortHeard start was now name = IsIn (Ended name (Aborted cause.Request)) (replies_since start was now)

-- an abort of a transaction whose operation waits ends in its being aborted at the client's request
abbrev pub WaitingAbortsAreHeard : Type 0
WaitingAbortsAreHeard =
    (start : Start) (was now : ℕ → List HostStep) (name : ℕ) (tx : TxId) → IsServedBetween start was now (Abort name)
    → HasOperation start was name tx → IsAbortHeard start was now (Some name)

-- The transaction of an operation alone, of which the first moment's last command left it unanswered, is given up so.
abbrev pub IsGivenUp : Start → (first was now : ℕ → List HostStep) → Type 0
IsGivenUp start first was now =
    (t : OpenTransaction) (tx : TxId) → own_in (after start 0 (first 0)) ≡ Some t → t.name ≡ None → t.tx ≡ Some tx
    → IsAbortHeard start was now None
