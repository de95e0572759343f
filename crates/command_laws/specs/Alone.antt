-- What an operation alone comes to, between two quiet moments.
use Rattle.std.specs.Prelude.{◌≡◌, ◌⊎◌, ℕ, true, false, List, None, Some}
use Rattle.run_theory.specs.Lists.{Each, IsIn}
use Rattle.world_core.specs.Steps.{HostStep}
use Rattle.sig_core.specs.declared.member.TxId.{TxId}
use Rattle.sig_core.specs.declared.op.Op.{Op}
use Rattle.sig_core.specs.declared.outcome.AbortCause.{AbortCause}
use Rattle.sig_core.specs.declared.outcome.Outcome.TheVariants.{Aborted}
use Rattle.sig_core.specs.declared.reply.ApiReply.TheVariants.{Ended, Refused}
use Rattle.sig_core.specs.declared.reply.Refusal.TheVariants.{TooManyOpen}
use Rattle.sig_core.specs.declared.request.ApiReq.TheVariants.{Operate}
use Rattle.api_block.specs.declared.opened.Doing.TheVariants.{Operating}
use Rattle.api_block.specs.declared.opened.OpenTransaction.{OpenTransaction}
use Rattle.api_block.specs.Opened.{has_tx}
use Rattle.world_core.specs.Start.{Start}
use Rattle.answer_laws.specs.Answered.{WaitsForLock}
use Rattle.host_laws.specs.OpenedAfter.{opened_after}
use Rattle.command_laws.specs.Served.{IsAnsweredAlone, IsServedBetween, is_refusal, replies_since}

-- a transaction of one ended since then, for want of room or of time
pub record IsRefusedAlone (start : Start) (was now : ℕ → List HostStep) : Type 0 where
  pub cause : AbortCause
  pub told : IsIn (Ended None (Aborted cause)) (replies_since start was now)
  pub refusal : is_refusal cause ≡ true

-- none could begin, since its coordinator has as many as it may have
abbrev pub IsTurnedAway : Start → (ℕ → List HostStep) → (ℕ → List HostStep) → Type 0
IsTurnedAway start was now = IsIn (Refused None TooManyOpen) (replies_since start was now)

-- one has begun since then, and its operation waits for a lock
pub record WaitsAlone (start : Start) (was now : ℕ → List HostStep) : Type 0 where
  pub tx : TxId
  pub item : OpenTransaction
  pub inside : IsIn item (opened_after start now)
  pub called : item.name ≡ None
  pub own : item.tx ≡ Some tx
  pub does : item.doing ≡ Operating
  pub waits : WaitsForLock start now tx
  pub begun_since : Each (λ (t : OpenTransaction). has_tx tx t ≡ false) (opened_after start was)

-- an operation alone is answered, or refused for want of room or of time, or its transaction couldn't begin, or it
-- waits for a lock
abbrev pub LoneOperationsAreAnswered : Type 0
LoneOperationsAreAnswered =
    (start : Start) (was now : ℕ → List HostStep) (op : Op) → IsServedBetween start was now (Operate None op)
    → IsAnsweredAlone start was now ⊎ (IsRefusedAlone start was now ⊎
    (IsTurnedAway start was now ⊎ WaitsAlone start was now))
