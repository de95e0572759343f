-- Where too many transactions are told to be open, there are too many; and whatever the shell is told so has its cause.
use Rattle.std.specs.Prelude.{◌≡◌, ◌⊎◌, ◌≤◌, ◌-◌, ◌^◌, ℕ, true, List, ◌∷◌, ◌++◌, length, Option}
use Rattle.frag_map.specs.Shape.{IsShape}
use Rattle.run_theory.specs.Lists.{Each, IsIn, IsPast}
use Rattle.sig_core.specs.declared.member.TxId.{TxId}
use Rattle.sig_core.specs.declared.outcome.Outcome.TheVariants.{Aborted}
use Rattle.sig_core.specs.declared.reply.ApiReply.{ApiReply}
use Rattle.sig_core.specs.declared.reply.ApiReply.TheVariants.{Ended, Refused}
use Rattle.sig_core.specs.declared.reply.Refusal.TheVariants.{TooManyOpen}
use Rattle.sig_core.specs.declared.signal.Body.{Body}
use Rattle.sig_core.specs.declared.signal.Body.TheVariants.{Client}
use Rattle.sig_core.specs.declared.signal.client.ClientSignal.TheVariants.{TcBeginRef, TcBeginReq, TcRollbackRep}
use Rattle.sig_core.specs.Place.{client}
use Rattle.sig_core.specs.Step.{to_place}
use Rattle.api_block.specs.Api.{api_table}
use Rattle.api_block.specs.State.{ApiState}
use Rattle.tc_block.specs.declared.tc.TheConstants.{TRANSACTIONS}
use Rattle.tc_block.specs.State.{TcState}
use Rattle.node_core.specs.Blocks.{has_tc, tc_of}
use Rattle.node_core.specs.Replies.{replies_of}
use Rattle.world_core.specs.Machine.{after, step_after}
use Rattle.world_core.specs.Start.{Start}
use Rattle.world_core.specs.Steps.{HostStep}
use Rattle.run_laws.specs.Laws.{IsClosedCut}
use Rattle.cause_laws.specs.Causes.{IsCaused}

-- a coordinator hasn't forgotten as many transactions as it keeps, or its numbers are used up
abbrev pub HasTooMany : TcState → Type 0
HasTooMany s = (TRANSACTIONS ≤ length s.live) ⊎ (s.next_seq ≡ 2 ^ 64 - 1)

-- There is a moment in the logs at which a coordinator was asked to begin a transaction for this name, had too many in
-- the state before that step, and turned it away.
pub record IsTurnedAway (start : Start) (logs : ℕ → List HostStep) (name : Option ℕ) : Type 0 where
  pub host : ℕ
  pub step : HostStep
  pub before : List HostStep
  pub inside : IsPast (step ∷ before) (logs host)
  pub runs : has_tc (after start host before) ≡ true
  pub asked : step.step.taken.body ≡ Client (TcBeginReq name)
  pub many : HasTooMany (tc_of (after start host before))
  pub sent : IsIn (to_place client (Client (TcBeginRef name))) (step_after start host before step).effects.sends

-- wherever the shell's host is told that a beginning was turned away, it was so in the cut
abbrev pub TurnedAwayAreTooMany : Type 0
TurnedAwayAreTooMany =
    (start : Start) (inside logs : ℕ → List HostStep) → IsShape start.shape → IsClosedCut start inside logs
    → (e : HostStep) (name : Option ℕ) → IsIn e (inside 0) → e.step.taken.body ≡ Client (TcBeginRef name)
    → IsTurnedAway start inside name

-- that too many are open is replied only upon that signal of the name, and an abort only upon the report of one for
-- this cause
abbrev pub IsToldBy : Body → ApiReply → Type 0
IsToldBy body (Refused name TooManyOpen) = body ≡ Client (TcBeginRef name)
IsToldBy body (Ended name (Aborted why)) = (tx : TxId) × (body ≡ Client (TcRollbackRep tx why))
IsToldBy body reply = Unit {0}

-- a step of the API adds such replies behind those that there are
pub record AddsReplies (s : ApiState) (body : Body) (after : ApiState) : Type 0 where
  pub more : List ApiReply
  pub is : after.replies ≡ s.replies ++ more
  pub told : Each (IsToldBy body) more

abbrev pub RepliesAreTold : Type 0
RepliesAreTold = (s : ApiState) (body : Body) → AddsReplies s body (api_table s body).state

-- the reply tells of an abort that has its cause in these logs, or of a beginning that was turned away in them, or of
-- neither
abbrev pub IsReplyCaused : Start → (ℕ → List HostStep) → ApiReply → Type 0
IsReplyCaused start logs (Refused name TooManyOpen) = IsTurnedAway start logs name
IsReplyCaused start logs (Ended name (Aborted why)) = (tx : TxId) × IsCaused start logs (logs 0) tx why
IsReplyCaused start logs reply = Unit {0}

-- so it is of all that the shell has been replied in a closed cut
abbrev pub RepliesAreCaused : Type 0
RepliesAreCaused =
    (start : Start) (inside logs : ℕ → List HostStep) → IsShape start.shape → IsClosedCut start inside logs
    → Each (IsReplyCaused start inside) (replies_of (after start 0 (inside 0)))
