-- Each abort has its cause.
use Rattle.std.specs.Prelude.{◌≡◌, ℕ, true, List, ◌∷◌, Option, None, Some}
use Rattle.frag_map.specs.Shape.{IsShape}
use Rattle.run_theory.specs.Lists.{IsIn, IsPast}
use Rattle.sig_core.specs.declared.mark.Mark.TheVariants.{Reported}
use Rattle.sig_core.specs.declared.member.TxId.{TxId}
use Rattle.sig_core.specs.declared.outcome.AbortCause.{AbortCause}
use Rattle.sig_core.specs.declared.outcome.AbortCause.TheVariants.{Down, NodeFail, Request, Timeout}
use Rattle.sig_core.specs.declared.outcome.Outcome.TheVariants.{Aborted}
use Rattle.sig_core.specs.declared.request.ApiReq.TheVariants as request
use Rattle.sig_core.specs.declared.signal.Body.{Body}
use Rattle.sig_core.specs.declared.signal.Body.TheVariants.{Client, Host}
use Rattle.sig_core.specs.declared.signal.client.ClientSignal.TheVariants.{TcRollbackReq}
use Rattle.sig_core.specs.declared.signal.host.HostSignal.TheVariants.{Continue}
use Rattle.sig_core.specs.declared.signal.host.Work.TheVariants as work
use Rattle.sig_core.specs.Place.{coordinator_of}
use Rattle.sig_core.specs.Step.{to_place}
use Rattle.api_block.specs.declared.opened.OpenTransaction.{OpenTransaction}
use Rattle.api_block.specs.State.{ApiState}
use Rattle.row_locks.specs.declared.queue.TheConstants.{ROUNDS}
use Rattle.lqh_block.specs.Storage.{refusal}
use Rattle.node_core.specs.Blocks.{api_of, has_lqh, lqh_of}
use Rattle.world_core.specs.Machine.{after, step_after}
use Rattle.world_core.specs.Start.{Start}
use Rattle.world_core.specs.Steps.{HostStep}
use Rattle.run_laws.specs.Laws.{IsClosedCut}
use Rattle.cause_laws.specs.Reasons.{IsReason}
use Rattle.cause_laws.specs.Waited.{HasWaited}

-- There is a moment in the logs at which the rows of a node refused the transaction at a key for this cause, and had
-- reason to, in the state before that step.
pub record IsRefused (start : Start) (logs : ℕ → List HostStep) (tx : TxId) (why : AbortCause) : Type 0 where
  pub host : ℕ
  pub step : HostStep
  pub before : List HostStep
  pub inside : IsPast (step ∷ before) (logs host)
  pub runs : has_lqh (after start host before) ≡ true
  pub key : List ℕ
  pub sent : IsIn (refusal tx key why) (step_after start host before step).effects.sends
  pub reason : IsReason (lqh_of (after start host before)) step.step.taken.body step.step.marks tx key why

-- It was refused for want of time: the rows were asked for it in the log of their host, and at least eight rounds of
-- time have come since.
pub record IsTimedOut (start : Start) (logs : ℕ → List HostStep) (tx : TxId) : Type 0 where
  pub refused : IsRefused start logs tx Timeout
  pub waited : HasWaited (refused.step ∷ refused.before) tx refused.key ROUNDS

-- the API has an entry of this name, or of none, for the transaction
pub record IsEntered (s : ApiState) (name : Option ℕ) (tx : TxId) : Type 0 where
  pub entry : OpenTransaction
  pub there : IsIn entry s.opened
  pub named : entry.name ≡ name
  pub its : entry.tx ≡ Some tx

-- the request is to abort the transaction of this name, or, where it is an operation alone, not to wait for it any
-- longer
abbrev pub IsWish : ApiState → Body → TxId → Type 0
IsWish s (Host (Continue (work.Request (request.Abort name)) at)) tx = IsEntered s (Some name) tx
IsWish s (Host (Continue (work.Request request.Pending) at)) tx = IsEntered s None tx
IsWish s body tx = ⊥

-- at such a request, in this log of the shell's host, its coordinator was asked to abort the transaction
pub record IsWished (start : Start) (log : List HostStep) (tx : TxId) : Type 0 where
  pub step : HostStep
  pub before : List HostStep
  pub inside : IsPast (step ∷ before) log
  pub asked : IsWish (api_of (after start 0 before)) step.step.taken.body tx
  pub sent : IsIn (to_place (coordinator_of tx) (Client (TcRollbackReq tx)))
      (step_after start 0 before step).effects.sends

-- The cause of an abort is found in these logs, and a wish for it in this log of the shell's host. As no host stops,
-- none is for the loss of a node or of the cluster.
abbrev pub IsCaused : Start → (ℕ → List HostStep) → List HostStep → TxId → AbortCause → Type 0
IsCaused start logs log tx Request = IsWished start log tx
IsCaused start logs log tx Timeout = IsTimedOut start logs tx
IsCaused start logs log tx (NodeFail view) = ⊥
IsCaused start logs log tx Down = ⊥
IsCaused start logs log tx why = IsRefused start logs tx why

-- Where the shell's host is marked, at a step behind this log, to have reported that a transaction was aborted, the
-- cause that was reported is found in the cut; and if it is the client's wish, that stands before the report.
abbrev pub AbortsAreCaused : Type 0
AbortsAreCaused =
    (start : Start) (inside logs : ℕ → List HostStep) → IsShape start.shape → IsClosedCut start inside logs
    → (e : HostStep) (before : List HostStep) → IsPast (e ∷ before) (inside 0)
    → (tx : TxId) (why : AbortCause) → IsIn (Reported tx (Aborted why)) e.step.marks
    → IsCaused start inside before tx why
