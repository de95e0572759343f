-- What the client is told in the logs of a cluster, whatever stops and is cut off.
use Rattle.std.specs.Prelude.{◌≡◌, ◌≤◌, ◌⊎◌, ℕ, length, List, [], ◌∷◌, ◌++◌, Option, Some}
use Rattle.run_theory.specs.Lists.{Each, IsIn}
use Rattle.run_theory.specs.Runs.{AreLogs}
use Rattle.sig_core.specs.declared.mark.Mark.{Mark}
use Rattle.sig_core.specs.declared.mark.Mark.TheVariants.{Reported}
use Rattle.sig_core.specs.declared.member.TxId.{TxId}
use Rattle.sig_core.specs.declared.op.Op.{Op}
use Rattle.sig_core.specs.declared.outs.Outgoing.{Outgoing}
use Rattle.sig_core.specs.declared.reply.ApiReply.{ApiReply}
use Rattle.sig_core.specs.declared.reply.ApiReply.TheVariants.{Answered, Ended}
use Rattle.sig_core.specs.declared.signal.Body.{Body}
use Rattle.sig_core.specs.declared.signal.Body.TheVariants.{Client}
use Rattle.sig_core.specs.declared.signal.client.ClientSignal.TheVariants.{TcKeyConf, TcKeyReq}
use Rattle.sig_core.specs.Place.{coordinator_of}
use Rattle.api_block.specs.declared.opened.OpenTransaction.{OpenTransaction}
use Rattle.node_views.specs.declared.parts.Parts.{Parts}
use Rattle.node_views.specs.declared.parts.Parts.TheVariants.{Shell}
use Rattle.report_laws.specs.Answered.{answers_among}
use Rattle.report_laws.specs.Requested.{AsksAsRequested, name_of_request}
use Rattle.report_laws.specs.Told.{answer_in, outcomes_marked, outcomes_told}
use Rattle.world_core.specs.Requests.{request_in}
use Rattle.world_core.specs.Start.{NobodyStarts, Start}
use Rattle.world_core.specs.Steps.{HostStep}
use Rattle.world_views.specs.Machine.{after, machine, replies_at, step_after}
use Rattle.talk_laws.specs.Talks.{asked_of, told_of}

-- the transactions that a host was asked for and whose end isn't reported: only the shell's has any
abbrev pub opened_in : Parts → List OpenTransaction
opened_in (Shell p) = p.client.api.opened
opened_in parts = []

abbrev pub opened_after : Start → List HostStep → List OpenTransaction
opened_after start log = opened_in (after start 0 log).parts

-- the client has this transaction open, under this name or alone
pub record IsOpenIn (opened : List OpenTransaction) (name : Option ℕ) (tx : TxId) : Type 0 where
  pub t : OpenTransaction
  pub there : IsIn t opened
  pub named : t.name ≡ name
  pub own : t.tx ≡ Some tx

-- an answer is told under the name of the transaction of which the signal tells it, and an end under the name of the
-- one that is marked with it
abbrev pub IsOfItsTransaction : List OpenTransaction → Body → List Mark → ApiReply → Type 0
IsOfItsTransaction opened body marks (Answered name answer) =
    (tx : TxId) × ((body ≡ Client (TcKeyConf tx answer)) × IsOpenIn opened name tx)
IsOfItsTransaction opened body marks (Ended name outcome) =
    (tx : TxId) × (IsIn (Reported tx outcome) marks × IsOpenIn opened name tx)
IsOfItsTransaction opened body marks reply = Unit {0}

-- an operation goes to the coordinator of the transaction that is open, behind the step, under the name of its request
abbrev pub IsForItsTransaction : List OpenTransaction → Body → Outgoing → Type 0
IsForItsTransaction opened body o =
    (tx : TxId) (op : Op) → o.body ≡ Client (TcKeyReq tx op)
    → (o.to ≡ coordinator_of tx) × IsOpenIn opened (name_of_request (request_in body)) tx

-- The client is told just the ends that are marked, and no answer but the one that the step's signal tells, each under
-- the name of its transaction; no more answers were told of a transaction than operations of it were asked for, and
-- those are what the shell requested. One transaction at most is open under a name. An operation is asked for by the
-- number of the transaction that is open under the name of the step's request, and an operation alone by that of one
-- without a name.
pub record AreReported (start : Start) (logs : ℕ → List HostStep) : Type 0 where
  pub told : (newer : List HostStep) (e : HostStep) (before : List HostStep) → logs 0 ≡ newer ++ e ∷ before
      → outcomes_told (replies_at 0 (step_after start 0 before e)) ≡ outcomes_marked e.step.marks
  pub heard : (newer : List HostStep) (e : HostStep) (before : List HostStep) → logs 0 ≡ newer ++ e ∷ before
      → (answers_among (replies_at 0 (step_after start 0 before e)) ≡ [])
      ⊎ (answers_among (replies_at 0 (step_after start 0 before e)) ≡ answer_in e.step.taken.body)
  pub told_own : (newer : List HostStep) (e : HostStep) (before : List HostStep) → logs 0 ≡ newer ++ e ∷ before
      → Each (IsOfItsTransaction (opened_after start before) e.step.taken.body e.step.marks)
      (replies_at 0 (step_after start 0 before e))
  pub single : (tx : TxId) → length (told_of start tx (logs 0)) ≤ length (asked_of start tx (logs 0))
  pub requested : (newer : List HostStep) (e : HostStep) (before : List HostStep) → logs 0 ≡ newer ++ e ∷ before
      → Each (AsksAsRequested e before) (step_after start 0 before e).effects.sends
  pub of_one : (newer before : List HostStep) → logs 0 ≡ newer ++ before → (name : ℕ) (tx other : TxId)
      → IsOpenIn (opened_after start before) (Some name) tx → IsOpenIn (opened_after start before) (Some name) other
      → tx ≡ other
  pub asks_own : (newer : List HostStep) (e : HostStep) (before : List HostStep) → logs 0 ≡ newer ++ e ∷ before
      → Each (IsForItsTransaction (opened_after start (e ∷ before)) e.step.taken.body)
      (step_after start 0 before e).effects.sends

-- so it is of all right logs
abbrev pub ReportsAreMarked : Type 0
ReportsAreMarked = (start : Start) → NobodyStarts start → (logs : ℕ → List HostStep) → AreLogs (machine start) logs
    → AreReported start logs
