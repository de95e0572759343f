-- What the client asks coordinators for is what the shell requested.
use Rattle.std.specs.Prelude.{◌≡◌, ℕ, List, Option, None, Some}
use Rattle.run_theory.specs.Lists.{IsIn}
use Rattle.sig_core.specs.declared.member.TxId.{TxId}
use Rattle.sig_core.specs.declared.op.Op.{Op}
use Rattle.sig_core.specs.declared.outs.Outgoing.{Outgoing}
use Rattle.sig_core.specs.declared.request.ApiReq.{ApiReq}
use Rattle.sig_core.specs.declared.request.ApiReq.TheVariants.{Operate}
use Rattle.sig_core.specs.declared.signal.Body.TheVariants.{Client}
use Rattle.sig_core.specs.declared.signal.client.ClientSignal.TheVariants.{TcKeyReq}
use Rattle.world_core.specs.Requests.{request_in}
use Rattle.world_core.specs.Steps.{HostStep}

-- the operation is that of the step's request, for a transaction with a name, or of an earlier request for it alone
pub data IsRequested (e : HostStep) (before : List HostStep) (op : Op) : Type 0 where
  by_name : (name : ℕ) → request_in e.step.taken.body ≡ Some (Operate (Some name) op) → IsRequested e before op
  alone : (step : HostStep) → IsIn step before → request_in step.step.taken.body ≡ Some (Operate None op)
      → IsRequested e before op

-- an operation that the signal asks a coordinator for is requested so
abbrev pub AsksAsRequested : HostStep → List HostStep → Outgoing → Type 0
AsksAsRequested e before o = (tx : TxId) (op : Op) → o.body ≡ Client (TcKeyReq tx op) → IsRequested e before op

-- the name of the transaction for which an operation is asked, by the request of the step; an operation alone has none
abbrev pub name_of_request : Option ApiReq → Option ℕ
name_of_request (Some (Operate name op)) = name
name_of_request other = None
