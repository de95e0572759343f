-- Signals that ask well for operations: on keys and of values that can be written, and of transactions whose numbers
-- can.
use Rattle.std.proofs.Common.{◌<◌, ◌^◌}
use Rattle.script_lang.specs.Spelling.{IsOperation}
use Rattle.sig_core.specs.declared.member.TxId.{TxId}
use Rattle.sig_core.specs.declared.op.Op.{Op}
use Rattle.sig_core.specs.declared.op.Op.TheVariants as operation
use Rattle.sig_core.specs.declared.outs.Outgoing.{Outgoing}
use Rattle.sig_core.specs.declared.request.ApiReq.{ApiReq}
use Rattle.sig_core.specs.declared.request.ApiReq.TheVariants as request
use Rattle.sig_core.specs.declared.signal.Body.{Body}
use Rattle.sig_core.specs.declared.signal.Body.TheVariants.{Chain, Client, Host}
use Rattle.sig_core.specs.declared.signal.chain.ChainSignal.TheVariants.{LqhKeyReq}
use Rattle.sig_core.specs.declared.signal.chain.RowWork.TheVariants.{Operate}
use Rattle.sig_core.specs.declared.signal.client.ClientSignal.TheVariants.{TcKeyReq}
use Rattle.sig_core.specs.declared.signal.host.HostSignal.TheVariants.{Continue}
use Rattle.sig_core.specs.declared.signal.host.Work.TheVariants.{Request}
use Rattle.journal_laws.proofs.events.Writable.{IsWork}

abbrev pub FitsTx : TxId → Type 0
FitsTx tx = (tx.start < 2 ^ 32) × (tx.seq < 2 ^ 64)

-- an operation of words is such work
pub operation_work : (op : Op) → IsOperation op → IsWork (Operate op)
operation_work (operation.Get key) is = (is, tt)
operation_work (operation.GetX key) is = (is, tt)
operation_work (operation.Put key value) is = is
operation_work (operation.Ins key value) is = is
operation_work (operation.Upd key value) is = is
operation_work (operation.Del key) is = (is, tt)

abbrev pub IsWellRequested : ApiReq → Type 0
IsWellRequested (request.Operate name op) = IsWork (Operate op)
IsWellRequested r = Unit {0}

abbrev pub IsWellAsked : Body → Type 0
IsWellAsked (Host (Continue (Request r) at)) = IsWellRequested r
IsWellAsked (Client (TcKeyReq tx op)) = IsWork (Operate op)
IsWellAsked (Chain (LqhKeyReq tx work members at)) = FitsTx tx × IsWork work
IsWellAsked body = Unit {0}

-- what is sent asks well
abbrev pub AsksWell : Outgoing → Type 0
AsksWell sent = IsWellAsked sent.body
