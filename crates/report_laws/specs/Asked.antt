-- The operations of a transaction that signals ask for, and those of its entry.
use Rattle.std.specs.List.{cons_option}
use Rattle.std.specs.Prelude.{if◌then◌else◌, List, [], ◌∷◌, map, reverse, Option, None, Some}
use Rattle.sig_core.specs.declared.entry.Entry.{Entry}
use Rattle.sig_core.specs.declared.member.TxId.{TxId}
use Rattle.sig_core.specs.declared.op.Answer.{Answer}
use Rattle.sig_core.specs.declared.op.Op.{Op}
use Rattle.sig_core.specs.declared.outs.Outgoing.{Outgoing}
use Rattle.sig_core.specs.declared.signal.Body.{Body}
use Rattle.sig_core.specs.declared.signal.Body.TheVariants.{Client}
use Rattle.sig_core.specs.declared.signal.client.ClientSignal.TheVariants.{TcKeyReq}
use Rattle.sig_core.specs.Same.{same_tx}

-- the operation of the transaction that the signal asks for
abbrev pub asked_by : TxId → Body → Option Op
asked_by tx (Client (TcKeyReq other op)) = if same_tx other tx then Some op else None
asked_by tx body = None

-- those that these signals ask for, in front of those before, the newest first
abbrev pub asked_in : TxId → List Outgoing → List Op → List Op
asked_in tx [] before = before
asked_in tx (o ∷ more) before = asked_in tx more (cons_option (asked_by tx o.body) before)

-- the operations of an entry, the newest first
abbrev pub operations_of : Entry → List Op
operations_of entry = reverse (map (λ (op : Op × Answer). op.0) entry.ops)
