-- All epochs made one: in what a plain host knows, takes, sends and marks.
use Rattle.std.specs.Prelude.{ℕ, if◌then◌else◌, false, [], map, Option, None, Some}
use Rattle.api_block.specs.State.{ApiState, with_replies}
use Rattle.lqh_block.specs.State.{LqhState, with_markers, with_outlet, with_rows}
use Rattle.node_core.specs.declared.host.Host.{Host}
use Rattle.node_core.specs.declared.host.Host.TheVariants.{Shell, Main, Tc, Ldm}
use Rattle.node_core.specs.declared.tc_part.TcPart.{TcPart}
use Rattle.node_core.specs.Dih.{DihState}
use Rattle.sig_core.specs.declared.mark.Mark.{Mark}
use Rattle.sig_core.specs.declared.mark.Mark.TheVariants.{Decided, Reported}
use Rattle.sig_core.specs.declared.member.TxId.{TxId}
use Rattle.sig_core.specs.declared.outcome.Outcome.{Outcome}
use Rattle.sig_core.specs.declared.outcome.Outcome.TheVariants.{Committed}
use Rattle.sig_core.specs.declared.outs.Outgoing.{Outgoing}
use Rattle.sig_core.specs.declared.reply.ApiReply.{ApiReply}
use Rattle.sig_core.specs.declared.reply.ApiReply.TheVariants.{Ended}
use Rattle.sig_core.specs.declared.rows.PendingRecord.{PendingRecord}
use Rattle.sig_core.specs.declared.rows.Slot.{Slot}
use Rattle.sig_core.specs.declared.signal.Body.{Body}
use Rattle.sig_core.specs.declared.signal.Body.TheVariants.{Client, Chain, Epoch}
use Rattle.sig_core.specs.declared.signal.Signal.{Signal}
use Rattle.sig_core.specs.declared.signal.chain.ChainSignal.TheVariants.{Commit}
use Rattle.sig_core.specs.declared.signal.client.ClientSignal.TheVariants.{TcCommitConf}
use Rattle.sig_core.specs.declared.signal.epoch.EpochSignal.TheVariants.{DiVerifyConf}
use Rattle.sig_core.specs.Journal.{OutletState, end_of}
use Rattle.sig_core.specs.Rows.{RowsState, with_row}
use Rattle.sig_core.specs.Step.{Effects, Step}
use Rattle.lqh_block.specs.declared.request.Marker.{Marker}
use Rattle.tc_block.specs.State.{TcState, with_live}
use Rattle.tc_block.specs.declared.phase.Phase.{Phase}
use Rattle.tc_block.specs.declared.phase.Phase.TheVariants.{Committing, Completing}
use Rattle.tc_block.specs.declared.transaction.Transaction.{Transaction}

-- what a signal says
abbrev pub body_at : ℕ → Body → Body
body_at epoch (Client (TcCommitConf tx other)) = Client (TcCommitConf tx epoch)
body_at epoch (Chain (Commit tx key other chain at)) = Chain (Commit tx key epoch chain at)
body_at epoch (Epoch (DiVerifyConf tx other)) = Epoch (DiVerifyConf tx epoch)
body_at epoch body = body

abbrev pub signal_at : ℕ → Signal → Signal
signal_at epoch x = record x { body = body_at epoch x.body }

abbrev pub send_at : ℕ → Outgoing → Outgoing
send_at epoch sent = record { to = sent.to; body = body_at epoch sent.body }

-- how a transaction ended, what a step is marked by, and what the client is told
abbrev pub outcome_at : ℕ → Outcome → Outcome
outcome_at epoch (Committed other) = Committed epoch
outcome_at epoch outcome = outcome

abbrev pub mark_at : ℕ → Mark → Mark
mark_at epoch (Decided tx other) = Decided tx epoch
mark_at epoch (Reported tx outcome) = Reported tx (outcome_at epoch outcome)
mark_at epoch mark = mark

abbrev pub reply_at : ℕ → ApiReply → ApiReply
reply_at epoch (Ended name outcome) = Ended name (outcome_at epoch outcome)
reply_at epoch reply = reply

-- the client's side
abbrev pub api_at : ℕ → ApiState → ApiState
api_at epoch s = with_replies s (map (reply_at epoch) s.replies)

-- a coordinator, whose transactions keep their epochs from when they are decided
abbrev pub phase_at : ℕ → Phase → Phase
phase_at epoch (Committing other awaited) = Committing epoch awaited
phase_at epoch (Completing other awaited) = Completing epoch awaited
phase_at epoch phase = phase

abbrev pub transaction_at : ℕ → Transaction → Transaction
transaction_at epoch t = record t { phase = phase_at epoch t.phase }

abbrev pub live_at : ℕ → TxId × Transaction → TxId × Transaction
live_at epoch one = (one.0, transaction_at epoch one.1)

abbrev pub tc_at : ℕ → TcState → TcState
tc_at epoch s = with_live s (map (live_at epoch) s.live)

-- the epochs of a node
abbrev pub dih_at : ℕ → DihState → DihState
dih_at epoch s = record { node = s.node; epoch = epoch; counted = s.counted }

-- rows: those of places, of records that are committed, and of markers
abbrev pub slot_at : ℕ → Option Slot → Option Slot
slot_at epoch None = None
slot_at epoch (Some slot) = Some (with_row slot.key slot.row epoch)

abbrev pub record_at : ℕ → PendingRecord → PendingRecord
record_at epoch r = record r { epoch = if r.committed then epoch else 0 }

abbrev pub rows_at : ℕ → RowsState → RowsState
rows_at epoch s = record { places = map (slot_at epoch) s.places; pending = map (record_at epoch) s.pending }

abbrev pub marker_at : ℕ → Marker → Marker
marker_at epoch m = record m { epoch = epoch }

-- of what a journal has still to give out how much it is, since the bytes of a commit tell its epoch
abbrev pub outlet_at : OutletState → OutletState
outlet_at o = record { keeps = false; parity = o.parity; flushed = end_of o; left = [] }

abbrev pub lqh_at : ℕ → LqhState → LqhState
lqh_at epoch s =
    with_outlet (with_markers (with_rows s (rows_at epoch s.rows)) (map (marker_at epoch) s.markers))
    (outlet_at s.outlet)

-- a host
abbrev pub tc_part_at : ℕ → TcPart → TcPart
tc_part_at epoch p = record { tc = tc_at epoch p.tc; dih = dih_at epoch p.dih }

abbrev pub host_at : ℕ → Host → Host
host_at epoch (Shell s) = Shell (api_at epoch s)
host_at epoch (Main m) = Main m
host_at epoch (Tc p) = Tc (tc_part_at epoch p)
host_at epoch (Ldm s) = Ldm (lqh_at epoch s)

-- a step to a state
abbrev pub effects_at : ℕ → Effects → Effects
effects_at epoch effects =
    record { sends = map (send_at epoch) effects.sends; marks = map (mark_at epoch) effects.marks }

abbrev pub step_at : {S : Type 0} → (S → S) → ℕ → Step S → Step S
step_at levelled epoch step = record { state = levelled step.state; effects = effects_at epoch step.effects }

-- Of rows how much their journal has still to give out, and not what; and so for a host.
abbrev pub lqh_sized : LqhState → LqhState
lqh_sized s = with_outlet s (outlet_at s.outlet)

abbrev pub host_sized : Host → Host
host_sized (Ldm s) = Ldm (lqh_sized s)
host_sized s = s
