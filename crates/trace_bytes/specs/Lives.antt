-- The bytes of a trace: the shape of the cluster, and then the life.
use Rattle.std.specs.Prelude.{◌≡◌, ℕ, ◌-◌, ◌*◌, ◌%◌, ◌^◌, ◌<◌, ◌≤◌, ◌==◌, nat_lt, if◌then◌else◌, List, [], ◌∷◌, length}
use Rattle.std.specs.Prelude.{Option, None, Some, Result, Ok, Err}
use Rattle.sig_core.specs.declared.mark.Mark.{Mark}
use Rattle.sig_core.specs.declared.member.HostId.{HostId}
use Rattle.sig_core.specs.declared.member.Member.{Member}
use Rattle.sig_core.specs.declared.place.BlockId.{BlockId}
use Rattle.sig_core.specs.declared.place.Place.{Place}
use Rattle.sig_core.specs.declared.signal.Body.{Body}
use Rattle.sig_core.specs.declared.signal.Signal.{Signal}
use Rattle.sig_core.specs.declared.log.LogStep.{LogStep}
use Rattle.sig_core.specs.declared.log.HostLog.{HostLog}
use Rattle.sig_core.specs.declared.log.Life.{Life}
use Rattle.sig_core.specs.declared.view.Shape.{Shape}
use Rattle.sig_core.specs.declared.view.View.{View}
use Rattle.sig_core.specs.declared.slots.SystemSlot.{SystemSlot}
use Rattle.sig_core.specs.declared.slots.ControlSlot.{ControlSlot}
use Rattle.sig_core.specs.declared.slots.Slots.{Slots}
use Rattle.trace_bytes.specs.declared.header.Header.{Header}
use Rattle.redo_format.specs.Reading.{Reader, ◌>>=◌, and_then, told, byte_at}
use Rattle.trace_bytes.specs.Lists.{◌&◌, list_bytes, AreItems, list_at}
use Rattle.trace_bytes.specs.Numbers.{u8_bytes, IsU8, u8_at, u64_bytes, IsU64, u64_at}
use Rattle.trace_bytes.specs.Words.{host_bytes, IsHost, host_at, member_bytes, IsMember, member_at, view_bytes, IsView}
use Rattle.trace_bytes.specs.Words.{view_at, row_bytes, IsRow, row_at, option_bytes, IsOption, option_at}
use Rattle.trace_bytes.specs.Places.{block_bytes, IsBlock, block_at}
use Rattle.trace_bytes.specs.Bodies.{body_bytes, IsBody, body_at}
use Rattle.trace_bytes.specs.Marks.{mark_bytes, IsMark, mark_at}

-- ---- signals with their headers

abbrev pub place_bytes : Place → List ℕ
place_bytes place = u8_bytes place.node & block_bytes place.block

abbrev pub IsPlace : Place → Type 0
IsPlace place = IsU8 place.node × IsBlock place.block

abbrev pub place_of : ℕ × BlockId → Place
place_of x = record { node = x.0; block = x.1 }

unfoldable pub place_at : Reader Place
place_at = told place_of (and_then u8_at (λ _. block_at))

abbrev pub header_bytes : Header → List ℕ
header_bytes header =
    host_bytes header.from & member_bytes header.member & place_bytes header.to & u64_bytes header.seq
    & u64_bytes header.stamp & view_bytes header.view

abbrev pub IsHeader : Header → Type 0
IsHeader header =
    IsHost header.from × IsMember header.member × IsPlace header.to × IsU64 header.seq × IsU64 header.stamp
    × IsView header.view

abbrev pub header_in : Signal → Header
header_in signal = record {
  from = signal.from;
  member = signal.member;
  to = signal.to;
  seq = signal.seq;
  stamp = signal.stamp;
  view = signal.view;
}

unfoldable pub signal_bytes : Signal → List ℕ
signal_bytes signal = header_bytes (header_in signal) & body_bytes signal.body

abbrev pub IsSignal : Signal → Type 0
IsSignal signal = IsHeader (header_in signal) × IsBody signal.body

abbrev pub header_of : HostId × (Member × (Place × (ℕ × (ℕ × View)))) → Header
header_of x = record {
  from = x.0;
  member = x.1.0;
  to = x.1.1.0;
  seq = x.1.1.1.0;
  stamp = x.1.1.1.1.0;
  view = x.1.1.1.1.1;
}

unfoldable pub header_at : Reader Header
header_at =
    told header_of (and_then host_at (λ _. and_then member_at (λ _. and_then place_at
    (λ _. and_then u64_at (λ _. and_then u64_at (λ _. view_at))))))

abbrev pub signal_of : Header × Body → Signal
signal_of x = record {
  from = x.0.from;
  member = x.0.member;
  to = x.0.to;
  seq = x.0.seq;
  stamp = x.0.stamp;
  view = x.0.view;
  body = x.1;
}

unfoldable pub signal_at : Reader Signal
signal_at = told signal_of (and_then header_at (λ _. body_at))

-- ---- logs

unfoldable pub step_bytes : LogStep → List ℕ
step_bytes step = u64_bytes step.stamp & signal_bytes step.taken & list_bytes mark_bytes step.marks

abbrev pub IsStep : LogStep → Type 0
IsStep step = IsU64 step.stamp × IsSignal step.taken × AreItems IsMark step.marks

abbrev pub step_of : ℕ × (Signal × List Mark) → LogStep
step_of x = record { stamp = x.0; taken = x.1.0; marks = x.1.1 }

unfoldable pub step_at : Reader LogStep
step_at = told step_of (and_then u64_at (λ _. and_then signal_at (λ _. list_at mark_at)))

unfoldable pub log_bytes : HostLog → List ℕ
log_bytes log = host_bytes log.host & u64_bytes log.made & list_bytes step_bytes log.steps

abbrev pub IsLog : HostLog → Type 0
IsLog log = IsHost log.host × IsU64 log.made × AreItems IsStep log.steps

abbrev pub log_of : HostId × (ℕ × List LogStep) → HostLog
log_of x = record { host = x.0; made = x.1.0; steps = x.1.1 }

unfoldable pub log_at : Reader HostLog
log_at = told log_of (and_then host_at (λ _. and_then u64_at (λ _. list_at step_at)))

-- ---- what hosts found on disks

-- 1 to 8 nodes, of whose number that of the replicas, 1 to 4, is a divisor, and 1 to 32 fragments
abbrev pub shape_bytes : Shape → List ℕ
shape_bytes shape = u8_bytes shape.nodes & u8_bytes shape.replicas & u8_bytes shape.fragments

abbrev pub IsShape : Shape → Type 0
IsShape shape =
    (1 ≤ shape.nodes) × (shape.nodes ≤ 8) × (1 ≤ shape.replicas) × (shape.replicas ≤ 4)
    × (shape.nodes % shape.replicas ≡ 0)
    × (1 ≤ shape.fragments) × (shape.fragments ≤ 32)

abbrev pub if_divides : ℕ → List ℕ → ℕ × List ℕ → Result (ℕ × List ℕ) ℕ
if_divides nodes bytes x = if nodes % x.0 == 0 then Ok x else Err (length bytes)

unfoldable pub divisor_at : ℕ → Reader ℕ
divisor_at nodes bytes = byte_at 1 4 bytes >>= if_divides nodes bytes

abbrev pub shape_of : ℕ × (ℕ × ℕ) → Shape
shape_of x = record { nodes = x.0; replicas = x.1.0; fragments = x.1.1 }

unfoldable pub shape_at : Reader Shape
shape_at = told shape_of (and_then (byte_at 1 8) (λ nodes. and_then (divisor_at nodes) (λ _. byte_at 1 32)))

abbrev pub system_bytes : SystemSlot → List ℕ
system_bytes slot = shape_bytes slot.shape & u8_bytes slot.mask & u64_bytes slot.generation & u64_bytes slot.epoch

abbrev pub IsSystem : SystemSlot → Type 0
IsSystem slot = IsShape slot.shape × IsU8 slot.mask × IsU64 slot.generation × IsU64 slot.epoch

abbrev pub system_of : Shape × (ℕ × (ℕ × ℕ)) → SystemSlot
system_of x = record { shape = x.0; mask = x.1.0; generation = x.1.1.0; epoch = x.1.1.1 }

unfoldable pub system_at : Reader SystemSlot
system_at = told system_of (and_then shape_at (λ _. and_then u8_at (λ _. and_then u64_at (λ _. u64_at))))

abbrev pub opt_system_bytes : Option SystemSlot → List ℕ
opt_system_bytes = option_bytes system_bytes

unfoldable pub opt_system_at : Reader (Option SystemSlot)
opt_system_at = option_at system_at

abbrev pub control_bytes : ControlSlot → List ℕ
control_bytes slot =
    u8_bytes slot.ckpt_file & u8_bytes slot.parity & u64_bytes slot.generation & u64_bytes slot.serial
    & u64_bytes slot.saved & u64_bytes slot.redo_start & u64_bytes slot.redo_end & u64_bytes slot.ckpt_size

abbrev pub IsControl : ControlSlot → Type 0
IsControl slot =
    (2 ≤ slot.ckpt_file) × (slot.ckpt_file ≤ 3) × (slot.parity ≤ 1) × IsU64 slot.generation × IsU64 slot.serial
    × IsU64 slot.saved × IsU64 slot.redo_start × IsU64 slot.redo_end × IsU64 slot.ckpt_size

abbrev pub control_of : ℕ × (ℕ × (ℕ × (ℕ × (ℕ × (ℕ × (ℕ × ℕ)))))) → ControlSlot
control_of x = record {
  ckpt_file = x.0;
  parity = x.1.0;
  generation = x.1.1.0;
  serial = x.1.1.1.0;
  saved = x.1.1.1.1.0;
  redo_start = x.1.1.1.1.1.0;
  redo_end = x.1.1.1.1.1.1.0;
  ckpt_size = x.1.1.1.1.1.1.1;
}

unfoldable pub control_at : Reader ControlSlot
control_at =
    told control_of (and_then (byte_at 2 3) (λ _. and_then (byte_at 0 1) (λ _. and_then u64_at (λ _. and_then u64_at
    (λ _. and_then u64_at (λ _. and_then u64_at (λ _. and_then u64_at (λ _. u64_at))))))))

abbrev pub opt_control_bytes : Option ControlSlot → List ℕ
opt_control_bytes = option_bytes control_bytes

unfoldable pub opt_control_at : Reader (Option ControlSlot)
opt_control_at = option_at control_at

-- a node has no rows of its own
unfoldable pub slots_bytes : Slots → List ℕ
slots_bytes slots =
    host_bytes slots.host & u8_bytes slots.system_at & opt_system_bytes slots.system & u8_bytes slots.control_at
    & opt_control_bytes slots.control & 0 ∷ []

abbrev pub IsSlots : Slots → Type 0
IsSlots slots =
    IsHost slots.host × (slots.system_at ≤ 1) × IsOption IsSystem slots.system × (slots.control_at ≤ 1)
    × IsOption IsControl slots.control × (slots.own ≡ None)

abbrev pub slots_of : HostId × (ℕ × (Option SystemSlot × (ℕ × (Option ControlSlot × ℕ)))) → Slots
slots_of x = record {
  host = x.0;
  system_at = x.1.0;
  system = x.1.1.0;
  control_at = x.1.1.1.0;
  control = x.1.1.1.1.0;
  own = None;
}

unfoldable pub slots_at : Reader Slots
slots_at =
    told slots_of (and_then host_at (λ _. and_then (byte_at 0 1) (λ _. and_then opt_system_at
    (λ _. and_then (byte_at 0 1) (λ _. and_then opt_control_at (λ _. byte_at 0 0))))))

-- ---- lives

-- no epoch comes after one whose checkpoint number is the greatest
abbrev pub LAST_START : ℕ
LAST_START = (2 ^ 32 - 1) * 2 ^ 32

abbrev pub if_starts : List ℕ → ℕ × List ℕ → Result (ℕ × List ℕ) ℕ
if_starts bytes x = if nat_lt x.0 LAST_START then Ok x else Err (length bytes - 3)

unfoldable pub start_epoch_at : Reader ℕ
start_epoch_at bytes = u64_at bytes >>= if_starts bytes

unfoldable pub life_bytes : Life → List ℕ
life_bytes life =
    u64_bytes life.start_epoch & list_bytes row_bytes life.start_rows & list_bytes log_bytes life.logs
    & list_bytes slots_bytes life.slots

abbrev pub IsLife : Life → Type 0
IsLife life =
    (life.start_epoch < LAST_START) × AreItems IsRow life.start_rows × AreItems IsLog life.logs
    × AreItems IsSlots life.slots

abbrev pub life_of : ℕ × (List (List ℕ × List ℕ) × (List HostLog × List Slots)) → Life
life_of x = record { start_epoch = x.0; start_rows = x.1.0; logs = x.1.1.0; slots = x.1.1.1 }

unfoldable pub life_at : Reader Life
life_at =
    told life_of (and_then start_epoch_at (λ _. and_then (list_at row_at)
    (λ _. and_then (list_at log_at) (λ _. list_at slots_at))))

-- the bytes of a trace
unfoldable pub trace_of : Shape → Life → List ℕ
trace_of shape life = shape_bytes shape & life_bytes life

unfoldable pub trace_at : Reader (Shape × Life)
trace_at = and_then shape_at (λ _. life_at)

-- all bytes are the trace, or the place of the first that doesn't fit
abbrev pub whole : {A : Type 0} → List ℕ → Result (A × List ℕ) ℕ → Result A ℕ
whole bytes (Ok (x, [])) = Ok x
whole bytes (Ok (x, byte ∷ rest)) = Err (length bytes - length (byte ∷ rest))
whole bytes (Err left) = Err (length bytes - left)

unfoldable pub read_of : List ℕ → Result (Shape × Life) ℕ
read_of bytes = whole bytes (trace_at bytes)
