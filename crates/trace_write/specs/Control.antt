-- The numbers of a control slot that have eight bytes.
use Rattle.std.specs.Prelude.{ℕ, List}
use Rattle.sig_core.specs.declared.slots.ControlSlot.{ControlSlot}
use Rattle.trace_bytes.specs.Lists.{◌&◌}
use Rattle.trace_bytes.specs.Numbers.{u64_bytes}

abbrev pub control_numbers : ControlSlot → List ℕ
control_numbers slot =
    u64_bytes slot.generation & u64_bytes slot.serial & u64_bytes slot.saved & u64_bytes slot.redo_start
    & u64_bytes slot.redo_end & u64_bytes slot.ckpt_size
