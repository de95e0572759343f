-- What is so of each slot that is read.
use Rattle.std.specs.Prelude.{◌≤◌}
use Rattle.sig_core.specs.declared.slots.ControlSlot.{ControlSlot}

-- its redo is of one of the two parities, and doesn't end before it starts
abbrev pub HasRedo : ControlSlot → Type 0
HasRedo slot = (slot.parity ≤ 1) × (slot.redo_start ≤ slot.redo_end)
