-- System slots that aren't the last: one of a later epoch was lost.
use Rattle.std.specs.Prelude.{ℕ, ◌&&◌, Bool, false, nat_lt, List, Option, Some}
use Rattle.sig_core.specs.declared.slots.ControlSlot.{ControlSlot}
use Rattle.sysfile_core.specs.Reading.{control_at, of_generation}
use Rattle.sys_restart.specs.Places.{usable}

-- Both control slots of a generation were saved behind this epoch. The rows of a node save more only when what they
-- saved before is durable, and name a checkpoint only when all that they saved is: so of two slots one was saved at an
-- epoch that is durable, and that is behind this one.
abbrev pub are_ahead : ℕ → Option ControlSlot → Option ControlSlot → Bool
are_ahead epoch (Some one) (Some other) = nat_lt epoch one.saved && nat_lt epoch other.saved
are_ahead epoch one other = false

-- so it is of those in a control file of these bytes
abbrev pub is_outdated : ℕ → ℕ → List ℕ → Bool
is_outdated generation epoch bytes =
    are_ahead epoch (of_generation generation (usable (control_at 0 bytes)))
    (of_generation generation (usable (control_at 1 bytes)))
