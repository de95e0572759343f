-- The slots in use of a node's disk.
use Rattle.std.specs.Prelude.{◌≤◌, ℕ}
use Rattle.sig_core.specs.declared.slots.ControlSlot.{ControlSlot}
use Rattle.sig_core.specs.declared.slots.SystemSlot.{SystemSlot}

-- the slots in use, and their places
pub record SlotsInUse : Type 0 where
  pub system : SystemSlot
  pub system_at : ℕ
  pub control : ControlSlot
  pub control_at : ℕ

-- they fit: there are two places and two parities
pub record AreSlots (system_at control_at parity : ℕ) : Type 0 where
  pub system : system_at ≤ 1
  pub control : control_at ≤ 1
  pub ring : parity ≤ 1
