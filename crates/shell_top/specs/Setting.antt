-- What stays in a life on disks.
use Rattle.std.specs.Prelude.{ℕ, List, length}
use Rattle.disk_world.specs.declared.disk_world.DiskWorld.{DiskWorld}

-- the epoch and the rows that the life started from, and how many disks there are
pub record Setting : Type 0 where
  pub start : ℕ
  pub rows : List (List ℕ × List ℕ)
  pub disks : ℕ

abbrev pub setting_of : {D : Type 0} → DiskWorld D → Setting
setting_of w = record { start = w.start; rows = w.rows.items; disks = length w.disks.items }
