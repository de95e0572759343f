-- Disks that are fit for a life.
use Rattle.std.specs.Prelude.{◌≡◌, ◌<◌, List, length, map, Some, Ok}
use Rattle.host_io.specs.Call.{Call}
use Rattle.life_start.specs.Begun.{end_of_epochs}
use Rattle.restart_laws.specs.Lived.{AreFitFor}
use Rattle.shell_top.specs.Seen.{HaveLost, Seen}
use Rattle.sig_core.specs.declared.view.Shape.{Shape}
use Rattle.sys_restart.specs.declared.restored.Restored.{Restored}
use Rattle.sys_restart.specs.Files.{disks_of}
use Rattle.sys_restart.specs.Restored.{restored_of}

-- The disks of all nodes tell what was done to them, and are fit for the life behind what is restored of them, if there
-- is an epoch for it.
pub record AreFit (shape : Shape) (s : Seen) : Type 0 where
  pub records : List (List Call)
  pub many : length records ≡ shape.nodes
  pub tell : s.told ≡ map Some records
  pub for_life :
      (r : Restored) → restored_of shape (disks_of records) ≡ Ok r → r.epoch < end_of_epochs
      → AreFitFor shape r records

-- Where the disks of a life were fit as it was to begin, so they are behind it, once their power is cut.
abbrev pub HandsOn : Shape → (opened left : Seen) → Type 0
HandsOn shape opened left = AreFit shape opened → (now : Seen) → HaveLost left now → AreFit shape now
