-- What a life begins with.
use Rattle.std.specs.Prelude.{◌≡◌, ◌<◌, ℕ, ◌+◌, ◌-◌, ◌^◌, List, get_or, length, Some, Ok}
use Rattle.std.specs.FinMap as finmap
use Rattle.std.specs.List.{flat_map}
use Rattle.sig_core.specs.Table.{Rows}
use Rattle.sig_core.specs.declared.view.Shape.{Shape}
use Rattle.node_disk.specs.Found.{slots_in}
use Rattle.node_disk.specs.Slots.{SlotsInUse}
use Rattle.sys_restart.specs.declared.restored.Restored.{Restored}
use Rattle.sys_restart.specs.Files.{Disks, Files}
use Rattle.sys_restart.specs.Restored.{restored_of}

-- the least epoch behind which no life begins: it has the last checkpoint number
abbrev pub end_of_epochs : ℕ
end_of_epochs = 2 ^ 64 - 2 ^ 32

-- the rows of groups, those of the first group first, each in byte order of their keys
abbrev pub rows_of : List Rows → List (List ℕ × List ℕ)
rows_of groups = flat_map finmap.entries groups

-- a life of this generation follows what was restored, and begins with its epoch and its rows
abbrev pub begins_from : Restored → ℕ → ℕ → List (List ℕ × List ℕ) → Type 0
begins_from r generation epoch rows =
    (generation ≡ r.generation + 1) × (epoch ≡ r.epoch) × (rows ≡ rows_of r.groups)

-- what is restored is what the disks say, and there is an epoch behind it
pub record HasBegun (shape : Shape) (disks : Disks) (generation epoch : ℕ) (rows : List (List ℕ × List ℕ))
    : Type 0 where
  pub restored : Restored
  pub read : restored_of shape disks ≡ Ok restored
  pub begins : begins_from restored generation epoch rows
  pub low : epoch < end_of_epochs

-- these are the slots in use of files, of a generation
abbrev pub IsSlotsOf : ℕ → Files → SlotsInUse → Type 0
IsSlotsOf generation files slots = slots_in generation files ≡ Ok (Some slots)

-- and these those of disks, the first of node 1
abbrev pub AreSlotsOf : ℕ → Disks → List SlotsInUse → Type 0
AreSlotsOf generation disks slots =
    (k : ℕ) (other : SlotsInUse) → k < length slots → IsSlotsOf generation (disks (k + 1)) (get_or slots k other)
