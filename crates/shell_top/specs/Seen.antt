-- What is seen of the disks of a cluster.
use Rattle.std.specs.Prelude.{◌≡◌, ℕ, List, get_or, length, map, Option, None, Some}
use Rattle.host_io.specs.Call.{Call}
use Rattle.host_io.specs.Disk.{IsCut, ends_cut}
use Rattle.life_start.specs.Records.{AllTellMore}
use Rattle.sys_restart.specs.Answers.{AreSteady}

-- the record of the calls of each disk, if it tells it, and how often each failed
pub record Seen : Type 0 where
  pub told : List (Option (List Call))
  pub faults : List ℕ

abbrev pub seen : List (Option (List Call)) → List ℕ → Seen
seen told faults = record { told = told; faults = faults }

-- of disks, each of which tells this record and this count
abbrev pub seen_on : {D : Type 0} → (D → Option (List Call)) → (D → ℕ) → List D → Seen
seen_on told faults disks = seen (map told disks) (map faults disks)

-- the records of disks that tell them have only grown, and no count fell
pub record HasGrown (before now : Seen) : Type 0 where
  pub more : AllTellMore before.told now.told
  pub steady : AreSteady before.faults now.faults

-- the power of a disk was cut
abbrev pub HasLost : Option (List Call) → Option (List Call) → Type 0
HasLost None now = Unit {0}
HasLost (Some calls) now = IsCut calls now (ends_cut calls)

-- that of each disk was, once
pub record HaveLost (before now : Seen) : Type 0 where
  pub many : length now.told ≡ length before.told
  pub each : (at : ℕ) → HasLost (get_or before.told at None) (get_or now.told at None)
  pub steady : AreSteady before.faults now.faults
