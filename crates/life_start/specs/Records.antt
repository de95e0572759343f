-- What is recorded of the disks of a cluster.
use Rattle.std.specs.Prelude.{◌≡◌, ℕ, List, length, get_or, map, Option, None, Some}
use Rattle.host_io.specs.Call.{Call}
use Rattle.host_io.specs.Image.{IsRecord}
use Rattle.run_theory.specs.Lists.{IsPast}

-- The record of a disk has only grown, and keeps to the model if it did before.
pub record IsLonger (old new : List Call) : Type 0 where
  pub past : IsPast old new
  pub allowed : IsRecord old → IsRecord new

-- a disk that told its calls tells them still, and maybe more
abbrev pub TellsMore : Option (List Call) → Option (List Call) → Type 0
TellsMore None told = Unit {0}
TellsMore (Some old) told = (new : List Call) × ((told ≡ Some new) × IsLonger old new)

-- the same of each disk
pub record HaveMore (old new : List (Option (List Call))) : Type 0 where
  pub many : length new ≡ length old
  pub each : (at : ℕ) → TellsMore (get_or old at None) (get_or new at None)

-- the same where all of them told their calls
abbrev pub AllTellMore : List (Option (List Call)) → List (Option (List Call)) → Type 0
AllTellMore old new = (records : List (List Call)) → old ≡ map Some records → HaveMore old new
