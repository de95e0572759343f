-- How a life on disks starts.
use Rattle.std.specs.Prelude.{ℕ, ◌+◌, ◌*◌, ◌/◌, List, []}
use Rattle.gcp_master.specs.declared.numbers.TheConstants.{MICROS}
use Rattle.sig_core.specs.declared.view.Shape.{Shape}
use Rattle.world_core.specs.Start.{Start}

-- the first epoch of the checkpoint number behind that of an epoch
abbrev pub epoch_behind : ℕ → ℕ
epoch_behind epoch = (epoch / MICROS + 1) * MICROS

-- the life of a cluster of this shape that starts from an epoch, with these rows
abbrev pub start_from : Shape → ℕ → List (List ℕ × List ℕ) → Start
start_from shape start rows =
    record { shape = shape; epoch = epoch_behind start; start_epoch = start; rows = rows; late = [] }
