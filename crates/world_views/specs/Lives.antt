-- Lives of a session over a cluster that may fail: how they began.
use Rattle.std.specs.Prelude.{◌+◌, ◌*◌, ◌/◌, []}
use Rattle.gcp_master.specs.declared.numbers.TheConstants.{MICROS}
use Rattle.sig_core.specs.declared.log.Life.{Life}
use Rattle.sig_core.specs.declared.view.Shape.{Shape}
use Rattle.world_core.specs.Start.{Start}

-- a fresh world is in the first epoch of the first checkpoint number, and has no rows
abbrev pub fresh : Shape → Start
fresh shape = record { shape = shape; epoch = MICROS; start_epoch = 0; rows = []; late = [] }

-- how a life of a cluster of this shape began: in the first epoch of the checkpoint number behind that of its start
-- epoch, with its start rows
abbrev pub start_of : Shape → Life → Start
start_of shape life =
    record {
      shape = shape;
      epoch = (life.start_epoch / MICROS + 1) * MICROS;
      start_epoch = life.start_epoch;
      rows = life.start_rows;
      late = [];
    }
