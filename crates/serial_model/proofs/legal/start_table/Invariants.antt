use Rattle.std.proofs.Common.{◌≡◌, take}
use Rattle.serial_model.specs.Legal.{rows_of}
use Rattle.serial_model.proofs.legal.start_table.Given as goal

abbrev pub invariant-loop-row : goal.invariant-loop-row
invariant-loop-row l = l.table ≡ rows_of (take l.row-index l.start)
