use Rattle.std.proofs.Common.{take}
use Rattle.serial_model.specs.Legal.{rows_of}
use Rattle.serial_model.proofs.LegalLemmas.{AreReplayed}
use Rattle.serial_model.proofs.legal.replay.Given as goal

abbrev pub invariant-loop-at : goal.invariant-loop-at
invariant-loop-at l = AreReplayed (rows_of l.start) l.table (take l.at l.entries)
