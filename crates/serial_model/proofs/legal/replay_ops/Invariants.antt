use Rattle.std.proofs.Common.{take}
use Rattle.serial_model.proofs.LegalLemmas.{IsReplayed}
use Rattle.serial_model.proofs.legal.replay_ops.Given as goal

abbrev pub invariant-loop-at : goal.invariant-loop-at
invariant-loop-at l = IsReplayed l.initial.table l.table (take l.at l.ops)
