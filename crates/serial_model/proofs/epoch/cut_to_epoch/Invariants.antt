use Rattle.std.proofs.Common.{◌≡◌, take}
use Rattle.serial_model.specs.Epoch.{up_to_epoch}
use Rattle.serial_model.proofs.epoch.cut_to_epoch.Given as goal

abbrev pub invariant-loop-entry : goal.invariant-loop-entry
invariant-loop-entry l = l.kept.items ≡ up_to_epoch l.epoch (take l.entry-index l.entries)
