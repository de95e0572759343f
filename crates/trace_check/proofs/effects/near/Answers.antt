use Rattle.std.proofs.Common.{◌-◌}
use Rattle.trace_check.proofs.HistoryLemmas.{part_shows}
use Rattle.trace_check.proofs.effects.near.Goals as goal

pub returns : goal.returns
returns c = λ test shown.
    part_shows test c.args.steps.now c.partition_point-from.result
    (c.min-to.result - c.partition_point-from.result) shown
