use Rattle.std.proofs.Common.{◌∙◌, ap}
use Rattle.sys_restart.specs.Outdated.{are_ahead}
use Rattle.sys_restart.proofs.outdated.ahead_beside.Goals as goal

pub returns-in-Ok-clause-read : goal.returns-in-Ok-clause-read
returns-in-Ok-clause-read g c = λ calls told.
    c.are_ahead.ensures ∙ ap (are_ahead c.args.system.now.epoch c.args.one) (c.in-Ok.ensures.read calls told)
