use Rattle.std.proofs.Common.{◌∙◌}
use Rattle.sys_restart.proofs.PrepareLemmas.{next_written}
use Rattle.sys_restart.proofs.prepare.prepare_at.Goals as goal

pub returns-in-Ok-clause-runs : goal.returns-in-Ok-clause-runs
returns-in-Ok-clause-runs g c = λ calls told are.
    next_written calls c.args.shape.now c.args.node c.args.restored.now c.args.places.now c.as_slice.result.now
    (g.D.Disk.told c.write_next.new.disk) c.write_next.result are (c.as_slice.ensures.value ∙ c.in-Ok.ensures)
    (c.write_next.ensures.runs calls told)

pub returns-in-Err-clause-runs : goal.returns-in-Err-clause-runs
returns-in-Err-clause-runs g c = λ calls told are. told
