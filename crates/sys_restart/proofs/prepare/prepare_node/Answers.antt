use Rattle.sys_restart.proofs.AnswerLemmas.{keeps_by, prepared_by}
use Rattle.sys_restart.proofs.KeepsLemmas.{HasNumbers}
use Rattle.sys_restart.proofs.prepare.prepare_node.Goals as goal

pub returns-clause-stands : goal.returns-clause-stands
returns-clause-stands g c = λ calls now told told_now.
    let numbers : HasNumbers c.args.restored.now =
    record {
      generation = c.numbers_fit.ensures.generation;
      epoch = c.numbers_fit.ensures.epoch;
      unused = c.requires.unused;
    } in
    keeps_by calls now c.args.shape c.args.node c.args.restored.now (g.D.Disk.told c.prepare_disk.new.disk) told_now
    numbers
    c.prepare_disk.result (c.prepare_disk.ensures.runs calls told)

pub returns-clause-prepared : goal.returns-clause-prepared
returns-clause-prepared g c = λ calls now told told_now.
    let numbers : HasNumbers c.args.restored.now =
    record {
      generation = c.numbers_fit.ensures.generation;
      epoch = c.numbers_fit.ensures.epoch;
      unused = c.requires.unused;
    } in
    prepared_by calls now c.args.shape c.args.node c.args.restored.now (g.D.Disk.told c.prepare_disk.new.disk) told_now
    numbers c.checkpoints_are_read.ensures c.prepare_disk.result (c.prepare_disk.ensures.runs calls told)
