use Rattle.sys_restart.proofs.AnswerLemmas.{names_by, ready_by}
use Rattle.sys_restart.proofs.KeepsLemmas.{HasNumbers}
use Rattle.sys_restart.proofs.name.name_node.Goals as goal

pub returns-clause-stands : goal.returns-clause-stands
returns-clause-stands g c = λ calls now told told_now.
    let numbers : HasNumbers c.args.restored.now =
    record {
      generation = c.numbers_fit.ensures.generation;
      epoch = c.numbers_fit.ensures.epoch;
      unused = c.requires.unused;
    } in
    names_by calls now c.args.shape c.args.node c.args.restored.now (g.D.Disk.told c.name_disk.new.disk) told_now
    numbers
    c.requires.shape c.name_disk.result (c.name_disk.ensures.runs calls told)

pub returns-clause-named : goal.returns-clause-named
returns-clause-named g c = λ calls now told told_now.
    let numbers : HasNumbers c.args.restored.now =
    record {
      generation = c.numbers_fit.ensures.generation;
      epoch = c.numbers_fit.ensures.epoch;
      unused = c.requires.unused;
    } in
    ready_by calls now c.args.shape c.args.node c.args.restored.now (g.D.Disk.told c.name_disk.new.disk) told_now
    numbers
    c.requires.shape c.name_disk.result (c.name_disk.ensures.runs calls told)
