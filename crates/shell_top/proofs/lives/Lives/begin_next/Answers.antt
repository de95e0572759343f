use Rattle.shell_top.proofs.NextLemmas.{begun_obeys, unopened_obeys}
use Rattle.shell_top.proofs.lives.Lives.begin_next.Goals as goal

pub returns-in-None-clause-obeyed : goal.returns-in-None-clause-obeyed
returns-in-None-clause-obeyed g c =
    begun_obeys g.D.Disk.told g.D.Disk.faults c.args.self.now c.requires.kept.shape
    (g.K.Sink.written c.args.sink.now) (g.K.Sink.written c.tell_restarted.new.sink) c.tell_restarted.result
    c.power_off.new.self c.open.new.self c.power_off.ensures.shape c.power_off.ensures.ended c.power_off.ensures.lost
    c.requires.down c.in-None.ensures.shape c.in-None.ensures.ended c.in-None.ensures.grown c.in-None.ensures.begun
    c.tell_restarted.ensures.told

pub returns-in_default-clause-obeyed : goal.returns-in_default-clause-obeyed
returns-in_default-clause-obeyed g c =
    unopened_obeys g.D.Disk.told g.D.Disk.faults c.args.self.now c.requires.kept.shape
    (g.K.Sink.written c.args.sink.now) (g.K.Sink.written c.args.sink.now) c.open.result c.power_off.new.self
    c.open.new.self c.power_off.ensures.shape c.power_off.ensures.ended c.power_off.ensures.lost c.requires.down
    c.open.ensures.shape c.open.ensures.ended c.open.ensures.grown c.open.result c.in_default.not-None
    c.open.ensures.refused
