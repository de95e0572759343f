use Rattle.std.proofs.Common.{◌∙◌, arith, subst}
use Rattle.shell_top.specs.Lives.{disks_of}
use Rattle.shell_top.specs.Seen.{seen_on}
use Rattle.shell_top.specs.Session.{AreLinesDone, lives_in}
use Rattle.shell_top.proofs.session.Session.run.Goals as goal

pub returns-in-Some-clause-done : goal.returns-in-Some-clause-done
returns-in-Some-clause-done g c left written given at =
    let before = c.lines.invariant.under_way left written given at in
    subst (λ shape. AreLinesDone shape left (g.S.Source.left c.next_line.new.source) written
    (g.K.Sink.written c.next_line.new.sink) given
    (seen_on g.D.Disk.told g.D.Disk.faults (disks_of c.next_line.new.self.lives)) c.in-Some.ending
    (lives_in c.next_line.new.self)) before.0 (c.in-Some.ensures.done left written given before.1)

pub lines-preserved : goal.lines-preserved
lines-preserved g c =
    record {
      under_way = λ left written given at.
          let before = c.lines.invariant.under_way left written given at in
          let next = c.in_default.ensures.done left written given before.1 in
          (next.0 ∙ before.0, next.1);
      shape = c.next_line.ensures.shape ∙ c.lines.invariant.shape;
      kept = c.next_line.ensures.kept;
      going = c.in_default.ensures.going;
      read_steady = omega (arith, c.lines.invariant.read_steady, c.in_default.ensures.read_steady);
      write_steady = omega (arith, c.lines.invariant.write_steady, c.in_default.ensures.write_steady);
    }
