use Rattle.std.proofs.Common.{◌≡◌, ◌≤◌, ◌-◌}
use Rattle.std.specs.Prelude.{None}
use Rattle.shell_top.specs.Lives.{AreKept, IsGoing, disks_of, now_of}
use Rattle.shell_top.specs.Seen.{seen_on}
use Rattle.shell_top.specs.Session.{GoesOn}
use Rattle.shell_top.proofs.session.Session.run.Given as goal

-- the session is under way, and the counts of faults haven't fallen
abbrev pub invariant-lines : goal.invariant-lines
invariant-lines g l = record {
  under_way : GoesOn l.initial.self l.self (g.S.Source.left l.initial.source) (g.S.Source.left l.source)
      (g.K.Sink.written l.initial.sink) (g.K.Sink.written l.sink)
      (seen_on g.D.Disk.told g.D.Disk.faults (disks_of l.initial.self.lives))
      (seen_on g.D.Disk.told g.D.Disk.faults (disks_of l.self.lives)) None;
  shape : l.self.lives.shape ≡ l.initial.self.lives.shape;
  kept : AreKept l.self.lives;
  going : IsGoing (now_of l.self.lives);
  read_steady : g.S.Source.faults l.initial.source ≤ g.S.Source.faults l.source;
  write_steady : g.K.Sink.faults l.initial.sink ≤ g.K.Sink.faults l.sink;
}

-- each turn but the last passes a line
abbrev pub decreases-lines : goal.decreases-lines
decreases-lines g l = 65537 - l.self.line
