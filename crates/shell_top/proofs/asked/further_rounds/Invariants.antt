use Rattle.std.proofs.Common.{◌≡◌}
use Rattle.shell_top.specs.Asked.{AreAskedUp, rounds_behind}
use Rattle.shell_top.specs.OnDisks.{LivesOn}
use Rattle.shell_top.specs.Seen.{HasGrown, seen_on}
use Rattle.shell_top.specs.Served.{HasServed}
use Rattle.shell_top.specs.Setting.{setting_of}
use Rattle.world_core.specs.World.{logs_at}
use Rattle.world_views.specs.Driven.{IsSound}
use Rattle.world_views.specs.WorldOf.{whole_of}
use Rattle.shell_top.proofs.asked.further_rounds.Given as goal

-- the rounds so far were served, each of a cluster that wasn't down, in the same life, which goes on with its disks,
-- and these tell more
abbrev pub invariant-loop-behind : goal.invariant-loop-behind
invariant-loop-behind g l = record {
  served : HasServed g.start (rounds_behind l.rounds l.behind) (whole_of l.initial.world.world)
      (whole_of l.world.world);
  up : AreAskedUp g.start (rounds_behind l.rounds l.behind) (logs_at (whole_of l.world.world).logs 0)
      (logs_at (whole_of l.initial.world.world).logs 0);
  sound : IsSound g.start (whole_of l.world.world);
  setting : setting_of l.world ≡ setting_of l.initial.world;
  grown : HasGrown (seen_on g.D.Disk.told g.D.Disk.faults l.initial.world.disks.items)
      (seen_on g.D.Disk.told g.D.Disk.faults l.world.disks.items);
  lived : LivesOn g.start g.D.Disk.told l.initial.world l.world;
}

abbrev pub ghost-ask : goal.ghost-ask
ghost-ask g a = g.start
