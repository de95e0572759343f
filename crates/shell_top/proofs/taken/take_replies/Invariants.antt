use Rattle.std.proofs.Common.{◌≡◌, ◌++◌, length}
use Rattle.shell_top.specs.OnDisks.{disks_told}
use Rattle.shell_top.specs.Seen.{HasGrown, seen_on}
use Rattle.shell_top.specs.Setting.{setting_of}
use Rattle.world_views.specs.WorldOf.{whole_of}
use Rattle.shell_top.proofs.TakenLemmas.{with_replies}
use Rattle.shell_top.proofs.taken.take_replies.Given as goal

-- The replies so far and those that are left are all, of the same life, whose disks tell what they told.
abbrev pub invariant-loop-reply : goal.invariant-loop-reply
invariant-loop-reply g l = record {
  setting : setting_of l.world ≡ setting_of l.initial.world;
  grown : HasGrown (seen_on g.D.Disk.told g.D.Disk.faults l.initial.world.disks.items)
      (seen_on g.D.Disk.told g.D.Disk.faults l.world.disks.items);
  disks : disks_told g.D.Disk.told l.world ≡ disks_told g.D.Disk.told l.initial.world;
  world : whole_of l.initial.world.world ≡ with_replies (whole_of l.world.world)
      (l.replies.items ++ (whole_of l.world.world).replies);
}

abbrev pub decreases-loop-reply : goal.decreases-loop-reply
decreases-loop-reply g l = length (whole_of l.world.world).replies
