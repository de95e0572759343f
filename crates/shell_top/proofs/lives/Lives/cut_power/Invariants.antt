use Rattle.shell_top.specs.Seen.{seen_on}
use Rattle.shell_top.proofs.CutLemmas.{AreCut}
use Rattle.shell_top.proofs.lives.Lives.cut_power.Given as goal

-- the power of the disks so far is cut
abbrev pub invariant-loop-disk : goal.invariant-loop-disk
invariant-loop-disk g l =
    AreCut (seen_on g.D.Disk.told g.D.Disk.faults l.initial.disk-items)
    (seen_on g.D.Disk.told g.D.Disk.faults l.disk-items) l.disk-index
