use Rattle.std.proofs.Common.{◌<◌, length, arith}
use Rattle.shell_top.proofs.CutLemmas.{as_many, cut_back, none_cut, one_more_cut}
use Rattle.shell_top.proofs.lives.Lives.cut_power.Goals as goal

-- none yet
pub loop-disk-init : goal.loop-disk-init
loop-disk-init g c = none_cut _

-- the next disk's
pub loop-disk-preserved : goal.loop-disk-preserved
loop-disk-preserved g c =
    let below : c.loop-disk.disk-index < length c.loop-disk.disk-items = omega arith in
    one_more_cut g.D.Disk.told g.D.Disk.faults _ c.loop-disk.disk-items c.loop-disk.disk-index c.disk-item.result
    c.cut_power.new.self below c.cut_power.ensures.cut c.loop-disk.invariant c.cut_power.ensures.steady

-- each disk's
pub returns-clause-lost : goal.returns-clause-lost
returns-clause-lost g c =
    cut_back g.D.Disk.told g.D.Disk.faults c.args.self.now.disks.items _ c.loop-disk.disk-items _
    c.args.self.now.disks.len c.deref_mut-disk-items.ensures.value c.loop-disk.auto.disk-items
    c.args.self.now.disks.ok.0 c.loop-disk.disk-index c.loop-disk.invariant c.loop-disk-test.false

pub returns-clause-disks : goal.returns-clause-disks
returns-clause-disks g c =
    as_many g.D.Disk.told g.D.Disk.faults c.args.self.now.disks.items _ c.loop-disk.disk-items _
    c.args.self.now.disks.len c.deref_mut-disk-items.ensures.value c.loop-disk.auto.disk-items
    c.args.self.now.disks.ok.0
