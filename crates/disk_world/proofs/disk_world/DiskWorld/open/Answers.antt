use Rattle.std.proofs.Common.{map, refl, rules}
use Rattle.life_start.specs.Shapes.{HaveShape}
use Rattle.sys_restart.specs.ReadyDisks.{AreReady}
use Rattle.world_views.specs.WorldOf.{whole_of}
use Rattle.disk_world.specs.Starting.{start_from}
use Rattle.disk_world.proofs.OpenLemmas.{opened_so, opened_world, written_back}
use Rattle.disk_world.proofs.disk_world.DiskWorld.open.Goals as goal

pub returns-in-Ok-clause-is : goal.returns-in-Ok-clause-is
returns-in-Ok-clause-is g c =
    opened_world c.started.result (λ w. whole_of w.world) (λ w. start_from c.args.shape w.start w.rows.items)
    (λ w. refl) c.started.ensures.world

-- the disks are as they were made ready
pub returns-in-Ok-clause-ready : goal.returns-in-Ok-clause-ready
returns-in-Ok-clause-ready g c = λ records restored told may.
    opened_so c.started.result (λ w. w.disks) _ (λ disks. disks.items) (map g.D.Disk.told)
    (AreReady c.args.shape restored) c.started.ensures.disks (written_back c.begin_life.new.disks _ _ (search rules))
    (c.in-Ok.ensures.ready records restored (search rules) may)

pub returns-in-Ok-clause-shapes : goal.returns-in-Ok-clause-shapes
returns-in-Ok-clause-shapes g c = λ records restored told may.
    opened_so c.started.result (λ w. w.disks) _ (λ disks. disks.items) (map g.D.Disk.told) (HaveShape c.args.shape)
    c.started.ensures.disks (written_back c.begin_life.new.disks _ _ (search rules))
    (c.in-Ok.ensures.shapes records restored (search rules) may)
