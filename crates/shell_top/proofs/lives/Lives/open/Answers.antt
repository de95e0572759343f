use Rattle.std.proofs.Common.{map, ap, subst, sym, ◌∙◌}
use Rattle.life_start.specs.Records.{AllTellMore}
use Rattle.shell_top.specs.Lives.{disks_of}
use Rattle.shell_top.specs.Seen.{HasGrown, seen_on}
use Rattle.shell_top.proofs.KeptLemmas.{disks_aside, goes_on, has_begun, none_goes, opened_with, unborn_by}
use Rattle.shell_top.proofs.OnDisksLemmas.{begun_lived}
use Rattle.shell_top.proofs.lives.Lives.open.Goals as goal

pub returns-in-Ok-clause-begun : goal.returns-in-Ok-clause-begun
returns-in-Ok-clause-begun g c =
    let same = opened_with g.D.Disk.told g.D.Disk.faults c.args.self.now c.requires.unopened c.replace-disks.result
    c.replace-disks.ensures.value in
    let as_told = ap (map g.D.Disk.told) same in
    let w = c.in-Ok.world in
    has_begun c.args.self.now.shape (map g.D.Disk.told (disks_of c.args.self.now))
    (map g.D.Disk.faults (disks_of c.args.self.now)) w c.in-Ok.ensures.world
    (seen_on g.D.Disk.told g.D.Disk.faults w.disks.items)
    (λ records all. c.in-Ok.ensures.begun records (as_told ∙ all))
    (begun_lived c.args.self.now.shape g.D.Disk.told (map g.D.Disk.told (disks_of c.args.self.now)) w
    c.in-Ok.ensures.world (λ records all. c.in-Ok.ensures.begun records (as_told ∙ all))
    (λ records r all. c.in-Ok.ensures.ready records r (as_told ∙ all))
    (λ records r all. c.in-Ok.ensures.shapes records r (as_told ∙ all)) c.in-Ok.ensures.slots c.in-Ok.ensures.count
    (subst (λ told. AllTellMore told (map g.D.Disk.told w.disks.items)) as_told c.in-Ok.ensures.recorded)
    (map g.D.Disk.faults (disks_of c.args.self.now)) g.D.Disk.faults)

pub returns-in-Ok-clause-going : goal.returns-in-Ok-clause-going
returns-in-Ok-clause-going g c =
    goes_on c.args.self.now.shape (map g.D.Disk.told (disks_of c.args.self.now))
    (map g.D.Disk.faults (disks_of c.args.self.now)) c.in-Ok.world c.in-Ok.ensures.world

pub returns-in-Ok-clause-grown : goal.returns-in-Ok-clause-grown
returns-in-Ok-clause-grown g c =
    let same = opened_with g.D.Disk.told g.D.Disk.faults c.args.self.now c.requires.unopened c.replace-disks.result
    c.replace-disks.ensures.value in
    subst
    (λ disks.
    HasGrown (seen_on g.D.Disk.told g.D.Disk.faults disks)
    (seen_on g.D.Disk.told g.D.Disk.faults c.in-Ok.world.disks.items))
    same (record { more = c.in-Ok.ensures.recorded; steady = c.in-Ok.ensures.steady })

pub returns-in-Err-clause-refused : goal.returns-in-Err-clause-refused
returns-in-Err-clause-refused g c =
    let now = record c.args.self.now { ended = c.reserve.new.self; disks = c.in-Err.unopened.disks } in
    record {
      none = none_goes now c.requires.unopened;
      unborn = unborn_by g.D.Disk.told g.D.Disk.faults c.args.self.now.shape c.replace-disks.result.items
          c.in-Err.unopened.disks.items (disks_of c.args.self.now) (disks_of now) c.in-Err.unopened.fault c.from.result
          (opened_with g.D.Disk.told g.D.Disk.faults c.args.self.now c.requires.unopened c.replace-disks.result
          c.replace-disks.ensures.value)
          (sym (disks_aside now c.requires.unopened)) c.from.ensures c.in-Err.ensures.cause c.in-Err.ensures.refused;
    }
