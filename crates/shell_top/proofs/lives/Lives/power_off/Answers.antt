use Rattle.std.proofs.Common.{rules, ◌≡◌, ◌∙◌, false, true}
use Rattle.std.specs.Prelude.{is_some}
use Rattle.shell_top.proofs.KeptLemmas.{goes_where}
use Rattle.shell_top.proofs.NextLemmas.{kept_power, lost_power}
use Rattle.shell_top.proofs.lives.Lives.power_off.Goals as goal

pub returns-then-is_none-clause-lost : goal.returns-then-is_none-clause-lost
returns-then-is_none-clause-lost g c =
    let none : is_some c.args.self.now.world ≡ false = search rules in
    kept_power g.D.Disk.told g.D.Disk.faults c.args.self.now none

pub returns-clause-lost : goal.returns-clause-lost
returns-clause-lost g c =
    let old = c.args.self.now in
    let some : is_some old.world ≡ true = search rules in
    lost_power g.D.Disk.told g.D.Disk.faults old c.cut_power.new.self c.end.new.self.disks.items c.end.ensures.disks
    (goes_where old.shape old.world ∙ some) c.cut_power.ensures.none c.cut_power.ensures.lost
