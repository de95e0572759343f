use Rattle.std.proofs.Common.{rules, ◌≡◌, ◌∙◌, false, true}
use Rattle.std.specs.Prelude.{is_some}
use Rattle.script_lang.specs.declared.command.Command.TheVariants as command
use Rattle.shell_top.specs.Lives.{disks_of, now_of}
use Rattle.shell_top.specs.Seen.{seen_on}
use Rattle.shell_top.proofs.KeptLemmas.{goes_where}
use Rattle.shell_top.proofs.NextLemmas.{crash_obeys}
use Rattle.shell_top.proofs.ObeyLemmas.{obeys_refused}
use Rattle.shell_top.proofs.lives.Lives.crash.Goals as goal

pub returns-then-is_none-clause-obeyed : goal.returns-then-is_none-clause-obeyed
returns-then-is_none-clause-obeyed g c =
    let old = c.args.self.now in
    let none : is_some old.world ≡ false = search rules in
    obeys_refused old.shape c.requires.kept.shape old.ended.items (g.K.Sink.written c.args.sink.now)
    (g.K.Sink.written c.tell.new.sink) c.tell.result command.Crash
    (seen_on g.D.Disk.told g.D.Disk.faults (disks_of old)) (now_of old)
    (goes_where old.shape old.world ∙ none)
    c.tell.ensures.told

pub returns-clause-obeyed : goal.returns-clause-obeyed
returns-clause-obeyed g c =
    let old = c.args.self.now in
    let some : is_some old.world ≡ true = search rules in
    crash_obeys g.D.Disk.told g.D.Disk.faults old c.requires.kept.shape (g.K.Sink.written c.args.sink.now)
    (g.K.Sink.written c.tell-2.new.sink) c.tell-2.result c.power_off.new.self
    (goes_where old.shape old.world ∙ some) c.power_off.ensures.ended c.power_off.ensures.none
    c.power_off.ensures.lost c.tell-2.ensures.told
