use Rattle.std.proofs.Common.{ap, ◌∙◌}
use Rattle.shell_top.specs.Arranged.{arranged}
use Rattle.shell_top.specs.Subject.{subject_in}
use Rattle.shell_top.specs.Text.{reply_lines}
use Rattle.world_views.specs.World.{Whole, is_down}
use Rattle.world_views.specs.WorldOf.{whole_of}
use Rattle.shell_top.proofs.ServedLemmas.{down_behind, gone_sound, left_about, left_gone, left_own, on_err, own_sound}
use Rattle.shell_top.proofs.ServedLemmas.{serves, told_world}
use Rattle.shell_top.proofs.OnDisksLemmas.{lives_then}
use Rattle.shell_top.proofs.SeenLemmas.{thrice_grown, world_grown}
use Rattle.shell_top.proofs.served.serve.Goals as goal

pub returns-in_err-ask_own-clause-err : goal.returns-in_err-ask_own-clause-err
returns-in_err-ask_own-clause-err g c =
    on_err c.from_residual.result (left_own g.start c.args.command.now (whole_of c.args.world.now.world)
    c.ask_own.new.world.world.logs c.requires.1.1.1.0 c.in_err-ask_own.ensures.err)

pub ask_about-requires : goal.ask_about-requires
ask_about-requires g c lives outlive = (
  outlive.0,
  (
    outlive.1,
    own_sound g.start c.args.command.now (whole_of c.args.world.now.world)
        (whole_of c.ask_own.new.world.world) c.requires.1.1.0 c.in_ok-ask_own.ensures.ok,
  ),
)

pub returns-in_err-ask_about-clause-err : goal.returns-in_err-ask_about-clause-err
returns-in_err-ask_about-clause-err g c =
    on_err c.from_residual-in_err-ask_about.result
    (left_about g.start c.args.command.now (whole_of c.args.world.now.world) (whole_of c.ask_own.new.world.world)
    c.ask_about.new.world.world.logs c.requires.1.1.1.0 c.requires.1.1.0 c.in_ok-ask_own.ensures.ok
    c.in_err-ask_about.ensures.opened c.in_err-ask_about.ensures.err)

pub returns-in_err-ask_about-clause-setting : goal.returns-in_err-ask_about-clause-setting
returns-in_err-ask_about-clause-setting g c = c.ask_about.ensures.setting ∙ c.ask_own.ensures.setting

pub returns-in_err-ask_about-clause-grown : goal.returns-in_err-ask_about-clause-grown
returns-in_err-ask_about-clause-grown g c =
    world_grown g.D.Disk.told g.D.Disk.faults c.args.world.now c.ask_own.new.world c.ask_about.new.world
    c.ask_own.ensures.grown c.ask_about.ensures.grown

pub answers-requires : goal.answers-requires
answers-requires g c lives outlive = (
  outlive,
  gone_sound g.start c.args.command.now (whole_of c.args.world.now.world) (whole_of c.ask_own.new.world.world)
      (whole_of c.ask_about.new.world.world) c.requires.1.1.0 c.in_ok-ask_own.ensures.ok
      c.in_ok-ask_about.ensures.ok,
)

pub returns-in_err-text-clause-err : goal.returns-in_err-text-clause-err
returns-in_err-text-clause-err g c =
    on_err c.from_residual-in_err-text.result
    (left_gone g.start c.args.command.now (whole_of c.args.world.now.world) (whole_of c.ask_own.new.world.world)
    (whole_of c.ask_about.new.world.world) c.answers.new.world.world.logs c.requires.1.1.1.0 c.requires.1.1.0
    c.in_ok-ask_own.ensures.ok
    c.in_ok-ask_about.ensures.ok c.in_err-text.ensures.err)

pub returns-in_err-text-clause-setting : goal.returns-in_err-text-clause-setting
returns-in_err-text-clause-setting g c =
    c.answers.ensures.setting ∙ c.ask_about.ensures.setting ∙ c.ask_own.ensures.setting

pub returns-in_err-text-clause-grown : goal.returns-in_err-text-clause-grown
returns-in_err-text-clause-grown g c =
    thrice_grown g.D.Disk.told g.D.Disk.faults c.args.world.now c.ask_own.new.world c.ask_about.new.world
    c.answers.new.world c.ask_own.ensures.grown c.ask_about.ensures.grown c.answers.ensures.grown

pub is_down-requires : goal.is_down-requires
is_down-requires g c =
    told_world g.start c.args.command.now (whole_of c.args.world.now.world) (whole_of c.ask_own.new.world.world)
    (whole_of c.ask_about.new.world.world) (whole_of c.answers.new.world.world) c.requires.1.1.0
    c.in_ok-ask_own.ensures.ok
    c.in_ok-ask_about.ensures.ok c.in_ok-text.ensures.told

pub returns-in_err-extend_from_slice-clause-err : goal.returns-in_err-extend_from_slice-clause-err
returns-in_err-extend_from_slice-clause-err g c =
    on_err c.from_residual-in_err-extend_from_slice.result
    (left_gone g.start c.args.command.now (whole_of c.args.world.now.world) (whole_of c.ask_own.new.world.world)
    (whole_of c.ask_about.new.world.world) c.answers.new.world.world.logs c.requires.1.1.1.0 c.requires.1.1.0
    c.in_ok-ask_own.ensures.ok
    c.in_ok-ask_about.ensures.ok (ap (λ (x : Whole). x.logs) c.in_ok-text.ensures.told))

pub returns-in_err-extend_from_slice-clause-setting : goal.returns-in_err-extend_from_slice-clause-setting
returns-in_err-extend_from_slice-clause-setting g c =
    c.answers.ensures.setting ∙ c.ask_about.ensures.setting ∙ c.ask_own.ensures.setting

pub returns-in_err-extend_from_slice-clause-grown : goal.returns-in_err-extend_from_slice-clause-grown
returns-in_err-extend_from_slice-clause-grown g c =
    thrice_grown g.D.Disk.told g.D.Disk.faults c.args.world.now c.ask_own.new.world c.ask_about.new.world
    c.answers.new.world c.ask_own.ensures.grown c.ask_about.ensures.grown c.answers.ensures.grown

pub returns-clause-setting : goal.returns-clause-setting
returns-clause-setting g c =
    c.answers.ensures.setting ∙ c.ask_about.ensures.setting ∙ c.ask_own.ensures.setting

pub returns-clause-grown : goal.returns-clause-grown
returns-clause-grown g c =
    thrice_grown g.D.Disk.told g.D.Disk.faults c.args.world.now c.ask_own.new.world c.ask_about.new.world
    c.answers.new.world c.ask_own.ensures.grown c.ask_about.ensures.grown c.answers.ensures.grown

pub returns-clause-ok : goal.returns-clause-ok
returns-clause-ok g c =
    serves g.start c.args.command.now (whole_of c.args.world.now.world) (whole_of c.ask_own.new.world.world)
    (whole_of c.ask_about.new.world.world) (whole_of c.answers.new.world.world) c.extend_from_slice.new.self.items
    c.requires.1.1.1.0
    c.requires.1.1.1.1.0 c.requires.1.1.0 c.in_ok-ask_own.ensures.ok c.in_ok-ask_about.ensures.ok
    c.in_ok-text.ensures.told
    (down_behind (reply_lines (arranged (subject_in c.args.command.now) (whole_of c.ask_about.new.world.world).replies))
    c.in_ok-text.text.items c.down_line.result.now c.extend_from_slice.new.self.items c.is_down-was_down.result
    c.is_down.result (is_down (whole_of c.args.world.now.world)) (is_down (whole_of c.answers.new.world.world))
    c.in_ok-extend_from_slice.ensures.items c.in_ok-text.ensures.text c.down_line.ensures c.is_down-was_down.ensures
    c.is_down.ensures)

pub returns-clause-lived : goal.returns-clause-lived
returns-clause-lived g c =
    lives_then g.start g.D.Disk.told c.args.world.now c.ask_about.new.world c.answers.new.world
    (lives_then g.start g.D.Disk.told c.args.world.now c.ask_own.new.world c.ask_about.new.world
    c.in_ok-ask_own.ensures.lived c.in_ok-ask_about.ensures.lived)
    c.in_ok-text.ensures.lived
