use Rattle.std.proofs.Common.{[], ◌∷◌, ◌∙◌}
use Rattle.sig_core.specs.declared.request.ApiReq.TheVariants.{Waits, Pending}
use Rattle.world_views.specs.WorldOf.{whole_of}
use Rattle.shell_top.proofs.ServedLemmas.{both_ok, first_err, on_err, second_err, served_sound}
use Rattle.shell_top.proofs.OnDisksLemmas.{lives_both}
use Rattle.shell_top.proofs.SeenLemmas.{world_grown}
use Rattle.shell_top.proofs.asked.ask_questions.Goals as goal

pub returns-in_err-ask-clause-err : goal.returns-in_err-ask-clause-err
returns-in_err-ask-clause-err g c =
    on_err c.from_residual.result (first_err g.start (Waits ∷ []) (Pending ∷ []) (whole_of c.args.world.now.world)
    (whole_of c.ask.new.world.world) c.in_err-ask.ensures.err)

pub ask-requires-2 : goal.ask-requires-2
ask-requires-2 g c lives outlive = (
  outlive.0,
  (
    outlive.1,
    (
      served_sound g.start (Waits ∷ []) (whole_of c.args.world.now.world)
          (whole_of c.ask.new.world.world) c.in_ok-ask.ensures.ok c.requires.1.1,
      tt,
    ),
  ),
)

pub returns-clause-ok : goal.returns-clause-ok
returns-clause-ok g c =
    both_ok g.start (Waits ∷ []) (Pending ∷ []) c.ask-2.result (whole_of c.args.world.now.world)
    (whole_of c.ask.new.world.world)
    (whole_of c.ask-2.new.world.world)
    c.in_ok-ask.ensures.ok c.ask-2.ensures.ok

pub returns-clause-err : goal.returns-clause-err
returns-clause-err g c =
    second_err g.start (Waits ∷ []) (Pending ∷ []) c.ask-2.result (whole_of c.args.world.now.world)
    (whole_of c.ask.new.world.world)
    (whole_of c.ask-2.new.world.world)
    c.in_ok-ask.ensures.ok c.ask-2.ensures.err

pub returns-clause-setting : goal.returns-clause-setting
returns-clause-setting g c = c.ask-2.ensures.setting ∙ c.ask.ensures.setting

pub returns-clause-grown : goal.returns-clause-grown
returns-clause-grown g c =
    world_grown g.D.Disk.told g.D.Disk.faults c.args.world.now c.ask.new.world c.ask-2.new.world
    c.ask.ensures.grown c.ask-2.ensures.grown

pub returns-clause-lived : goal.returns-clause-lived
returns-clause-lived g c =
    lives_both g.start g.D.Disk.told c.ask-2.result c.args.world.now c.ask.new.world c.ask-2.new.world
    c.in_ok-ask.ensures.lived c.ask-2.ensures.lived
