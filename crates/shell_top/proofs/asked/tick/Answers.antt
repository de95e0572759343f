use Rattle.std.proofs.Common.{[], ◌∷◌, ◌-◌, ◌∙◌}
use Rattle.sig_core.specs.declared.request.ApiReq.TheVariants.{Tick}
use Rattle.shell_top.specs.Asked.{rounds_behind}
use Rattle.world_views.specs.WorldOf.{whole_of}
use Rattle.shell_top.proofs.RoundLemmas.{tick_ok}
use Rattle.shell_top.proofs.ServedLemmas.{first_err, on_err, second_err, served_sound}
use Rattle.shell_top.proofs.OnDisksLemmas.{lives_both}
use Rattle.shell_top.proofs.SeenLemmas.{world_grown}
use Rattle.shell_top.proofs.asked.tick.Goals as goal

pub returns-in_err-ask-clause-err : goal.returns-in_err-ask-clause-err
returns-in_err-ask-clause-err g c =
    on_err c.from_residual.result
    (first_err g.start (Tick 1 c.args.rounds ∷ []) (rounds_behind c.args.rounds (c.args.rounds - 1))
    (whole_of c.args.world.now.world) (whole_of c.ask.new.world.world) c.in_err-ask.ensures.err)

pub further_rounds-requires : goal.further_rounds-requires
further_rounds-requires g c lives outlive = (
  outlive.0,
  (
    outlive.1,
    served_sound g.start (Tick 1 c.args.rounds ∷ []) (whole_of c.args.world.now.world) (whole_of c.ask.new.world.world)
        c.in_ok-ask.ensures.ok c.requires.1.1,
  ),
)

pub returns-clause-ok : goal.returns-clause-ok
returns-clause-ok g c =
    tick_ok g.start c.args.rounds c.further_rounds.result (whole_of c.args.world.now.world)
    (whole_of c.ask.new.world.world)
    (whole_of c.further_rounds.new.world.world) c.in_ok-ask.ensures.ok c.further_rounds.ensures.ok

pub returns-clause-err : goal.returns-clause-err
returns-clause-err g c =
    second_err g.start (Tick 1 c.args.rounds ∷ []) (rounds_behind c.args.rounds (c.args.rounds - 1))
    c.further_rounds.result (whole_of c.args.world.now.world) (whole_of c.ask.new.world.world)
    (whole_of c.further_rounds.new.world.world) c.in_ok-ask.ensures.ok c.further_rounds.ensures.err

pub returns-clause-setting : goal.returns-clause-setting
returns-clause-setting g c = c.further_rounds.ensures.setting ∙ c.ask.ensures.setting

pub returns-clause-grown : goal.returns-clause-grown
returns-clause-grown g c =
    world_grown g.D.Disk.told g.D.Disk.faults c.args.world.now c.ask.new.world c.further_rounds.new.world
    c.ask.ensures.grown c.further_rounds.ensures.grown

pub returns-clause-lived : goal.returns-clause-lived
returns-clause-lived g c =
    lives_both g.start g.D.Disk.told c.further_rounds.result c.args.world.now c.ask.new.world c.further_rounds.new.world
    c.in_ok-ask.ensures.lived c.further_rounds.ensures.lived
