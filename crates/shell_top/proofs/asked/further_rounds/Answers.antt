use Rattle.std.proofs.Common.{◌≡◌, [], ◌∷◌, ◌-◌, ◌+◌, arith, refl, sym, ◌∙◌}
use Rattle.std.proofs.lemmas.Bool.Decides.{nat_tests}
use Rattle.sig_core.specs.declared.request.ApiReq.TheVariants.{Tick}
use Rattle.world_views.specs.WorldOf.{whole_of}
use Rattle.shell_top.proofs.RoundLemmas.{round_left, round_served, round_up, rounds_all, rounds_until}
use Rattle.shell_top.proofs.ServedLemmas.{none_served, on_err, served_sound}
use Rattle.shell_top.proofs.OnDisksLemmas.{lives_then}
use Rattle.shell_top.proofs.SeenLemmas.{grown_itself, seen_in, world_grown}
use Rattle.shell_top.proofs.asked.further_rounds.Goals as goal

pub loop-behind-init : goal.loop-behind-init
loop-behind-init g c =
    record {
      served = none_served g.start (whole_of c.args.world.now.world);
      up = refl;
      sound = c.requires.1.1;
      setting = refl;
      grown = grown_itself (seen_in g.D.Disk.told g.D.Disk.faults c.args.world.now);
      lived = λ r was. was;
    }

pub is_down-requires : goal.is_down-requires
is_down-requires g c = record { start = g.start; sound = c.loop-behind.invariant.sound }

pub returns-in_err-ask-clause-err : goal.returns-in_err-ask-clause-err
returns-in_err-ask-clause-err g c =
    on_err c.from_residual.result
    (round_left g.start c.args.rounds c.loop-behind.behind (c.args.rounds - 1) (whole_of c.args.world.now.world)
    (whole_of c.loop-behind.world.world) c.ask.new.world.world.logs
    (grind (arith, nat_tests, c.loop-behind-test.true, c.saturating_sub-behind-end.ensures))
    c.loop-behind.invariant.served c.in_err-ask.ensures.err)

pub loop-behind-preserved : goal.loop-behind-preserved
loop-behind-preserved g c =
    record {
      served = round_served g.start c.args.rounds c.loop-behind.behind (whole_of c.args.world.now.world)
          (whole_of c.loop-behind.world.world) (whole_of c.ask.new.world.world)
          c.loop-behind.invariant.served c.in_ok-ask.ensures.ok;
      up = round_up g.start c.args.rounds c.loop-behind.behind (whole_of c.args.world.now.world)
          (whole_of c.loop-behind.world.world) (whole_of c.ask.new.world.world) c.loop-behind.invariant.up
          c.loop-behind.invariant.sound (sym c.is_down.ensures ∙ c.if-is_down.false) c.in_ok-ask.ensures.ok;
      sound = served_sound g.start (Tick (c.loop-behind.behind + 2) c.args.rounds ∷ [])
          (whole_of c.loop-behind.world.world)
          (whole_of c.ask.new.world.world) c.in_ok-ask.ensures.ok
          c.loop-behind.invariant.sound;
      setting = c.ask.ensures.setting ∙ c.loop-behind.invariant.setting;
      grown = world_grown g.D.Disk.told g.D.Disk.faults c.args.world.now c.loop-behind.world c.ask.new.world
          c.loop-behind.invariant.grown c.ask.ensures.grown;
      lived = lives_then g.start g.D.Disk.told c.args.world.now c.loop-behind.world c.ask.new.world
          c.loop-behind.invariant.lived c.in_ok-ask.ensures.lived;
    }

pub returns-in_err-ask-clause-setting : goal.returns-in_err-ask-clause-setting
returns-in_err-ask-clause-setting g c = c.ask.ensures.setting ∙ c.loop-behind.invariant.setting

pub returns-in_err-ask-clause-grown : goal.returns-in_err-ask-clause-grown
returns-in_err-ask-clause-grown g c =
    world_grown g.D.Disk.told g.D.Disk.faults c.args.world.now c.loop-behind.world c.ask.new.world
    c.loop-behind.invariant.grown c.ask.ensures.grown

pub returns-then-is_down-clause-ok : goal.returns-then-is_down-clause-ok
returns-then-is_down-clause-ok g c =
    rounds_until g.start c.args.rounds c.loop-behind.behind (c.args.rounds - 1) (whole_of c.args.world.now.world)
    (whole_of c.loop-behind.world.world)
    (grind (arith, nat_tests, c.loop-behind-test.true, c.saturating_sub-behind-end.ensures))
    c.loop-behind.invariant.sound (sym c.is_down.ensures ∙ c.if-is_down.true) c.loop-behind.invariant.served
    c.loop-behind.invariant.up

pub returns-clause-ok : goal.returns-clause-ok
returns-clause-ok g c =
    let all : c.loop-behind.behind ≡ c.args.rounds - 1 =
    omega (arith, c.loop-behind-test.false, c.loop-behind.auto.behind-end, c.saturating_sub-behind-end.ensures) in
    rounds_all g.start c.args.rounds c.loop-behind.behind (c.args.rounds - 1) (whole_of c.args.world.now.world)
    (whole_of c.loop-behind.world.world) all c.loop-behind.invariant.served c.loop-behind.invariant.up
