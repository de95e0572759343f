use Rattle.std.proofs.Common.{◌∙◌, ap, subst, sym}
use Rattle.std.specs.Prelude.{IfNone, is_some}
use Rattle.shell_top.specs.Lives.{disks_of, now_of}
use Rattle.shell_top.specs.OnDisks.{LivesOn, UnlessWanting}
use Rattle.shell_top.specs.Seen.{seen_on}
use Rattle.shell_top.specs.Served.{PrintsCommand}
use Rattle.shell_top.proofs.KeptLemmas.{goes_where, may_ask, sound_within, still_sound}
use Rattle.shell_top.proofs.ObeyLemmas.{obeys_refused, obeys_within}
use Rattle.world_core.specs.Start.{Start}
use Rattle.world_views.specs.Driven.{IsSound}
use Rattle.world_views.specs.WorldOf.{whole_of}
use Rattle.shell_top.proofs.lives.Lives.serve.Goals as goal

pub serve_command-requires : goal.serve_command-requires
serve_command-requires g c lives outlive = (
  outlive.0,
  (
    outlive.1.0,
    (
      outlive.1.1,
      (
        subst (λ (start : Start). IsSound start (whole_of c.in-Some.world.world)) (sym c.requires.1.1.1.0)
            (sound_within c.args.self.now c.in-Some.world c.in-Some.is c.requires.1.1.1.1.1.0),
        (
          c.requires.1.1.1.1.1.1.0,
          (
            may_ask c.args.self.now c.in-Some.world c.in-Some.is c.args.command.now c.requires.1.1.1.1.1.1.1.0,
            c.requires.1.1.1.1.1.1.1.1,
          ),
        ),
      ),
    ),
  ),
)

pub returns-in-Some-clause-obeyed : goal.returns-in-Some-clause-obeyed
returns-in-Some-clause-obeyed g c =
    let w = c.in-Some.world in
    let t = c.serve_command.new.world in
    obeys_within g.D.Disk.told g.D.Disk.faults c.args.self.now c.requires.1.1.1.1.0.shape w t c.in-Some.is
    c.serve_command.ensures.setting c.serve_command.ensures.grown c.args.command.now
    (g.K.Sink.written c.args.sink.now) (g.K.Sink.written c.serve_command.new.sink) c.serve_command.result
    (subst (λ (start : Start). UnlessWanting c.serve_command.result (LivesOn start g.D.Disk.told w t))
    c.requires.1.1.1.0 c.serve_command.ensures.lived)
    (subst
    (λ (start : Start).
    PrintsCommand start c.args.command.now (whole_of w.world) (whole_of t.world) c.serve_command.result
    (g.K.Sink.written c.args.sink.now) (g.K.Sink.written c.serve_command.new.sink))
    c.requires.1.1.1.0 c.serve_command.ensures.printed)

pub returns-in-Some-clause-going : goal.returns-in-Some-clause-going
returns-in-Some-clause-going g c =
    let t = c.serve_command.new.world in
    still_sound c.args.self.now c.in-Some.world c.in-Some.is t c.serve_command.ensures.setting c.serve_command.result
    (subst (λ (start : Start). IfNone c.serve_command.result (IsSound start (whole_of t.world))) c.requires.1.1.1.0
    c.serve_command.ensures.opened)

pub returns-in-None-clause-obeyed : goal.returns-in-None-clause-obeyed
returns-in-None-clause-obeyed g c =
    let old = c.args.self.now in
    obeys_refused old.shape c.requires.1.1.1.1.0.shape old.ended.items (g.K.Sink.written c.args.sink.now)
    (g.K.Sink.written c.tell.new.sink) c.tell.result c.args.command.now
    (seen_on g.D.Disk.told g.D.Disk.faults (disks_of old)) (now_of old)
    (goes_where old.shape old.world ∙ ap is_some c.in-None.is) c.tell.ensures.told
