use Rattle.std.proofs.Common.{◌∙◌, ap}
use Rattle.shell_top.specs.Arranged.{arranged}
use Rattle.shell_top.specs.Subject.{subject_in}
use Rattle.shell_top.proofs.TakenLemmas.{lines_are}
use Rattle.world_views.specs.WorldOf.{whole_of}
use Rattle.shell_top.proofs.served.answers.Goals as goal

pub returns-clause-text : goal.returns-clause-text
returns-clause-text g c =
    let all = c.deref.ensures.value ∙ c.in_ok-replies.ensures.replies in
    lines_are c.arranged_lines.result (arranged c.subject_of.result c.deref.result.now)
    (arranged (subject_in c.args.command.now) (whole_of c.args.world.now.world).replies) c.arranged_lines.ensures
    (ap (λ subject. arranged subject c.deref.result.now) c.subject_of.ensures
    ∙ ap (arranged (subject_in c.args.command.now)) all)
