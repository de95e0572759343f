use Rattle.std.proofs.Common.{ap, sym, ◌∙◌}
use Rattle.tc_block.specs.Live.{place_in}
use Rattle.tc_block.proofs.LiveLemmas.{first_place}
use Rattle.tc_block.proofs.tc.Tc.place_of.Goals as goal

pub returns-in-Some-clause-place : goal.returns-in-Some-clause-place
returns-in-Some-clause-place c =
    sym (first_place c.self.inside.live.entries c.args.tx (c.in-Some.first.now, c.in-Some.field-0-1.now)
    (sym c.in-Some.ensures.entry) (sym c.if-is_same.ensures))
    ∙ ap (λ s. place_in s c.args.tx) c.self.view_is
