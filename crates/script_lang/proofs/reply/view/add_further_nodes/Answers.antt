use Rattle.std.proofs.Common.{◌∙◌, ap, ◌++◌}
use Rattle.script_lang.proofs.TextLemmas.{moved, further_nodes-next}
use Rattle.script_lang.proofs.reply.view.add_further_nodes.Goals as goal

pub loop-member-preserved : goal.loop-member-preserved
loop-member-preserved c =
    moved c.loop-member.line.items _ _
    (c.in_ok-add.ensures ∙ ap (λ words. c.loop-member.line.items ++ words)
    (c.deref.ensures ∙ c.in_ok-format.ensures.ok))
    (further_nodes-next c.args.members.now c.loop-member.member-index _ c.loop-member-test.true)
    c.loop-member.invariant
