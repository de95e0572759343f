use Rattle.std.proofs.Common.{◌≡◌, ◌++◌, drop}
use Rattle.script_lang.specs.ViewText.{further_nodes}
use Rattle.script_lang.proofs.reply.view.add_further_nodes.Given as goal

-- the line so far and the nodes that are left are the line with all nodes
abbrev pub invariant-loop-member : goal.invariant-loop-member
invariant-loop-member l =
    l.line.items ++ further_nodes (drop l.member-index l.members) ≡ l.initial.line.items ++ further_nodes l.members
