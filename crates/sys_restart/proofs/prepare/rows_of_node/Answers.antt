use Rattle.std.proofs.Common.{◌∙◌, ap, map, sym}
use Rattle.std.specs.Map.Iter.{deref_pair}
use Rattle.frag_map.specs.Shape.{group_of}
use Rattle.sys_restart.proofs.TableLemmas.{none_listed}
use Rattle.sys_restart.proofs.prepare.rows_of_node.Goals as goal

-- there is no such group
pub returns-else-group-groups-clause-rows : goal.returns-else-group-groups-clause-rows
returns-else-group-groups-clause-rows c =
    ap (map deref_pair) c.new.ensures.items
    ∙ sym (none_listed c.args.restored.now.groups c.as_slice-groups.result.now c.group_of-group.result
    (group_of c.args.shape.now c.args.node) c.as_slice-groups.ensures c.group_of-group.ensures c.if-group-groups.false)
