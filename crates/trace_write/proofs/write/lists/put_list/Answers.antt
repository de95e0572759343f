use Rattle.std.proofs.Common.{append-nil, sym}
use Rattle.trace_write.proofs.ListLoops.{all_written, one_written}
use Rattle.trace_write.proofs.write.lists.put_list.Goals as goal

pub items-init : goal.items-init
items-init g c = sym (append-nil _)

pub items-preserved : goal.items-preserved
items-preserved g c =
    one_written g.T.Written.spelled c.args.items.now c.items.item-index c.item-item.result _ _ _ c.items.invariant
    c.items-test.true c.item-item.is c.in_ok-put.ensures

pub returns : goal.returns
returns g c =
    all_written g.T.Written.spelled c.args.items.now c.items.item-index _ _ _ c.items.invariant c.items-test.false
    c.in_ok-u64.ensures
