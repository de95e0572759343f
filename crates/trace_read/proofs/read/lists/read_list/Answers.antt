use Rattle.std.proofs.lemmas.Result.{err_from_is_err_and}
use Rattle.trace_read.proofs.ListLoops.{all_read, list_begins, none_read, one_read}
use Rattle.trace_read.proofs.read.lists.read_list.Goals as goal

pub items-init : goal.items-init
items-init g c =
    rw c.new-items.ensures
    (list_begins g.T.Readable.reader c.args.input.now c.u64.new.self c.in_ok-count.count c.in_ok-count.ensures)

pub items-preserved : goal.items-preserved
items-preserved g c =
    one_read g.T.Readable.reader c.items.items _ c.in_ok-count.count c.items.counter c.items.input _ c.in_ok-item.item _
    c.items.invariant c.items-test.true c.in_ok-item.ensures c.in_ok-push.ensures.ok

pub returns-in_err-item : goal.returns-in_err-item
returns-in_err-item g c =
    let p = err_from_is_err_and c.from_residual-in_err-item.result c.from_residual-in_err-item.ensures.1 in
    rw (p.1, p.2)
    (none_read g.T.Readable.reader c.items.items c.in_ok-count.count c.items.counter c.items.input _ _ c.items.invariant
    c.items-test.true c.in_err-item.ensures)

pub returns : goal.returns
returns g c =
    all_read g.T.Readable.reader c.items.items c.in_ok-count.count c.items.counter c.items.input _ c.items.invariant
    c.items-test.false
