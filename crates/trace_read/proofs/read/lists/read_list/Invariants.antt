use Rattle.std.proofs.Common.{◌≡◌, ◌-◌}
use Rattle.trace_bytes.specs.Lists.{list_at, more_at}
use Rattle.trace_read.proofs.read.lists.read_list.Given as goal

-- the items that are read and those that are left are the whole list
abbrev pub invariant-items : goal.invariant-items
invariant-items g l =
    more_at g.T.Readable.reader l.items (l.count - l.counter) l.input ≡ list_at g.T.Readable.reader l.fn.input
