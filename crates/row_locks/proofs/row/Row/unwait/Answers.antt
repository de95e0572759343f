use Rattle.row_locks.proofs.RowLemmas.{served_row, unwaited_lock, unwaited_need, unwaited_once}
use Rattle.row_locks.proofs.row.Row.unwait.Goals as goal

pub serve-requires-clause-once : goal.serve-requires-clause-once
serve-requires-clause-once c =
    unwaited_once c.args.tx c.self.inside.queue.items _ c.leave.ensures.queue c.self.invariant.1.waiting_once

pub serve-requires-clause-in_need : goal.serve-requires-clause-in_need
serve-requires-clause-in_need c = unwaited_need c.args.tx c.self.inside.holders.items c.self.inside.queue.items _
    c.leave.ensures.queue c.self.invariant.1.in_need

pub invariant_of-self : goal.invariant_of-self
invariant_of-self c =
    served_row c.self.inside.holders.items _ c.leave.new.queue.items _ _ c.serve.ensures.holders c.serve.ensures.queue
    c.serve.ensures.room
    (unwaited_lock c.args.tx c.self.inside.holders.items c.self.inside.queue.items _ c.leave.ensures.queue
    c.self.invariant.1)
