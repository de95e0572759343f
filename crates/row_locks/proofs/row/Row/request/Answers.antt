use Rattle.std.proofs.Common.{rules, arith}
use Rattle.std.proofs.lemmas.Grind.{common_steps}
use Rattle.row_locks.proofs.RowLemmas.{raised_row, anew_row}
use Rattle.row_locks.proofs.row.Row.request.Goals as goal

-- the transaction waits already
pub invariant_of-self : goal.invariant_of-self
invariant_of-self c = raised_row _ c.self.inside.queue.items _ _ c.args.tx c.args.mode (search rules) (search rules)
    (grind (arith, common_steps)) c.self.invariant

-- it neither holds enough nor waits
pub invariant_of-self-2 : goal.invariant_of-self-2
invariant_of-self-2 c = (
  c.request_anew.ensures.room,
  anew_row c.self.inside.holders.items _ c.self.inside.queue.items _ c.args.tx c.args.mode c.request_anew.result
      (search rules) (search rules) c.request_anew.ensures.ok c.request_anew.ensures.err c.self.invariant.1,
)
