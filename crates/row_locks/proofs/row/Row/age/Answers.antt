use Rattle.std.proofs.Common.{arith}
use Rattle.std.proofs.lemmas.Grind.{common_steps}
use Rattle.row_locks.proofs.RowLemmas.{aged_row}
use Rattle.row_locks.proofs.row.Row.age.Goals as goal

-- each wait was changed where it stood
pub invariant_of-self : goal.invariant_of-self
invariant_of-self c = aged_row _ c.self.inside.queue.items _ _ (grind (arith, common_steps)) c.self.invariant
