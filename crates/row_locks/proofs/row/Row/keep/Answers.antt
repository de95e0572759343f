use Rattle.std.proofs.Common.{sym}
use Rattle.row_locks.proofs.KeepingLemmas.{left_row}
use Rattle.row_locks.proofs.row.Row.keep.Goals as goal

-- fewer hold the lock, and nobody waits
pub invariant_of-self : goal.invariant_of-self
invariant_of-self g c =
    left_row (λ tx. g.K.Keeper.keeps c.args.keeper.now c.args.key.now tx) c.self.inside.holders.items
    c.keep_holders.new.holders.items c.self.inside.queue.items c.clear.new.self.items _ _ c.keep_holders.ensures.holders
    c.clear.ensures.items (sym c.keep_holders.ensures.capacity) c.self.invariant
