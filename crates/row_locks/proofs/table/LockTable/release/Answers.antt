use Rattle.std.proofs.Common.{◌≡◌, ◌∙◌, ap, sym}
use Rattle.row_locks.specs.Rows.{released}
use Rattle.row_locks.specs.Tables.{lock_at, kept, or_unlocked}
use Rattle.row_locks.proofs.LocksLemmas.{forgotten-locks, get-locks}
use Rattle.row_locks.proofs.table.LockTable.release.Goals as goal

-- the lock became idle, and was removed
pub returns-then-is_idle-clause-locks : goal.returns-then-is_idle-clause-locks
returns-then-is_idle-clause-locks c =
    let m = c.self.inside.rows in
    let k = c.args.key.now in
    let there = c.in-Some.ensures.value in
    let row : c.in-Some.row.now ≡ lock_at c.args.self.now k =
    ap or_unlocked there ∙ sym (ap or_unlocked (get-locks m.entries k))
    ∙ ap (λ locks. lock_at locks k) c.self.view_is in
    forgotten-locks m (c.get_mut.follows.lender c.release-granted.new.self) c.forget.new.rows k c.in-Some.row.now
    c.release-granted.new.self
    (c.get_mut.follows.holds c.release-granted.new.self) (sym there) c.forget.ensures
    (sym c.is_idle.ensures ∙ c.if-is_idle.true)
    ∙ ap (λ locks. kept locks k c.release-granted.new.self) c.self.view_is
    ∙ ap (kept c.args.self.now k) (c.release-granted.ensures.lock ∙ ap (λ lock. (released lock c.args.tx).lock) row)
