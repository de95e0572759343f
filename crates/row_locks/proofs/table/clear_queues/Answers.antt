use Rattle.std.proofs.Common.{rules, ◌∙◌, ap, sym, map}
use Rattle.std.specs.Prelude.{filter}
use Rattle.std.specs.FinMap.{from_entries}
use Rattle.row_locks.specs.Rows.{unqueued}
use Rattle.row_locks.specs.Rounds.{is_used}
use Rattle.row_locks.proofs.LocksLemmas.{key_cmp}
use Rattle.row_locks.proofs.RoundLemmas.{entries-locks}
use Rattle.row_locks.proofs.UnqueuedLemmas.{retained}
use Rattle.row_locks.proofs.table.clear_queues.Goals as goal

-- each lock was changed where it stood, and those that nobody holds were removed
pub returns : goal.returns
returns c =
    ap (λ es. from_entries {R = key_cmp} es) (retained _ _ (λ k v b w f' t. search rules) _ _ c.retain.ensures.filtered)
    ∙ ap (λ es. from_entries {R = key_cmp} (filter is_used (map (λ e. (e.0, unqueued e.1)) es)))
    (sym (entries-locks c.args.rows.now c.retain.ensures.was_ordered))
