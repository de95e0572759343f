use Rattle.std.proofs.Common.{rules, not, ◌∙◌}
use Rattle.std.proofs.lemmas.Fn.{filter_same}
use Rattle.sig_core.specs.Same.{same_tx}
use Rattle.row_locks.proofs.GoneLemmas.{filter-without}
use Rattle.row_locks.proofs.queue.leave.Goals as goal

-- all others are kept
pub returns-clause-queue : goal.returns-clause-queue
returns-clause-queue c =
    filter_same _ (λ w. not (same_tx w.tx c.args.tx)) _ (λ x b f t. search rules) _ _ c.retain.ensures.filtered
    ∙ filter-without c.args.tx c.args.queue.now.items
