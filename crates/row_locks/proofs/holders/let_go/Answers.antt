use Rattle.std.proofs.Common.{rules, not, ◌∙◌}
use Rattle.std.proofs.lemmas.Fn.{filter_same}
use Rattle.sig_core.specs.Same.{same_tx}
use Rattle.row_locks.proofs.GoneLemmas.{filter-others}
use Rattle.row_locks.proofs.holders.let_go.Goals as goal

-- all others are kept
pub returns-clause-holders : goal.returns-clause-holders
returns-clause-holders c =
    filter_same _ (λ h. not (same_tx h.tx c.args.tx)) _ (λ x b f t. search rules) _ _ c.retain.ensures.filtered
    ∙ filter-others c.args.tx c.args.holders.now.items
