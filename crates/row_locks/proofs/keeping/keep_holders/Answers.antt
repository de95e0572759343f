use Rattle.std.proofs.Common.{rules}
use Rattle.std.proofs.lemmas.Fn.{filter_same}
use Rattle.row_locks.proofs.keeping.keep_holders.Goals as goal

-- those that pass the test are kept
pub returns-clause-holders : goal.returns-clause-holders
returns-clause-holders g c =
    filter_same _ (λ h. g.K.Keeper.keeps c.args.keeper.now c.args.key.now h.tx) _ (λ x b f t. search rules) _ _
    c.retain.ensures.filtered
