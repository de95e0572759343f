use Rattle.std.proofs.Common.{rules}
use Rattle.std.proofs.lemmas.Fn.{filter_same}
use Rattle.world_core.specs.History.{is_kept}
use Rattle.world_core.specs.World.{logs_at}
use Rattle.trace_check.proofs.HistoryLemmas.{kept_same}
use Rattle.trace_check.proofs.history.keep_effective.Goals as goal

-- those that pass the test are kept
pub returns : goal.returns
returns c =
    filter_same _ (λ a. is_kept c.args.hosts (logs_at c.args.logs.now) a) _
    (λ x b f t. (search (kept_same, rules), search rules)) _ _ c.retain.ensures.filtered
