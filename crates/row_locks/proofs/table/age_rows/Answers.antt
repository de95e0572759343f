use Rattle.std.proofs.Common.{rules, ◌∙◌, ap}
use Rattle.std.specs.FinMap.{from_entries}
use Rattle.std.proofs.lemmas.Map.Made.{map_same_pairs}
use Rattle.row_locks.specs.Rows.{grown_old}
use Rattle.row_locks.proofs.LocksLemmas.{key_cmp}
use Rattle.row_locks.proofs.RoundLemmas.{mapped-locks}
use Rattle.row_locks.proofs.table.age_rows.Goals as goal

-- each lock was changed where it stood
pub returns : goal.returns
returns c =
    ap (λ es. from_entries {R = key_cmp} es)
    (map_same_pairs _ grown_old _ (λ k v b w f' t. search rules) _ _ c.retain.ensures.filtered)
    ∙ mapped-locks grown_old c.args.rows.now.entries
