use Rattle.std.proofs.Common.{rules}
use Rattle.std.proofs.lemmas.List.Sorted.{IsPermutation-map}
use Rattle.std.specs.Map.Iter.{deref_pair}
use Rattle.row_map.proofs.SortedLemmas.{in_order_by}
use Rattle.row_map.proofs.rows.sort.Goals as goal

pub returns-clause-permutation : goal.returns-clause-permutation
returns-clause-permutation c = IsPermutation-map deref_pair _ _ c.sort_by.ensures.permutation

pub returns-clause-sorted : goal.returns-clause-sorted
returns-clause-sorted c =
    in_order_by deref_pair (λ a. a.0) _ c.in_ok-sort_by.ensures.sorted (λ a r f k. search rules)
