use Rattle.std.proofs.Common.{◌≡◌, [], length, get_or, set, ap, sym, ◌∙◌, arith, length-set}
use Rattle.std.proofs.lemmas.List.{with_items_is}
use Rattle.linear_hash.specs.Entries.{without}
use Rattle.linear_hash.proofs.SplitLemmas.{left-view}
use Rattle.linear_hash.proofs.buckets.Buckets.remove.Goals as goal

-- the key is out of its bucket
pub returns-clause-rest : goal.returns-clause-rest
returns-clause-rest c =
    let old = c.self.inside.buckets.items in
    let at = c.home-home.result in
    let key = c.args.key.now.key in
    let is : c.leave_at.new.buckets ≡ set old at (without key (get_or old at [])) =
    c.leave_at.ensures ∙ ap (λ bs. set bs at (without key (get_or bs at []))) c.deref_mut.ensures.value in
    let whole = with_items_is c.self.inside.buckets c.leave_at.new.buckets
    (ap length is ∙ length-set old at (without key (get_or old at [])) ∙ sym c.self.inside.buckets.ok.0) in
    left-view c.self.inside.growth old _ c.args.self.now key at c.self.view_is c.home-home.ensures.value
    (omega (arith, c.home-home.ensures.below, c.self.invariant.1)) (whole ∙ is)
