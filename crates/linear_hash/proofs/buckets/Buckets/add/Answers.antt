use Rattle.std.proofs.Common.{◌≡◌, [], ◌∷◌, ◌++◌, length, get_or, set, ap, sym, ◌∙◌, arith, length-set}
use Rattle.std.specs.FinMap as map
use Rattle.std.specs.Prelude.{List, None, ℕ}
use Rattle.std.proofs.lemmas.List.{with_items_is}
use Rattle.linear_hash.specs.Growth.{home}
use Rattle.linear_hash.specs.Places.{Places}
use Rattle.linear_hash.proofs.SplitLemmas.{added-view}
use Rattle.linear_hash.proofs.buckets.Buckets.add.Goals as goal

-- the entry is in the bucket of its key
pub returns-clause-ok : goal.returns-clause-ok
returns-clause-ok c =
    let old = c.self.inside.buckets.items in
    let at = c.home-home.result in
    let entry = c.new-entry.result in
    let is : c.add_at.new.buckets ≡ set old at (get_or old at [] ++ entry ∷ []) =
    c.in_ok-add_at.ensures.ok ∙ ap (λ bs. set bs at (get_or bs at [] ++ entry ∷ [])) c.deref_mut.ensures.value in
    let whole = with_items_is c.self.inside.buckets c.add_at.new.buckets
    (ap length is ∙ length-set old at (get_or old at [] ++ entry ∷ []) ∙ sym c.self.inside.buckets.ok.0) in
    let absent : map.get c.args.self.now.at entry.key ≡ None =
    ap (map.get c.args.self.now.at) c.new-entry.ensures.key ∙ c.requires in
    let of_key : List ℕ → Places =
    λ k. record { at = map.insert c.args.self.now.at k entry.at; buckets = c.args.self.now.buckets } in
    let of_place : ℕ → Places =
    λ n. record { at = map.insert c.args.self.now.at c.args.key.now.key n; buckets = c.args.self.now.buckets } in
    added-view c.self.inside.growth old _ c.args.self.now entry at c.self.view_is
    (c.home-home.ensures.value ∙ ap (home c.self.inside.growth) (sym c.new-entry.ensures.key))
    (omega (arith, c.home-home.ensures.below, c.self.invariant.1)) absent (whole ∙ is)
    ∙ ap of_key c.new-entry.ensures.key ∙ ap of_place c.new-entry.ensures.place
