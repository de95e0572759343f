use Rattle.std.proofs.Common.{◌≡◌, [], ◌∷◌, get_or, set, length, length-set, ap, sym, ◌∙◌}
use Rattle.std.proofs.lemmas.List.{get_or_append_left, get_or_read, with_items_is}
use Rattle.linear_hash.specs.Entries.{part_of}
use Rattle.linear_hash.proofs.SplitLemmas.{split-written}
use Rattle.linear_hash.proofs.buckets.split_at.Goals as goal

-- the new bucket was added, and then the split one kept what is left of it
pub returns-clause-ok : goal.returns-clause-ok
returns-clause-ok c =
    let old = c.args.buckets.now.items in
    let added = c.push.new.self.items in
    let at = c.args.bucket in
    let moves = c.in_ok-moves.moves in
    let stays = part_of c.args.next at (get_or added at []) in
    let is : c.keep_at.new.buckets ≡ set added at stays =
    c.keep_at.ensures ∙ ap (λ bs. set bs at (part_of c.args.next at (get_or bs at []))) c.deref_mut.ensures.value in
    let whole = with_items_is c.push.new.self c.keep_at.new.buckets
    (ap length is ∙ length-set added at stays ∙ sym c.push.new.self.ok.0) in
    whole ∙ is
    ∙ split-written old added at stays moves c.args.next c.requires.inside c.in_ok-push.ensures.items
    (ap (λ bs. part_of c.args.next at (get_or bs at [])) c.in_ok-push.ensures.items
    ∙ ap (part_of c.args.next at) (get_or_append_left old (moves ∷ []) [] at c.requires.inside))
    (c.in_ok-moves.ensures
    ∙ ap (part_of c.args.next c.len.result)
    (get_or_read old at c.index.result.now c.requires.inside c.index.ensures [])
    ∙ ap (λ n. part_of c.args.next n (get_or old at [])) (c.len.ensures ∙ c.args.buckets.now.ok.0))
