use Rattle.std.proofs.Common.{◌≡◌, ◌++◌, ◌∙◌, ap, take, filter}
use Rattle.frag_map.specs.Fragment.{group_of_fragment}
use Rattle.frag_map.specs.Replicas.{in_turn, is_later_of_group, is_of_group, replicas_of}
use Rattle.frag_map.proofs.ListLemmas.{take-take-append}
use Rattle.frag_map.proofs.replicas.replicas_of.Goals as goal

-- what is kept of each part is what is kept of all
pub returns : goal.returns
unfolding replicas_of
returns c =
    let shape = c.args.shape.now in
    let view = c.args.view.now in
    let group = group_of_fragment shape c.args.fragment in
    let first = in_turn shape view c.args.fragment shape.replicas in
    let later = filter (is_later_of_group shape group) view.full in
    let starting = filter (is_of_group shape group) view.starting in
    let later_is : c.add_later.new.replicas ≡ take 8 (take 8 first ++ later) = cc in
    let all_is : c.add_group.new.replicas ≡ take 8 (take 8 (take 8 first ++ later) ++ starting) = cc in
    all_is
    ∙ ap (λ xs. take 8 (xs ++ starting)) (take-take-append 8 first later)
    ∙ take-take-append 8 (first ++ later) starting
