use Rattle.std.proofs.Common.{rules, ◌≡◌, ◌++◌, ap, ◌∙◌, true, false, take, filter, get_or}
use Rattle.frag_map.specs.Replicas.{is_of_group}
use Rattle.sig_core.specs.Members.{nobody}
use Rattle.frag_map.proofs.ListLemmas.{filter-left, filter-over, filter-passed, take-few}
use Rattle.frag_map.proofs.replicas.add_group.Goals as goal
use Rattle.frag_map.proofs.replicas.add_group.Goals.{then-is_of_group, else-is_of_group}

-- a member that passes goes to the replicas, and another is left out
pub loop-member-preserved : goal.loop-member-preserved
loop-member-preserved c =
    let items = c.as_slice-member-items.result.now in
    let now = c.loop-member.replicas in
    let at = c.loop-member.member-index in
    let p = is_of_group c.args.shape.now c.args.group in
    let before = c.loop-member.invariant.left in
    let p_read = p (get_or items at nobody) in
    elim c.if-is_of_group.branch [
      | then-is_of_group w ↦
          let passed : p_read ≡ true = search rules in
          let more = filter-passed p 8 now w.add.new.replicas items at nobody (search rules) passed (search rules) in
          record { left = rw w.replicas-is (more ∙ before); few = rw (w.replicas-is, w.add.ensures) (take-few 8 _) }
      | else-is_of_group w ↦
          let left : p_read ≡ false = search rules in
          let same = ap (λ xs. take 8 (now ++ xs)) (filter-left p items at nobody (search rules) left) in
          record { left = rw w.replicas-is (same ∙ before); few = rw w.replicas-is c.loop-member.invariant.few }
    ]

-- none is left
pub returns : goal.returns
returns c =
    let items = c.as_slice-member-items.result.now in
    let p = is_of_group c.args.shape.now c.args.group in
    let same : items ≡ c.args.starting.now = search rules in
    filter-over p 8 c.loop-member.replicas items c.loop-member.member-index (search rules) c.loop-member.invariant.few
    ∙ c.loop-member.invariant.left
    ∙ ap (λ xs. take 8 (c.args.replicas.now ++ filter p xs)) same
