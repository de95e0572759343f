use Rattle.std.proofs.Common.{rules}
use Rattle.frag_map.proofs.TurnLemmas.{turn-missed, turn-taken}
use Rattle.frag_map.proofs.replicas.members_in_turn.Goals as goal
use Rattle.frag_map.proofs.replicas.members_in_turn.Goals.{then-is_among, else-is_among}

-- a node in turn that is a full member goes to the replicas, and another is passed over
pub loop-turn-preserved : goal.loop-turn-preserved
loop-turn-preserved c =
    let shape = c.args.shape.now in
    let view = c.args.view.now in
    let fragment = c.args.fragment in
    let turn = c.loop-turn.turn in
    let now = c.loop-turn.replicas in
    let before = c.loop-turn.invariant in
    elim c.if-is_among.branch [
      | then-is_among w ↦
          let next = w.add.new.replicas in
          rw w.replicas-is (turn-taken shape view fragment turn now next (search rules) before (search rules))
      | else-is_among w ↦ rw w.replicas-is (turn-missed shape view fragment turn now (search rules) before)
    ]
