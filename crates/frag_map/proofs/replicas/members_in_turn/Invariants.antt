use Rattle.std.proofs.Common.{◌≡◌, take}
use Rattle.frag_map.specs.Replicas.{in_turn}
use Rattle.frag_map.proofs.replicas.members_in_turn.Given as goal

-- those whose turn was before the next one
abbrev pub invariant-loop-turn : goal.invariant-loop-turn
invariant-loop-turn l = l.replicas ≡ take 8 (in_turn l.shape l.view l.fragment l.turn)
