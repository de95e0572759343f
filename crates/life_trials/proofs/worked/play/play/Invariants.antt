use Rattle.frag_map.specs.Shape.{IsShape}
use Rattle.life_trials.proofs.worked.play.play.Given as goal

-- the shape is one
abbrev pub invariant-loop : goal.invariant-loop
invariant-loop g l = IsShape l.shape
