use Rattle.std.proofs.Common.{arith, ◌∙◌}
use Rattle.load_gen.proofs.Draws.{none_yet}
use Rattle.load_gen.proofs.load.Load.new.Goals as goal

pub invariant_of-result : goal.invariant_of-result
invariant_of-result c = record { in_range = omega arith; ring = λ some. c.first.ensures ∙ none_yet _ }
