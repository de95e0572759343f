use Rattle.std.proofs.Common.{◌≡◌}
use Rattle.life_trials.proofs.links.passing.sends.Given as goal

abbrev pub invariant-loop : goal.invariant-loop
invariant-loop g l = l.tx.from ≡ 1
