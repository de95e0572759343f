use Rattle.std.proofs.Common.{◌≡◌}
use Rattle.load_gen.specs.Random.{drawn}
use Rattle.load_gen.proofs.random.drawn.Given as goal

abbrev pub invariant-draws : goal.invariant-draws
invariant-draws l = l.x ≡ drawn l.counter l.from
