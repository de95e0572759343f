use Rattle.std.proofs.Common.{◌≡◌, ◌*◌}
use Rattle.load_gen.specs.Random.{drawn}
use Rattle.load_gen.specs.Wave.{transactions}
use Rattle.load_gen.proofs.waves.transactions.Given as goal

abbrev pub invariant-transactions : goal.invariant-transactions
invariant-transactions l = (l.commands ≡ transactions l.t l.x) × (l.at ≡ drawn (3 * l.t) l.x)
