use Rattle.run_theory.specs.TestMachine.{machine}
use Rattle.run_theory.proofs.LinkFacts.{nothing_follows_stop}
use Rattle.run_theory.proofs.link_laws.nothing_follows_stop.Goals as goal

pub returns : goal.returns
returns g c = λ t. nothing_follows_stop (machine t)
