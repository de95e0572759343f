use Rattle.run_theory.specs.TestMachine.{machine}
use Rattle.run_theory.proofs.LinkFacts.{taken_at_most_once}
use Rattle.run_theory.proofs.link_laws.taken_at_most_once.Goals as goal

pub returns : goal.returns
returns g c = λ t. taken_at_most_once (machine t)
