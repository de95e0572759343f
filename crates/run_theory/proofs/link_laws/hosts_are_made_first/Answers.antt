use Rattle.run_theory.specs.TestMachine.{machine}
use Rattle.run_theory.proofs.LinkFacts.{hosts_are_made_first}
use Rattle.run_theory.proofs.link_laws.hosts_are_made_first.Goals as goal

pub returns : goal.returns
returns g c = λ t. hosts_are_made_first (machine t)
