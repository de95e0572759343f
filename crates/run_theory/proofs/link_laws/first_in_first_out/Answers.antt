use Rattle.run_theory.specs.TestMachine.{machine}
use Rattle.run_theory.proofs.LinkFacts.{first_in_first_out}
use Rattle.run_theory.proofs.link_laws.first_in_first_out.Goals as goal

pub returns : goal.returns
returns g c = λ t. first_in_first_out (machine t)
