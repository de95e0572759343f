use Rattle.run_theory.specs.TestMachine.{machine}
use Rattle.run_theory.proofs.LinkFacts.{closing_is_last}
use Rattle.run_theory.proofs.link_laws.closing_is_last.Goals as goal

pub returns : goal.returns
returns g c = λ t stamped. closing_is_last (machine t) stamped
