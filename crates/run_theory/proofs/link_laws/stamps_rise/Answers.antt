use Rattle.run_theory.specs.TestMachine.{machine}
use Rattle.run_theory.proofs.LinkFacts.{stamps_rise}
use Rattle.run_theory.proofs.link_laws.stamps_rise.Goals as goal

pub returns : goal.returns
returns g c = λ t stamped. stamps_rise (machine t) stamped
