use Rattle.run_theory.specs.TestMachine.{machine}
use Rattle.run_theory.proofs.LinkFacts.{link_projects}
use Rattle.run_theory.proofs.link_laws.links_project.Goals as goal

pub returns : goal.returns
returns g c = λ t. link_projects (machine t)
