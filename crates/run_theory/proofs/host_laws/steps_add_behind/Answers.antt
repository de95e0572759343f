use Rattle.run_theory.specs.TestMachine.{machine}
use Rattle.run_theory.proofs.HostFacts.{sent-in_time, taken-in_time}
use Rattle.run_theory.proofs.host_laws.steps_add_behind.Goals as goal

pub returns-clause-sends : goal.returns-clause-sends
returns-clause-sends g c = λ t. sent-in_time (machine t)

pub returns-clause-takes : goal.returns-clause-takes
returns-clause-takes g c = λ t. taken-in_time (machine t)
