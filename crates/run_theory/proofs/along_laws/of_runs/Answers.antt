use Rattle.run_theory.specs.TestMachine.{machine}
use Rattle.run_theory.specs.AlongLaws.{Passes}
use Rattle.run_theory.proofs.Along.{of_runs, of_runs_at_cuts}
use Rattle.run_theory.proofs.along_laws.of_runs.Goals as goal

pub returns-clause-logs : goal.returns-clause-logs
returns-clause-logs g c = λ t stamped q all. of_runs (machine t) stamped (Passes q) all

pub returns-clause-cuts : goal.returns-clause-cuts
returns-clause-cuts g c = λ t stamped q all. of_runs_at_cuts (machine t) stamped (Passes q) all
