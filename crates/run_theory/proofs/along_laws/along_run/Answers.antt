use Rattle.run_theory.specs.TestMachine.{machine}
use Rattle.std.proofs.Common.{IsTrue}
use Rattle.run_theory.proofs.Along.{along_run}
use Rattle.run_theory.proofs.along_laws.along_run.Goals as goal

pub returns : goal.returns
returns g c = λ t p start step. along_run (machine t) (λ es. IsTrue (p es)) start step
