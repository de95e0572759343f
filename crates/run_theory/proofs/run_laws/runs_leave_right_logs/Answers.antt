use Rattle.run_theory.specs.TestMachine.{machine}
use Rattle.run_theory.proofs.Runs.{logs_of_run}
use Rattle.run_theory.proofs.Growth.{causal_of_run}
use Rattle.run_theory.proofs.run_laws.runs_leave_right_logs.Goals as goal

pub returns-clause-logs : goal.returns-clause-logs
returns-clause-logs g c = λ t es run. logs_of_run (machine t) es run

pub returns-clause-causal : goal.returns-clause-causal
returns-clause-causal g c = λ t stamped es run. causal_of_run (machine t) stamped es run
