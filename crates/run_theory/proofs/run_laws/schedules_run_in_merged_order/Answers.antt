use Rattle.run_theory.specs.TestMachine.{machine}
use Rattle.run_theory.specs.Runs.{log_of}
use Rattle.run_theory.proofs.Runs.{logs_of_run}
use Rattle.run_theory.proofs.Merging.{merged_run}
use Rattle.run_theory.proofs.run_laws.schedules_run_in_merged_order.Goals as goal

pub returns : goal.returns
returns g c = λ t stamped n es within run. merged_run (machine t) stamped n (log_of (machine t) es) within
    (logs_of_run (machine t) es run)
