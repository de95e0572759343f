use Rattle.run_theory.specs.TestMachine.{machine}
use Rattle.run_theory.proofs.Orders.{run_of_logs, run_by_stamp}
use Rattle.run_theory.proofs.Merging.{merged_run, has_logs_merged, of_hosts}
use Rattle.run_theory.specs.Orders.{joined}
use Rattle.run_theory.proofs.Sorting.{has_logs_sorted, has_logs_joined, run_sorted}
use Rattle.run_theory.proofs.run_laws.right_logs_are_a_run.Goals as goal

pub returns-clause-merged : goal.returns-clause-merged
returns-clause-merged g c = λ t stamped n logs within a. (
  merged_run (machine t) stamped n logs within a,
  has_logs_merged (machine t) n logs (of_hosts (machine t) logs a)
      within,
)

pub returns-clause-by_stamp : goal.returns-clause-by_stamp
returns-clause-by_stamp g c = λ t stamped es logs has b a. run_by_stamp (machine t) stamped es logs has b a

pub returns-clause-causal : goal.returns-clause-causal
returns-clause-causal g c = λ t stamped es logs has b a. run_of_logs (machine t) stamped es logs has b a

pub returns-clause-sorted : goal.returns-clause-sorted
returns-clause-sorted g c = λ t stamped n logs es within a p b.
    let has = has_logs_joined (machine t) n logs a within in (
      run_sorted (machine t) stamped logs (joined n logs) es a has p b,
      has_logs_sorted (machine t) logs (joined n logs) es a has p b,
    )
