use Rattle.std.proofs.Common.{reverse}
use Rattle.run_theory.specs.Links.{taken}
use Rattle.run_theory.specs.TestMachine.{machine}
use Rattle.run_theory.proofs.HostFacts.{logs_of_hosts, hosts_run, kept_of_logs}
use Rattle.run_theory.proofs.host_laws.logs_of_hosts.Goals as goal

pub returns-clause-logs : goal.returns-clause-logs
returns-clause-logs g c = λ t. logs_of_hosts (machine t)

pub returns-clause-run : goal.returns-clause-run
returns-clause-run g c = λ t stamped. hosts_run (machine t) stamped

pub returns-clause-exact : goal.returns-clause-exact
returns-clause-exact g c = λ t logs a. (
  λ i j. reverse (taken (machine t) i (logs j)),
  λ i j. reverse
      (taken (machine t) i (logs j)),
  kept_of_logs (machine t) logs a,
)
