use Rattle.run_theory.specs.TestMachine.{machine}
use Rattle.run_theory.proofs.Pairs.{flows_of_pair, logs_of_pairs}
use Rattle.run_theory.proofs.host_laws.pairs_of_hosts.Goals as goal

pub returns-clause-pair : goal.returns-clause-pair
returns-clause-pair g c = λ t. flows_of_pair (machine t)

pub returns-clause-logs : goal.returns-clause-logs
returns-clause-logs g c = λ t. logs_of_pairs (machine t)
