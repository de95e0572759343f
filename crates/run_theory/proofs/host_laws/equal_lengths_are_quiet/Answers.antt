use Rattle.run_theory.specs.TestMachine.{machine}
use Rattle.run_theory.proofs.Pairs.{quiet_by_lengths, quiet_by_links, quiet_by_ends}
use Rattle.run_theory.proofs.host_laws.equal_lengths_are_quiet.Goals as goal

pub returns-clause-logs : goal.returns-clause-logs
returns-clause-logs g c = λ t. quiet_by_lengths (machine t)

pub returns-clause-links : goal.returns-clause-links
returns-clause-links g c = λ t. quiet_by_links (machine t)

pub returns-clause-ends : goal.returns-clause-ends
returns-clause-ends g c = λ t. quiet_by_ends (machine t)
