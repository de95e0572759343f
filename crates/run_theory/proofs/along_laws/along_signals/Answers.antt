use Rattle.run_theory.specs.TestMachine.{machine}
use Rattle.run_theory.specs.AlongLaws.{Passes, PassesWith}
use Rattle.run_theory.proofs.Along.{along_signals, along_signals_of_logs, along_signals_of_cuts}
use Rattle.run_theory.proofs.along_laws.along_signals.Goals as goal

pub returns-clause-runs : goal.returns-clause-runs
returns-clause-runs g c = λ t k q kept. along_signals (machine t) (PassesWith k) (Passes q) kept

pub returns-clause-logs : goal.returns-clause-logs
returns-clause-logs g c = λ t stamped k q kept. along_signals_of_logs (machine t) stamped (PassesWith k) (Passes q) kept

pub returns-clause-cuts : goal.returns-clause-cuts
returns-clause-cuts g c = λ t stamped k q kept. along_signals_of_cuts (machine t) stamped (PassesWith k) (Passes q) kept
