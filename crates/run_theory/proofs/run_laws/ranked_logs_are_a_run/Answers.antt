use Rattle.run_theory.specs.TestMachine.{machine}
use Rattle.run_theory.proofs.Ranking.{ranked_run}
use Rattle.run_theory.proofs.run_laws.ranked_logs_are_a_run.Goals as goal

pub returns : goal.returns
returns g c = λ t stamped rank causal n logs within a. ranked_run (machine t) rank causal stamped n logs within a
