use Rattle.std.proofs.Common.{refl, arith}
use Rattle.run_example.proofs.SampleRun.{sample_runs}
use Rattle.run_example.proofs.game_laws.game_has_runs.Goals as goal

pub returns-clause-run : goal.returns-clause-run
returns-clause-run c = sample_runs

pub returns-clause-loses : goal.returns-clause-loses
returns-clause-loses c = (refl, refl)

pub returns-clause-torn : goal.returns-clause-torn
returns-clause-torn c = λ closed. let taken = closed.signals 1 0 in omega (arith, taken.0)
