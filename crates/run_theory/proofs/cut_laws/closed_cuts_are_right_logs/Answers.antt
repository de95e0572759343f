use Rattle.run_theory.specs.TestMachine.{machine}
use Rattle.run_theory.proofs.Pasts.{past_self}
use Rattle.run_theory.proofs.Cuts.{logs_of_closed, closed_of_logs}
use Rattle.run_theory.proofs.Along.{within_cut}
use Rattle.run_theory.proofs.Merging.{merged_run}
use Rattle.run_theory.proofs.cut_laws.closed_cuts_are_right_logs.Goals as goal

pub returns-clause-where_right : goal.returns-clause-where_right
returns-clause-where_right g c = λ t stamped inside logs a cut.
    (logs_of_closed (machine t) stamped inside logs a cut, closed_of_logs (machine t) stamped inside)

pub returns-clause-whole : goal.returns-clause-whole
returns-clause-whole g c = λ t stamped logs a. (λ h. past_self (logs h), closed_of_logs (machine t) stamped logs a)

pub returns-clause-run : goal.returns-clause-run
returns-clause-run g c = λ t stamped n inside logs within a cut closed. merged_run (machine t) stamped n inside
    (within_cut (machine t) stamped n inside logs within cut)
    (logs_of_closed (machine t) stamped inside logs a cut closed)
