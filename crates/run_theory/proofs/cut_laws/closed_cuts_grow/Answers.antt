use Rattle.run_theory.specs.TestMachine.{machine}
use Rattle.std.proofs.Common.{IsTrue}
use Rattle.run_theory.proofs.Cuts.{logs_of_closed}
use Rattle.run_theory.proofs.Along.{within_cut}
use Rattle.run_theory.proofs.Growth.{grow, along_cuts}
use Rattle.run_theory.proofs.cut_laws.closed_cuts_grow.Goals as goal

pub returns-clause-grow : goal.returns-clause-grow
returns-clause-grow g c = λ t stamped n es large logs within a cut closed run inside. grow (machine t) stamped n es
    large run (within_cut (machine t) stamped n large logs within cut)
    (logs_of_closed (machine t) stamped large logs a cut closed) inside

pub returns-clause-keep : goal.returns-clause-keep
returns-clause-keep g c = λ t stamped q step n small large logs within a cut closed inside closed' holds.
    let a' = logs_of_closed (machine t) stamped large logs a cut closed in
    along_cuts (machine t) stamped (λ w. IsTrue (q w)) step n small large
    (within_cut (machine t) stamped n large logs within cut) a'
    (logs_of_closed (machine t) stamped small large a' inside closed') inside holds
