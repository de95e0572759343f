use Rattle.restart_laws.proofs.begun.Rows.{rows_begin}
use Rattle.restart_laws.proofs.lived.Begins.{lives_begin}
use Rattle.restart_laws.proofs.lived.Opened.{opened_are_ready}
use Rattle.restart_laws.proofs.lives.lives_begin.Goals as goal

pub returns-clause-begins : goal.returns-clause-begins
returns-clause-begins c = lives_begin

pub returns-clause-opened : goal.returns-clause-opened
returns-clause-opened c = opened_are_ready

pub returns-clause-rows : goal.returns-clause-rows
returns-clause-rows c = rows_begin
