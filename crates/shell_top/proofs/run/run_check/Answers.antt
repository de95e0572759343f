use Rattle.std.proofs.Common.{refl}
use Rattle.shell_top.specs.Checked.{telling_of}
use Rattle.shell_top.proofs.CheckedLemmas.{checked_read, checked_write}
use Rattle.shell_top.proofs.TellingLemmas.{told_as_meant, told_of_sink}
use Rattle.shell_top.proofs.run.run_check.Goals as goal

pub returns-clause-checked : goal.returns-clause-checked
returns-clause-checked g c = record {
  found = c.find-found.result;
  has_found = c.find-found.ensures.found;
  told = c.tell.ensures (telling_of c.find-found.result) c.telling_of.ensures;
  no_life = refl;
}

pub returns-clause-read_fault : goal.returns-clause-read_fault
returns-clause-read_fault g c is =
    c.find-found.ensures.cause
    (checked_read c.find-found.result
    (told_as_meant _ _ _ _ c.tell.result (c.tell.ensures (telling_of c.find-found.result) c.telling_of.ensures) is))

pub returns-clause-write_fault : goal.returns-clause-write_fault
returns-clause-write_fault g c is =
    told_of_sink _ _ _ _ c.tell.result (c.tell.ensures (telling_of c.find-found.result) c.telling_of.ensures)
    (checked_write c.find-found.result) is
