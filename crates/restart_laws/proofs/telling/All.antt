-- Nobody is told by a member's hosts what the disk of its node hasn't kept: so it stays where a host goes on.
use Rattle.moment_laws.specs.Places.{ldm_of, tc_of}
use Rattle.restart_laws.specs.Told.{StepsTellWhatIsKept, TellsNotedDurable, TellsNotedRows}
use Rattle.restart_laws.proofs.telling.Noted.{epochs_tell_by_log}
use Rattle.restart_laws.proofs.telling.Rows.{rows_tell_by_log}
use Rattle.restart_laws.proofs.telling.Steps.{host_told}

pub steps_tell_what_is_kept : StepsTellWhatIsKept
steps_tell_what_is_kept start member w t old new counts sound there tells_all uses_all gone told = record {
  saved =
      host_told start w t old new counts sound tells_all uses_all gone (ldm_of start member)
      (TellsNotedRows start member) (rows_tell_by_log start sound.right.nobody member there) told.saved;
  durable =
      host_told start w t old new counts sound tells_all uses_all gone (tc_of start member)
      (TellsNotedDurable start member) (epochs_tell_by_log start sound.right.nobody member there) told.durable;
}
