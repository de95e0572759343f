use Rattle.redo_format.proofs.RecordLaws.{differ}
use Rattle.redo_format.proofs.decoding.none_begins_another.Goals as goal

pub returns : goal.returns
returns c = differ
