use Rattle.journal_laws.proofs.Journals.{journals}
use Rattle.journal_laws.proofs.laws.journals_have_records.Goals as goal

pub returns : goal.returns
returns c = journals
