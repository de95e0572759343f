use Rattle.script_lang.proofs.NumberLaws.{spelled, read}
use Rattle.script_lang.proofs.number.numbers_are_decimal.Goals as goal

pub returns-clause-spelled : goal.returns-clause-spelled
returns-clause-spelled c = spelled

pub returns-clause-read : goal.returns-clause-read
returns-clause-read c = read
