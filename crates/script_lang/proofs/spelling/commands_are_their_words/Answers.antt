use Rattle.script_lang.proofs.LineOfCommand.{commands_have_lines}
use Rattle.script_lang.proofs.ReadIsSpelled.{lines_are_spelled}
use Rattle.script_lang.proofs.SpelledIsRead.{spellings_are_read, spellings_differ}
use Rattle.script_lang.proofs.spelling.commands_are_their_words.Goals as goal

pub returns-clause-read : goal.returns-clause-read
returns-clause-read c = lines_are_spelled

pub returns-clause-spelled : goal.returns-clause-spelled
returns-clause-spelled c = spellings_are_read

pub returns-clause-one_meaning : goal.returns-clause-one_meaning
returns-clause-one_meaning c = spellings_differ

pub returns-clause-each : goal.returns-clause-each
returns-clause-each c = commands_have_lines
