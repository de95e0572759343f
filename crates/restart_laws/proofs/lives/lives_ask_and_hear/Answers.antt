use Rattle.restart_laws.proofs.lived.Asks.{lives_ask, lives_hear}
use Rattle.restart_laws.proofs.lives.lives_ask_and_hear.Goals as goal

pub returns-clause-asks : goal.returns-clause-asks
returns-clause-asks c = lives_ask

pub returns-clause-hears : goal.returns-clause-hears
returns-clause-hears c = lives_hear
