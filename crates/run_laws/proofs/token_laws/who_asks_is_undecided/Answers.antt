use Rattle.run_laws.proofs.tokens.NoneWait.{comers_are_undecided, waiters_are_undecided}
use Rattle.run_laws.proofs.token_laws.who_asks_is_undecided.Goals as goal

pub returns-clause-waiting : goal.returns-clause-waiting
returns-clause-waiting c = waiters_are_undecided

pub returns-clause-coming : goal.returns-clause-coming
returns-clause-coming c = comers_are_undecided
