use Rattle.request_laws.proofs.tokens.Moments.{have_one}
use Rattle.request_laws.proofs.tokens.SumsOverHosts.{takes_are_few}
use Rattle.request_laws.proofs.token_laws.one_at_a_time.Goals as goal

pub returns-clause-few : goal.returns-clause-few
returns-clause-few c = have_one

pub returns-clause-taken : goal.returns-clause-taken
returns-clause-taken c = takes_are_few
