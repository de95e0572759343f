use Rattle.run_laws.proofs.ways.GivenUp.{aborts_are_of_given_up, commits_are_of_carried_out}
use Rattle.run_laws.proofs.ways.GivenUp.{completions_are_of_carried_out, kept_are_not_given_up, none_is_both}
use Rattle.run_laws.proofs.way_laws.transactions_go_one_way.Goals as goal

pub returns-clause-apart : goal.returns-clause-apart
returns-clause-apart c = none_is_both

pub returns-clause-aborts : goal.returns-clause-aborts
returns-clause-aborts c = aborts_are_of_given_up

pub returns-clause-commits : goal.returns-clause-commits
returns-clause-commits c = commits_are_of_carried_out

pub returns-clause-completions : goal.returns-clause-completions
returns-clause-completions c = completions_are_of_carried_out

pub returns-clause-kept : goal.returns-clause-kept
returns-clause-kept c = kept_are_not_given_up
