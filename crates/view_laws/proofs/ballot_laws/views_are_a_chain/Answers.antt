use Rattle.std.proofs.Common.{suc, lt-suc_self}
use Rattle.view_laws.proofs.ballots.OneOfANumber.{chained}
use Rattle.view_laws.proofs.ballot_laws.views_are_a_chain.Goals as goal

-- src/ballot_laws.rt:11:1
pub returns : goal.returns
returns c shape is b o before after next =
    (chained shape is b o (suc after.number)).next before after next (lt-suc_self after.number)
