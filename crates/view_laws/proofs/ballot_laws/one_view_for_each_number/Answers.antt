use Rattle.std.proofs.Common.{suc, lt-suc_self}
use Rattle.view_laws.proofs.ballots.OneOfANumber.{chained}
use Rattle.view_laws.proofs.ballot_laws.one_view_for_each_number.Goals as goal

-- src/ballot_laws.rt:5:1
pub returns : goal.returns
returns c shape is b o one other chosen chosen_too same =
    (chained shape is b o (suc one.number)).same one other chosen chosen_too same (lt-suc_self one.number)
