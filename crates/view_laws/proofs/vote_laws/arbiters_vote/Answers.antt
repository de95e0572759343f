use Rattle.view_laws.proofs.follow.Hosts.{arbiters_follow}
use Rattle.view_laws.proofs.votes.Arbitrators.{arbiters_vote}
use Rattle.view_laws.proofs.vote_laws.arbiters_vote.Goals as goal

pub returns : goal.returns
returns c = arbiters_vote arbiters_follow
