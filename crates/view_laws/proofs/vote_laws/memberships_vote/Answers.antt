use Rattle.view_laws.proofs.follow.Hosts.{hosts_follow}
use Rattle.view_laws.proofs.votes.Memberships.{memberships_vote}
use Rattle.view_laws.proofs.vote_laws.memberships_vote.Goals as goal

pub returns : goal.returns
returns c = memberships_vote hosts_follow
