use Rattle.view_laws.proofs.follow.Hosts.{hosts_follow}
use Rattle.view_laws.proofs.vote_laws.hosts_follow_their_events.Goals as goal

pub returns : goal.returns
returns c = hosts_follow
