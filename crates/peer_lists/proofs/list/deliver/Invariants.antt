use Rattle.std.proofs.Common.{◌≡◌, length, map}
use Rattle.peer_lists.specs.Peers.{AreSameLinks, delivered, own_of}
use Rattle.peer_lists.proofs.list.deliver.Given as goal

-- what is left to deliver leads to the same as all of it did, and no link has changed
abbrev pub invariant-loop-sending : goal.invariant-loop-sending
invariant-loop-sending g l = record {
  own : own_of l.host.0 l.sends.items l.own ≡ own_of l.host.0 l.initial.sends.items l.initial.own;
  peers : delivered l.host.0 l.sends.items (map g.P.Peer.state_of l.peers)
      ≡ delivered l.host.0 l.initial.sends.items (map g.P.Peer.state_of l.initial.peers);
  links : AreSameLinks (map g.P.Peer.state_of l.initial.peers) (map g.P.Peer.state_of l.peers);
}

abbrev pub decreases-loop-sending : goal.decreases-loop-sending
decreases-loop-sending g l = length l.sends.items
