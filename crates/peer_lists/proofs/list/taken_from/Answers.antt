use Rattle.std.proofs.Common.{ap, length, sym, ◌∙◌}
use Rattle.peer_lists.specs.Peers.{taken_by}
use Rattle.peer_lists.proofs.Places.{no_peer, peer_found}
use Rattle.peer_lists.proofs.list.taken_from.Goals as goal

pub returns-in-Some : goal.returns-in-Some
returns-in-Some g c =
    let state = g.P.Peer.state_of in
    let p = c.index-peers-at.result in
    c.taken.ensures ∙ ap (λ p. length (state p).taken) c.index-peers-at.is
    ∙ sym (ap (λ o. length (taken_by o))
    (peer_found state c.args.peers.now c.args.host.0 c.in-Some.at p (sym c.find.ensures.place ∙ c.in-Some.is)))

pub returns-in-None : goal.returns-in-None
returns-in-None g c =
    sym (ap (λ o. length (taken_by o))
    (no_peer g.P.Peer.state_of c.args.peers.now c.args.host.0 (sym c.find.ensures.place ∙ c.in-None.is)))
