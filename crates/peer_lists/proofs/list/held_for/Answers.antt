use Rattle.std.proofs.Common.{ap, length, sym, ◌∙◌}
use Rattle.peer_lists.specs.Peers.{waiting_by}
use Rattle.peer_lists.proofs.Places.{no_peer, peer_found}
use Rattle.peer_lists.proofs.list.held_for.Goals as goal

pub returns-in-Some : goal.returns-in-Some
returns-in-Some g c =
    let state = g.P.Peer.state_of in
    let p = c.index-peers-at.result in
    c.held.ensures ∙ ap (λ p. length (state p).waiting.signals) c.index-peers-at.is
    ∙ sym (ap (λ o. length (waiting_by o).signals)
    (peer_found state c.args.peers.now c.args.host.0 c.in-Some.at p (sym c.find.ensures.place ∙ c.in-Some.is)))

pub returns-in-None : goal.returns-in-None
returns-in-None g c =
    sym (ap (λ o. length (waiting_by o).signals)
    (no_peer g.P.Peer.state_of c.args.peers.now c.args.host.0 (sym c.find.ensures.place ∙ c.in-None.is)))
