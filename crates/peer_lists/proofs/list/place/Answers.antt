use Rattle.std.proofs.Common.{sym, ◌∙◌}
use Rattle.std.proofs.lemmas.Result.{on_err_weaker, on_ok_weaker}
use Rattle.peer_lists.proofs.Places.{placed_at, placed_nowhere, same_at}
use Rattle.peer_lists.proofs.list.place.Goals as goal

pub returns-in-Some-clause-ok : goal.returns-in-Some-clause-ok
returns-in-Some-clause-ok g c =
    let state = g.P.Peer.state_of in
    let p = c.index-peers-at.result in
    on_ok_weaker c.send.result
    (λ gets.
    placed_at state c.args.peers.now c.args.sending c.in-Some.at p c.send.new.self
    (sym c.find.ensures.place ∙ c.in-Some.is) gets)
    c.send.ensures.ok

pub returns-in-Some-clause-err : goal.returns-in-Some-clause-err
returns-in-Some-clause-err g c =
    let state = g.P.Peer.state_of in
    let p = c.index-peers-at.result in
    on_err_weaker c.send.result
    (λ same. same_at state c.args.peers.now c.in-Some.at p c.send.new.self same)
    c.send.ensures.err

pub returns-in-None-clause-ok : goal.returns-in-None-clause-ok
returns-in-None-clause-ok g c =
    placed_nowhere g.P.Peer.state_of c.args.peers.now c.args.sending (sym c.find.ensures.place ∙ c.in-None.is)
