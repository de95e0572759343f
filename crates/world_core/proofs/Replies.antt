-- The replies in a log of host 0.
use Rattle.std.proofs.Common.{List, [], ◌∷◌, ◌++◌, ap, sym, ◌∙◌, subst}
use Rattle.std.proofs.lemmas.List.{append-nil, append_assoc}
use Rattle.node_core.proofs.HostLemmas.{IsFront}
use Rattle.node_core.proofs.HostLemmas as host
use Rattle.node_core.specs.Replies as reply
use Rattle.run_theory.specs.Lists.{IsPast}
use Rattle.sig_core.specs.declared.reply.ApiReply.{ApiReply}
use Rattle.world_core.specs.Machine.{after}
use Rattle.world_core.specs.Start.{Start}
use Rattle.world_core.specs.Steps.{HostStep}

front_itself : (xs : List ApiReply) → IsFront xs xs
front_itself xs = record { more = []; is = sym (append-nil xs) }

front_further : (xs ys zs : List ApiReply) → IsFront xs ys → IsFront ys zs → IsFront xs zs
front_further xs ys zs a b =
    record { more = a.more ++ b.more; is = b.is ∙ ap (λ us. us ++ b.more) a.is ∙ append_assoc xs a.more b.more }

newer_add : (start : Start) (newer log : List HostStep)
    → IsFront (reply.replies_of (after start 0 log)) (reply.replies_of (after start 0 (newer ++ log)))
newer_add start [] log = front_itself (reply.replies_of (after start 0 log))
newer_add start (e ∷ newer) log =
    front_further (reply.replies_of (after start 0 log)) (reply.replies_of (after start 0 (newer ++ log)))
    (reply.replies_of (after start 0 (e ∷ (newer ++ log))))
    (newer_add start newer log) (host.replies_grow (after start 0 (newer ++ log)) e.step.taken)

-- replies stand in longer logs as they did
pub replies_grow : (start : Start) (log all : List HostStep) → IsPast log all
    → IsFront (reply.replies_of (after start 0 log)) (reply.replies_of (after start 0 all))
replies_grow start log all past =
    subst (λ l. IsFront (reply.replies_of (after start 0 log)) (reply.replies_of (after start 0 l))) (sym past.is)
    (newer_add start past.newer log)
