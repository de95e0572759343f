-- To make a link, to split it into its ends and to join them keep its rule.
use Rattle.std.proofs.Common.{◌≡◌, ◌≢◌, ℕ, true, false, List, [], ◌∷◌, ◌++◌, length, set, sym, refl, ap, ◌∙◌}
use Rattle.std.proofs.Common.{⊎_elim, arith}
use mathlib.Core.Option.{some}
use lib.ListN.{get_elem?}
use Rattle.crossbeam_queue.specs.Fifo.{Forks, Merges, Learns}
use Rattle.crossbeam_queue.proofs.Lists.{at_set}
use Rattle.sig_core.specs.declared.signal.Signal.{Signal}
use Rattle.link_queue.specs.declared.rule.PassView.{PassView}
use Rattle.link_queue.specs.Rule.{pass_view, LinkFacts, IsSender, IsTaker, Knows, AllKnow, IsLink}
use Rattle.link_queue.proofs.Passes.{never, as_other, none_knows, set_knows, snoc_knows}
use Rattle.link_queue.proofs.Passes.{knows_nothing, knows_sent, knows_taken, knows_both, not_sender, not_taker}

-- the first pass has a queue with nothing in it
pub begins : IsLink [] (pass_view true true 0 0 [] [] ∷ [])
begins =
    let f : LinkFacts = record { from = 0; to = 0; sender = 0; taker = 0; sent = []; taken = [] } in
    let v : PassView = pass_view true true 0 0 [] [] in (
      f,
      record {
        splits = refl;
        room = omega arith;
        from_sender = tt;
        knows = snoc_knows f [] v (none_knows f) (knows_both f 0 v (refl, refl, refl, refl) (refl, refl, refl, refl));
      },
    )

-- one view is set, and one more pass comes
forked : (f g : LinkFacts) (views : List PassView) (pass : ℕ) (left right : PassView) → AllKnow f views
    → Knows g pass left → Knows g (length (set views pass left)) right
    → ((other : ℕ) (v : PassView) → other ≢ pass → Knows f other v → Knows g other v)
    → AllKnow g (set views pass left ++ right ∷ [])
forked f g views pass left right known mine last others =
    snoc_knows g (set views pass left) right
    (set_knows g views pass left mine (λ other v apart at. others other v apart (known other v at))) last

-- where one pass may send and take, no other may do either
others_rest : (f g : LinkFacts) (pass : ℕ) → pass ≡ f.sender → pass ≡ f.taker → (other : ℕ) (v : PassView)
    → other ≢ pass → Knows f other v → Knows g other v
others_rest f g pass sender taker other v apart known =
    knows_nothing g other v (not_sender f pass other v sender apart known) (not_taker f pass other v taker apart known)

-- the first pass is split into those of the ends, of whatever hosts
pub ends : (from to pass : ℕ) (v : PassView) → v ≡ pass_view true true 0 0 [] []
    → Forks IsLink pass v (pass_view true false from to [] []) (pass_view false true from to [] [])
ends from to pass v is held views h at =
    let f : LinkFacts = h.0 in
    let mine : Knows f pass v = h.1.knows pass v at in
    let sender : IsSender f pass v = mine.sends (ap (λ (y : PassView). y.sends) is) in
    let taker : IsTaker f pass v = mine.takes (ap (λ (y : PassView). y.takes) is) in
    let no_sent : [] ≡ f.sent = sym (ap (λ (y : PassView). y.sent) is) ∙ sender.1 in
    let no_taken : f.taken ≡ [] = sym taker.1 ∙ ap (λ (y : PassView). y.taken) is in
    let left : PassView = pass_view true false from to [] [] in
    let right : PassView = pass_view false true from to [] [] in
    let last : ℕ = length (set views pass left) in
    let g : LinkFacts = record { from = from; to = to; sender = pass; taker = last; sent = []; taken = [] } in (
      g,
      record {
        splits = no_sent ∙ h.1.splits ∙ ap (λ (xs : List Signal). xs ++ held) no_taken;
        room = omega arith;
        from_sender = tt;
        knows = forked f g views pass left right h.1.knows (knows_sent g pass left never (refl, refl, refl, refl))
            (knows_taken g last right never (refl, refl, refl, refl)) (others_rest f g pass sender.0 taker.0);
      },
    )

-- a pass that may do nothing is split off
pub asides : (pass : ℕ) (v : PassView) → Forks IsLink pass v v (pass_view false false 0 0 [] [])
asides pass v held views h at =
    let f : LinkFacts = h.0 in
    let idle : PassView = pass_view false false 0 0 [] [] in (
      f,
      record {
        splits = h.1.splits;
        room = h.1.room;
        from_sender = h.1.from_sender;
        knows = forked f f views pass v idle h.1.knows (h.1.knows pass v at)
            (knows_nothing f (length (set views pass v)) idle never never) (λ other u apart known. known);
      },
    )

-- a pass that may send and take is split into those of the ends
pub parts : (pass : ℕ) (v : PassView) → v.sends ≡ true → v.takes ≡ true
    → Forks IsLink pass v (pass_view true false v.from v.to v.sent []) (pass_view false true v.from v.to [] v.taken)
parts pass v may_send may_take held views h at =
    let f : LinkFacts = h.0 in
    let mine : Knows f pass v = h.1.knows pass v at in
    let sender : IsSender f pass v = mine.sends may_send in
    let taker : IsTaker f pass v = mine.takes may_take in
    let left : PassView = pass_view true false v.from v.to v.sent [] in
    let right : PassView = pass_view false true v.from v.to [] v.taken in
    let last : ℕ = length (set views pass left) in
    let g : LinkFacts =
    record { from = f.from; to = f.to; sender = pass; taker = last; sent = f.sent; taken = f.taken }
    in (
      g,
      record {
        splits = h.1.splits;
        room = h.1.room;
        from_sender = h.1.from_sender;
        knows = forked f g views pass left right h.1.knows
            (knows_sent g pass left never (refl, sender.1, sender.2, sender.3))
            (knows_taken g last right never (refl, taker.1, taker.2, taker.3)) (others_rest f g pass sender.0 taker.0);
      },
    )

-- the sender's pass takes in the taker's
pub merges : (pass : ℕ) (v : PassView) (other : ℕ) (u : PassView) → v.sends ≡ true → u.takes ≡ true
    → Merges IsLink pass v other u (pass_view true true v.from v.to v.sent u.taken) (pass_view false false 0 0 [] [])
merges pass v other u may_send may_take held views h at apart at' =
    let f : LinkFacts = h.0 in
    let both : PassView = pass_view true true v.from v.to v.sent u.taken in
    let idle : PassView = pass_view false false 0 0 [] [] in
    let was : get_elem? views other ≡ some u =
    ⊎_elim (λ x. absurd (apart x.0)) (λ x. x.1) (at_set views pass other both u at')
    in
    let sender : IsSender f pass v = (h.1.knows pass v at).sends may_send in
    let taker : IsTaker f other u = (h.1.knows other u was).takes may_take in
    let g : LinkFacts =
    record { from = f.from; to = f.to; sender = pass; taker = pass; sent = f.sent; taken = f.taken }
    in
    let mine : Knows g pass both =
    knows_both g pass both (refl, sender.1, sender.2, sender.3) (refl, taker.1, sender.2, sender.3)
    in
    let third : (k : ℕ) (w : PassView) → k ≢ other → get_elem? (set views pass both) k ≡ some w → Knows g k w =
    λ k w aside at''.
    ⊎_elim (λ (x : (k ≡ pass) × (both ≡ w)). as_other g k pass w both x.0 x.1 mine)
    (λ (x : (k ≢ pass) × (get_elem? views k ≡ some w)).
    let known = h.1.knows k w x.1 in
    knows_nothing g k w (not_sender f pass k w sender.0 x.0 known)
    (not_taker f other k w taker.0 aside known))
    (at_set views pass k both w at'')
    in (
      g,
      record {
        splits = h.1.splits;
        room = h.1.room;
        from_sender = h.1.from_sender;
        knows = set_knows g (set views pass both) other idle (knows_nothing g other idle never never) third;
      },
    )

-- what was sent is what was taken and what the queue holds
pub whole : (pass : ℕ) (v : PassView) → v.sends ≡ true → v.takes ≡ true
    → Learns IsLink pass v (λ held. v.sent ≡ v.taken ++ held)
whole pass v may_send may_take held views h at =
    let mine = h.1.knows pass v at in
    (mine.sends may_send).1 ∙ h.1.splits ∙ ap (λ (xs : List Signal). xs ++ held) (sym (mine.takes may_take).1)
