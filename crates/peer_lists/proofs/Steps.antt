-- What the steps of a host send, by the machine, is what its peers and its own queue get.
use Rattle.std.proofs.Common.{◌≡◌, ℕ, Bool, true, false, List, [], ◌∷◌, ◌++◌, Option, None, Some}
use Rattle.std.proofs.Common.{refl, sym, ap, ◌∙◌, subst}
use Rattle.std.specs.Prelude.{if◌then◌else◌, ◌==◌, map, reverse}
use Rattle.std.specs.Prelude.{option_map}
use Rattle.std.proofs.lemmas.Bool.{eqb-true}
use Rattle.std.proofs.lemmas.List.{map-append, reverse-append}
use Rattle.run_theory.proofs.Links.{sent_more}
use Rattle.run_theory.proofs.Pasts.{past_trans}
use Rattle.run_theory.specs.Links.{put, sent}
use Rattle.sig_core.specs.declared.signal.Signal.{Signal}
use Rattle.world_core.specs.Machine.{counted}
use Rattle.world_core.specs.Right.{arriving}
use Rattle.world_core.specs.Start.{Start, made}
use Rattle.world_core.specs.Steps.{Addressed, HostStep}
use Rattle.world_views.specs.declared.sender.Sender.{Sender}
use Rattle.world_views.specs.Machine.{after, machine, routed_after, sender, sent_count}
use Rattle.world_views.specs.Sending.{Routed, addressed, all_addressed, count_routed, headed}
use Rattle.world_views.proofs.LogFacts.{sent_going_on}
use Rattle.peer_lists.specs.declared.sending.Sending.{Sending}
use Rattle.peer_lists.specs.Machine.{HasAllSent, HasOwnSent, HaveAllSent, sending, sendings_of}
use Rattle.peer_lists.specs.Peers.{PeerState, delivered, own_of, peer_to, with_signals}
use Rattle.peer_lists.specs.Waiting.{Waiting, all_sent, sent_if}
use Rattle.peer_lists.proofs.Deliveries.{peers_get}

-- signals as they arrive at host j, the newest first
abbrev arrived : ℕ → List Signal → List Addressed
arrived j xs = map (arriving j) (reverse xs)

arrived_behind : (j : ℕ) (xs ys : List Signal) → arrived j (xs ++ ys) ≡ arrived j ys ++ arrived j xs
arrived_behind j xs ys =
    ap (map (arriving j)) (reverse-append xs ys) ∙ map-append (arriving j) (reverse ys) (reverse xs)

module _ (start : Start) (by : Sender) (j : ℕ) where
  -- one signal more, if it is for host j
  abbrev one_sent : Bool → Bool → Signal → Waiting → Waiting
  one_sent shut b x w = if b then sent_if shut x w else w

  numbered_one : (shut b : Bool) (r : Routed) (w : Waiting) (count : ℕ → ℕ) → (r.to == j) ≡ b
      → w.numbered ≡ count j → (one_sent shut b (headed by 0 r.sent) w).numbered ≡ counted r.to count j
  numbered_one true true r w count e same = rw e (rw same refl)
  numbered_one false true r w count e same = rw e (rw same refl)
  numbered_one shut false r w count e same = rw e same

  -- the numbers rise as the machine counts
  pub numbered_all : (shut : Bool) (rs : List Routed) (w : Waiting) (count : ℕ → ℕ) → w.numbered ≡ count j
      → (all_sent shut j (map (sending by) rs) w).numbered ≡ count_routed rs count j
  numbered_all shut [] w count same = same
  numbered_all shut (r ∷ rs) w count same =
      numbered_all shut rs (one_sent shut (r.to == j) (headed by 0 r.sent) w) (counted r.to count)
      (numbered_one shut (r.to == j) r w count refl same)

  -- nothing waits for a host that has shut its links
  pub none_waits : (rs : List Routed) (w : Waiting) → w.signals ≡ []
      → (all_sent true j (map (sending by) rs) w).signals ≡ []
  none_waits [] w none = none
  none_waits (r ∷ rs) w none = none_waits rs (one_sent true (r.to == j) (headed by 0 r.sent) w) (one (r.to == j))
    where
      one : (b : Bool) → (one_sent true b (headed by 0 r.sent) w).signals ≡ []
      one true = none
      one false = none

  -- what waits, in front of what went before, is all that was sent
  abbrev IsAll : Waiting → List Addressed → List Addressed → Type 0
  IsAll w before all = arrived j w.signals ++ before ≡ all

  one_more_waits : (b : Bool) (r : Routed) (w : Waiting) (count : ℕ → ℕ) (before all : List Addressed)
      → (r.to == j) ≡ b → w.numbered ≡ count j → IsAll w before all
      → IsAll (one_sent false b (headed by 0 r.sent) w) before (if b then addressed by (count r.to) r ∷ all else all)
  one_more_waits true r w count before all e same is =
      let at : r.to ≡ j = eqb-true r.to j e in
      ap (λ (xs : List Addressed). xs ++ before) (arrived_behind j w.signals (headed by w.numbered r.sent ∷ []))
      ∙ ap (λ (xs : List Addressed). arriving j (headed by w.numbered r.sent) ∷ xs) is
      ∙ sym (ap (λ (k : ℕ). addressed by k r ∷ all) (ap count at ∙ sym same)
      ∙ ap (λ (to : ℕ). record { to = to; signal = headed by w.numbered r.sent } ∷ all) at)
  one_more_waits false r w count before all e same is = is

  pub all_wait : (rs : List Routed) (w : Waiting) (count : ℕ → ℕ) (before all : List Addressed)
      → w.numbered ≡ count j → IsAll w before all
      → IsAll (all_sent false j (map (sending by) rs) w) before (put (machine start) j (all_addressed by count rs) all)
  all_wait [] w count before all same is = is
  all_wait (r ∷ rs) w count before all same is =
      all_wait rs (one_sent false (r.to == j) (headed by 0 r.sent) w) (counted r.to count) before
      (if r.to == j then addressed by (count r.to) r ∷ all else all)
      (numbered_one false (r.to == j) r w count refl same)
      (one_more_waits (r.to == j) r w count before all refl same is)

-- a peer is the host that it was found as
peer_is : (ps : List PeerState) (j : ℕ) (p : PeerState) → peer_to ps j ≡ Some p → p.host ≡ j
peer_is [] j p found = absurd cc
peer_is (q ∷ ps) j p found = go (q.host == j) refl found (λ later. peer_is ps j p later)
  where
    go : (b : Bool) → (q.host == j) ≡ b → (if b then Some q else peer_to ps j) ≡ Some p
        → (peer_to ps j ≡ Some p → p.host ≡ j) → p.host ≡ j
    go true e same rest =
        let is : q ≡ p = cc in
        subst (λ (r : PeerState). r.host ≡ j) is (eqb-true q.host j e)
    go false e same rest = rest same

module _ (start : Start) (h : ℕ) (log : List HostStep) (e : HostStep)
    (goes_on : (machine start).stops e ≡ false) where
  abbrev count : ℕ → ℕ
  count = sent_count start h log

  pub own_kept : (gone : List Addressed) (own : Waiting) → HasOwnSent start h log gone own
      → HasOwnSent start h (e ∷ log) gone (own_of h (sendings_of start h log e) own)
  own_kept gone own was =
      let by : Sender = sender (made start) h e.step.stamp (after start h (e ∷ log)).standing.view in
      let rs : List Routed = routed_after start h log e in
      record {
        holds = all_wait start by h rs own count gone (sent (machine start) h h log) was.numbered was.holds
            ∙ sym (sent_going_on start h h log e goes_on);
        numbered = numbered_all start by h false rs own count was.numbered;
      }

  -- a peer gets what was sent to it
  peer_kept : (p : PeerState) → HasAllSent start h log p
      → HasAllSent start h (e ∷ log) (with_signals p.host (sendings_of start h log e) p)
  peer_kept p was =
      let by : Sender = sender (made start) h e.step.stamp (after start h (e ∷ log)).standing.view in
      let rs : List Routed = routed_after start h log e in
      let xs : List Sending = sendings_of start h log e in
      let all : List Addressed = sent (machine start) h p.host log in
      record {
        put = λ open_still.
            subst
            (λ (shut : Bool).
            arrived p.host (p.sent ++ (all_sent shut p.host xs p.waiting).signals)
            ≡ sent (machine start) h p.host (e ∷ log))
            (sym open_still)
            (arrived_behind p.host p.sent (all_sent false p.host xs p.waiting).signals
            ∙ all_wait start by p.host rs p.waiting count (arrived p.host p.sent) all was.numbered
            (sym (arrived_behind p.host p.sent p.waiting.signals) ∙ was.put open_still)
            ∙ sym (sent_going_on start h p.host log e goes_on));
        rest = λ closed. past_trans (was.rest closed) (sent_more (machine start) h p.host log e);
        empty = λ closed.
            subst (λ (shut : Bool). (all_sent shut p.host xs p.waiting).signals ≡ []) (sym closed)
            (none_waits start by p.host rs p.waiting (was.empty closed));
        numbered = numbered_all start by p.host p.shut rs p.waiting count was.numbered;
      }

  pub peers_kept : (ps : List PeerState) → HaveAllSent start h log ps
      → HaveAllSent start h (e ∷ log) (delivered h (sendings_of start h log e) ps)
  peers_kept ps was j q apart found =
      go (peer_to ps j) refl (sym (peers_get h (sendings_of start h log e) ps j apart) ∙ found)
    where
      go : (o : Option PeerState) → peer_to ps j ≡ o
          → option_map (with_signals j (sendings_of start h log e)) o ≡ Some q → HasAllSent start h (e ∷ log) q
      go None at same = absurd cc
      go (Some p) at same =
          let is : with_signals j (sendings_of start h log e) p ≡ q = cc in
          subst (HasAllSent start h (e ∷ log)) is
          (subst (λ (k : ℕ). HasAllSent start h (e ∷ log) (with_signals k (sendings_of start h log e) p))
          (peer_is ps j p at) (peer_kept p (was j p apart at)))
