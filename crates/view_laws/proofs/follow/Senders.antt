-- What the signals tell of who sent them.
use Rattle.std.proofs.Common.{◌≡◌, ℕ, Bool, true, false, List, [], ◌∷◌, refl, ap, inl, inr}
use Rattle.run_theory.specs.Lists.{Each, IsIn}
use Rattle.run_theory.proofs.Pasts.{each_map}
use Rattle.sig_core.specs.declared.member.Member.{Member}
use Rattle.sig_core.specs.declared.outs.Outgoing.{Outgoing}
use Rattle.sig_core.specs.declared.signal.Body.{Body}
use Rattle.sig_core.specs.declared.signal.Body.TheVariants.{Host}
use Rattle.sig_core.specs.declared.signal.Signal.{Signal}
use Rattle.sig_core.specs.declared.view.View.{View}
use Rattle.node_views.specs.declared.standing.Standing.{Standing}
use Rattle.world_core.specs.Hosts.{member_at}
use Rattle.world_core.specs.Machine.{counted}
use Rattle.world_core.specs.Start.{Start, made}
use Rattle.world_core.specs.Steps.{Addressed, HostStep}
use Rattle.world_views.specs.Hosts.{reached}
use Rattle.world_views.specs.Machine.{IsOwn, IsOwnWork, after, routed_after, sender, sent_count, signals_of, step_after}
use Rattle.world_views.specs.Sending.{Routed, all_addressed, is_kept_back, routed, routed_all, routed_if}
use Rattle.view_laws.specs.Votes.{is_vote}

-- One of these is on its way from host h, standing in this view, to where that reaches its place.
pub record IsSentBy (made : List Member) (h : ℕ) (view : View) (sends : List Outgoing) (x : Addressed) : Type 0 where
  pub from : x.signal.from.0 ≡ h
  pub member : x.signal.member ≡ member_at made h
  pub view_is : x.signal.view ≡ view
  pub sent : Outgoing
  pub there : IsIn sent sends
  pub body : x.signal.body ≡ sent.body
  pub place : x.signal.to ≡ sent.to
  pub to : x.to ≡ reached made h view sent.to

-- one of these is sent to where its place is reached
record IsRoutedBy (made : List Member) (h : ℕ) (view : View) (sends : List Outgoing) (r : Routed) : Type 0 where
  there : IsIn r.sent sends
  to : r.to ≡ reached made h view r.sent.to

module _ (made : List Member) (h : ℕ) (standing : Standing) where
  routed_more : (first : Outgoing) (sends : List Outgoing) (rs : List Routed)
      → Each (IsRoutedBy made h standing.view sends) rs → Each (IsRoutedBy made h standing.view (first ∷ sends)) rs
  routed_more first sends rs all =
      each_map (IsRoutedBy made h standing.view sends) (IsRoutedBy made h standing.view (first ∷ sends)) rs
      (λ r one. record { there = inr one.there; to = one.to }) all

  kept_routed : (first : Outgoing) (sends : List Outgoing) (rs : List Routed) (kept : Bool)
      → Each (IsRoutedBy made h standing.view sends) rs
      → Each (IsRoutedBy made h standing.view (first ∷ sends))
      (routed_if kept (routed (reached made h standing.view first.to) first) rs)
  kept_routed first sends rs true all = routed_more first sends rs all
  kept_routed first sends rs false all = (record { there = inl refl; to = refl }, routed_more first sends rs all)

  each_routed : (sends : List Outgoing)
      → Each (IsRoutedBy made h standing.view sends) (routed_all made h standing sends)
  each_routed [] = tt
  each_routed (first ∷ sends) =
      kept_routed first sends (routed_all made h standing sends)
      (is_kept_back h standing (reached made h standing.view first.to) first) (each_routed sends)

each_addressed : (made : List Member) (h stamp : ℕ) (view : View) (sends : List Outgoing) (count : ℕ → ℕ)
    (rs : List Routed) → Each (IsRoutedBy made h view sends) rs
    → Each (IsSentBy made h view sends) (all_addressed (sender made h stamp view) count rs)
each_addressed made h stamp view sends count [] all = tt
each_addressed made h stamp view sends count (r ∷ rs) all = (
  record {
    from = refl;
    member = refl;
    view_is = refl;
    sent = r.sent;
    there = all.0.there;
    body = refl;
    place = refl;
    to = all.0.to;
  },
  each_addressed made h stamp view sends (counted r.to count) rs all.1,
)

-- what host h sends in a step has the view that it stands in then
pub each_sent : (start : Start) (h : ℕ) (log : List HostStep) (e : HostStep)
    → Each (IsSentBy (made start) h (after start h (e ∷ log)).standing.view (step_after start h log e).effects.sends)
    (signals_of start h log e)
each_sent start h log e =
    let standing = (after start h (e ∷ log)).standing in
    let sends = (step_after start h log e).effects.sends in
    each_addressed (made start) h e.step.stamp standing.view sends (sent_count start h log) (routed_after start h log e)
    (each_routed (made start) h standing sends)

-- what a host asks of itself has the view that it stands in, and is no vote
pub own_view : (start : Start) (h : ℕ) (log : List HostStep) (x : Signal) → IsOwn start h log x
    → x.view ≡ (after start h log).standing.view
own_view start h log x own = ap (λ (y : Signal). y.view) own.is

pub own_is_no_vote : (start : Start) (h : ℕ) (body : Body) → IsOwnWork start h body → is_vote body ≡ false
own_is_no_vote start h (Host signal) work = refl
own_is_no_vote start h _ work = absurd work
