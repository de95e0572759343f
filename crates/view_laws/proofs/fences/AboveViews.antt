-- The fence of a block isn't below the view that its host stands in.
use Rattle.std.proofs.Common.{◌≡◌, ◌≤◌, ℕ, zero, suc, Bool, true, false, List, [], ◌∷◌, nat_lt, refl, sym, subst, arith}
use Rattle.std.proofs.lemmas.Bool.{ltb-false, ltb-true}
use Rattle.std.specs.Prelude.{◌%◌, if◌then◌else◌, Option, None, Some}
use Rattle.sig_core.specs.declared.member.Member.{Member}
use Rattle.sig_core.specs.declared.place.BlockId.{BlockId}
use Rattle.sig_core.specs.declared.place.BlockId.TheVariants as block
use Rattle.sig_core.specs.declared.place.Part.{Part}
use Rattle.sig_core.specs.declared.place.Part.TheVariants.{Ldm, Main, Tc}
use Rattle.sig_core.specs.declared.signal.Body.{Body}
use Rattle.sig_core.specs.declared.signal.Body.TheVariants.{Membership}
use Rattle.sig_core.specs.declared.signal.membership.MembershipSignal.TheVariants.{FenceReq}
use Rattle.sig_core.specs.declared.view.View.{View}
use Rattle.node_views.specs.Parts.{greater, raised}
use Rattle.qmgr_block.specs.Laws.{Event, installs, takes}
use Rattle.world_core.specs.Hosts.{member_at, part_by}
use Rattle.world_core.specs.Start.{NobodyStarts, Start, made}
use Rattle.world_core.specs.Steps.{HostStep}
use Rattle.world_views.specs.Hosts.{part_started, started}
use Rattle.world_views.specs.Machine.{after}
use Rattle.world_views.proofs.AllBegin.{started_behind}
use Rattle.view_laws.specs.Fences.{FencesAreNotBelow}
use Rattle.view_laws.specs.HostEvents.{events_of}
use Rattle.view_laws.proofs.fences.Seen.{fence_is, fence_is_seen, fence_or, fence_seen, is_block, to_fence}
use Rattle.view_laws.proofs.follow.Seen.{to_view, view_is_seen, view_seen}
use Rattle.view_laws.proofs.follow.Walk.{along, log_goes}

-- the greater of two is no less than either
pub greater_first : (one other : ℕ) → one ≤ greater one other
greater_first one other = by (nat_lt one other) refl
  where
    by : (b : Bool) → nat_lt one other ≡ b → one ≤ (if b then other else one)
    by true e = omega (arith, ltb-true one other e)
    by false e = omega arith

pub greater_second : (one other : ℕ) → other ≤ greater one other
greater_second one other = by (nat_lt one other) refl
  where
    by : (b : Bool) → nat_lt one other ≡ b → other ≤ (if b then other else one)
    by true e = omega arith
    by false e = omega (arith, ltb-false one other e)

-- a signal lowers no fence
pub raised_above : (fence : ℕ) (body : Body) → fence ≤ raised fence body
raised_above fence (Membership (FenceReq proposal)) = greater_first fence proposal.number
raised_above fence _ = omega arith

IsNotBelow : View → Option ℕ → Type 0
IsNotBelow view fence = view.number ≤ fence_or fence view.number

event_above : (view : View) (fence : Option ℕ) (event : Event) → IsNotBelow view fence
    → IsNotBelow (to_view view event) (to_fence fence event)
unfolding IsNotBelow
event_above view None (takes x) above = omega arith
event_above view None (installs other) above = omega arith
event_above view (Some fence) (takes x) above = omega (arith, above, raised_above fence x.body)
event_above view (Some fence) (installs other) above = greater_second fence other.number

events_above : (view : View) (fence : Option ℕ) (events : List Event) → IsNotBelow view fence
    → IsNotBelow (along to_view view events) (along to_fence fence events)
events_above view fence [] above = above
events_above view fence (event ∷ events) above =
    event_above (along to_view view events) (along to_fence fence events) event (events_above view fence events above)

-- a host as it begins is fenced at its view
part_above : (start : Start) (part : Part) (member : Member) (at : BlockId)
    → IsNotBelow (part_started start part member).standing.view (fence_seen at (part_started start part member))
unfolding IsNotBelow
part_above start Main member at = omega arith
part_above start Tc member block.Tc = omega arith
part_above start Tc member block.Dih = omega arith
part_above start Tc member _ = omega arith
part_above start Ldm member block.Lqh = omega arith
part_above start Ldm member _ = omega arith

started_above : (start : Start) (nobody : NobodyStarts start) (h : ℕ) (at : BlockId)
    → IsNotBelow (started start h).standing.view (fence_seen at (started start h))
unfolding started IsNotBelow
started_above start nobody zero at = omega arith
started_above start nobody (suc h) at =
    subst (λ s. IsNotBelow s.standing.view (fence_seen at s)) (sym (started_behind start nobody h))
    (part_above start (part_by (h % 3)) (member_at (made start) (suc h)) at)

log_above : (start : Start) (nobody : NobodyStarts start) (h : ℕ) (log : List HostStep) (at : BlockId)
    → IsNotBelow (after start h log).standing.view (fence_seen at (after start h log))
log_above start nobody h log at =
    let events = events_of (is_block at) start h log in
    subst (λ view. IsNotBelow view (fence_seen at (after start h log)))
    (sym (log_goes (is_block at) view_seen to_view (view_is_seen (is_block at)) start h log))
    (subst (IsNotBelow (along to_view (started start h).standing.view events))
    (sym (log_goes (is_block at) (fence_seen at) to_fence (fence_is_seen at) start h log))
    (events_above (started start h).standing.view (fence_seen at (started start h)) events
    (started_above start nobody h at)))

pub fences_are_not_below : FencesAreNotBelow
unfolding IsNotBelow
fences_are_not_below start nobody h log at =
    let number = (after start h log).standing.view.number in
    subst (λ fence. number ≤ fence) (sym (fence_is (after start h log).parts at number))
    (log_above start nobody h log at)
