-- A block that has taken a request for a fence has one that isn't below it.
use Rattle.std.proofs.Common.{◌≡◌, ◌≤◌, ℕ, List, [], ◌∷◌, sym, subst, arith, inl, inr}
use Rattle.std.specs.Prelude.{Option, None, Some}
use Rattle.run_theory.specs.Lists.{IsIn}
use Rattle.sig_core.specs.declared.place.BlockId.{BlockId}
use Rattle.sig_core.specs.declared.signal.Body.{Body}
use Rattle.sig_core.specs.declared.signal.Body.TheVariants.{Membership}
use Rattle.sig_core.specs.declared.signal.membership.MembershipSignal.TheVariants.{FenceReq}
use Rattle.sig_core.specs.declared.signal.Signal.{Signal}
use Rattle.sig_core.specs.declared.view.View.{View}
use Rattle.node_views.specs.Parts.{raised}
use Rattle.qmgr_block.specs.Laws.{Event, installs, takes}
use Rattle.world_core.specs.Start.{Start}
use Rattle.world_core.specs.Steps.{HostStep}
use Rattle.world_views.specs.Hosts.{started}
use Rattle.world_views.specs.Machine.{after}
use Rattle.view_laws.specs.HostEvents.{events_of, taken_in}
use Rattle.view_laws.proofs.fences.Seen.{fence_is_seen, fence_seen, is_block, to_fence}
use Rattle.view_laws.proofs.fences.AboveViews.{greater_first, greater_second, raised_above}
use Rattle.view_laws.proofs.follow.Walk.{along, log_goes}

-- the fence, where there is one, isn't below the number
abbrev pub IsFencedAt : ℕ → Option ℕ → Type 0
IsFencedAt number None = Unit {0}
IsFencedAt number (Some fence) = number ≤ fence

more_fenced : (number : ℕ) (fence : Option ℕ) (event : Event) → IsFencedAt number fence
    → IsFencedAt number (to_fence fence event)
more_fenced number None event low = tt
more_fenced number (Some fence) (takes x) low = omega (arith, low, raised_above fence x.body)
more_fenced number (Some fence) (installs view) low = omega (arith, low, greater_first fence view.number)

now_fenced : (fence : ℕ) (set : View) (body : Body) → body ≡ Membership (FenceReq set)
    → set.number ≤ raised fence body
now_fenced fence set body says =
    subst (λ body. set.number ≤ raised fence body) (sym says) (greater_second fence set.number)

first_fenced : (fence : Option ℕ) (x : Signal) (set : View) → x.body ≡ Membership (FenceReq set)
    → IsFencedAt set.number (to_fence fence (takes x))
first_fenced None x set says = tt
first_fenced (Some fence) x set says = now_fenced fence set x.body says

events_fenced : (begins : Option ℕ) (events : List Event) (x : Signal) (set : View)
    → x.body ≡ Membership (FenceReq set) → IsIn x (taken_in events)
    → IsFencedAt set.number (along to_fence begins events)
events_fenced begins [] x set says there = absurd there
events_fenced begins (installs view ∷ events) x set says there =
    more_fenced set.number (along to_fence begins events) (installs view) (events_fenced begins events x set says there)
events_fenced begins (takes y ∷ events) x set says (inl same) =
    first_fenced (along to_fence begins events) y set
    (subst (λ (z : Signal). z.body ≡ Membership (FenceReq set)) same says)
events_fenced begins (takes y ∷ events) x set says (inr there) =
    more_fenced set.number (along to_fence begins events) (takes y) (events_fenced begins events x set says there)

pub taken_fenced : (start : Start) (h : ℕ) (log : List HostStep) (at : BlockId) (x : Signal) (set : View)
    → x.body ≡ Membership (FenceReq set) → IsIn x (taken_in (events_of (is_block at) start h log))
    → IsFencedAt set.number (fence_seen at (after start h log))
taken_fenced start h log at x set says there =
    subst (IsFencedAt set.number) (sym (log_goes (is_block at) (fence_seen at) to_fence (fence_is_seen at) start h log))
    (events_fenced (fence_seen at (started start h)) (events_of (is_block at) start h log) x set says there)
