-- A fenced block takes each request for its fence that comes to its host and is well formed, unless the host stops
-- by it.
use Rattle.std.proofs.Common.{◌≡◌, ◌⊎◌, ◌||◌, ◌++◌, ◌∙◌, ℕ, zero, suc, Bool, true, false, List, [], ◌∷◌, refl, ap, inl}
use Rattle.std.proofs.Common.{inr}
use Rattle.std.specs.Prelude.{◌==◌, if◌then◌else◌, not, Option, None, Some}
use Rattle.run_theory.specs.Lists.{IsIn}
use Rattle.sig_core.specs.declared.mark.Mark.{Mark}
use Rattle.sig_core.specs.declared.outcome.StopCause.{StopCause}
use Rattle.sig_core.specs.declared.place.BlockId.{BlockId}
use Rattle.sig_core.specs.declared.signal.Body.{Body}
use Rattle.sig_core.specs.declared.signal.Body.TheVariants.{Membership}
use Rattle.sig_core.specs.declared.signal.membership.MembershipSignal.TheVariants.{FenceReq}
use Rattle.sig_core.specs.declared.signal.Signal.{Signal}
use Rattle.sig_core.specs.declared.view.View.{View}
use Rattle.node_views.specs.Blocks.{settled_at}
use Rattle.node_views.specs.declared.host_body.HostBody as hosts
use Rattle.node_views.specs.Fence.{is_body_fenced, is_fenced}
use Rattle.node_views.specs.Row.{counted_row, entered, entering_if, headed_if, headed_row, host_row, is_barred}
use Rattle.node_views.specs.Row.{is_excluded, killed_after, standing_at, taken_if}
use Rattle.node_views.specs.WellFormed.{is_well_formed}
use Rattle.qmgr_block.specs.Laws.{Event, installs, takes}
use Rattle.world_views.specs.Machine.{closes, own_stop, step_by, step_if, stops_by}
use Rattle.view_laws.specs.HostEvents.{block_events, counted_events, entering_events, events_at, events_by}
use Rattle.view_laws.specs.HostEvents.{headed_events, installing, is_handled, is_newer, passed_events, sound_events}
use Rattle.view_laws.specs.HostEvents.{taken_in, taking}
use Rattle.view_laws.proofs.votes.NoVotes.{is_fencing}

-- a request for a fence is never barred, and no host handles it itself or stops by what it says
open_body : (x : Signal) (body : Body) → is_fencing body ≡ true → is_body_fenced x body ≡ false
open_body x (Membership (FenceReq set)) is = refl
open_body x _ is = absurd cc

open_barred : (s : hosts.HostBody) (x : Signal) → is_fencing x.body ≡ true → is_barred s x ≡ false
unfolding is_fenced
open_barred s x is =
    rw (open_body x x.body is) refl

open_handled : (s : hosts.HostBody) (x : Signal) (body : Body) → is_fencing body ≡ true → is_handled s x body ≡ false
open_handled s x (Membership (FenceReq set)) is = refl
open_handled s x _ is = absurd cc

open_closes : (body : Body) → is_fencing body ≡ true → closes body ≡ None
open_closes (Membership (FenceReq set)) is = refl
open_closes _ is = absurd cc

open_stop : (h : ℕ) (x : Signal) → is_fencing x.body ≡ true → own_stop h x ≡ None
open_stop h x is = by (x.from.0 == h)
  where
    by : (b : Bool) → (if b then closes x.body else None) ≡ None
    by true = open_closes x.body is
    by false = refl

module _ (mine : BlockId → Bool) (x : Signal) (is : is_fencing x.body ≡ true) (own : mine x.to.block ≡ true) where
  -- the events have it, or the marks stop the host
  abbrev TakesOrStops : List Event → List Mark → Type 0
  TakesOrStops events marks = IsIn x (taken_in events) ⊎ (stops_by marks ≡ true)

  taking_has : (b : Bool) → b ≡ true → IsIn x (taken_in (taking mine x b))
  taking_has true e = inl refl
  taking_has false e = absurd cc

  block_has : (o : Option View) → IsIn x (taken_in (installing mine o ++ taking mine x (mine x.to.block)))
  block_has None = taking_has (mine x.to.block) own
  block_has (Some view) = taking_has (mine x.to.block) own

  passed_if_has : (s : hosts.HostBody) (b : Bool) → b ≡ false
      → IsIn x (taken_in (if not b then block_events mine s x else []))
  passed_if_has s true e = absurd cc
  passed_if_has s false e = block_has (settled_at s.parts x)

  passed_has : (s : hosts.HostBody) → IsIn x (taken_in (passed_events mine s x))
  passed_has s =
      passed_if_has s (is_barred s x || is_handled s x x.body)
      (ap (λ b. b || is_handled s x x.body) (open_barred s x is) ∙ open_handled s x x.body is)

  in_before : (later : List Event) (view : View) → IsIn x (taken_in later)
      → IsIn x (taken_in (later ++ installs view ∷ []))
  in_before (takes y ∷ later) view (inl same) = inl same
  in_before (takes y ∷ later) view (inr there) = inr (in_before later view there)
  in_before (installs other ∷ later) view there = in_before later view there
  in_before [] view there = absurd there

  entering_has : (s : hosts.HostBody) (excluded : Bool)
      → TakesOrStops (if excluded then [] else entering_events mine s x) (entering_if s x excluded).effects.marks
  entering_has s true = inr refl
  entering_has s false =
      inl (in_before (passed_events mine (entered s x.view).state x) x.view (passed_has (entered s x.view).state))

  headed_if_has : (s : hosts.HostBody) (newer : Bool)
      → TakesOrStops
      (if newer
      then (if is_excluded s.standing x.view then [] else entering_events mine s x)
      else passed_events mine s x)
      (headed_if s x newer).effects.marks
  headed_if_has s true = entering_has s (is_excluded s.standing x.view)
  headed_if_has s false = inl (passed_has s)

  headed_has : (s : hosts.HostBody) → TakesOrStops (headed_events mine s x) (headed_row s x).effects.marks
  unfolding headed_row
  headed_has s = headed_if_has s (is_newer mine s x)

  counted_has : (s : hosts.HostBody) (left : Option ℕ)
      → TakesOrStops (counted_events mine s x left) (counted_row s x left).effects.marks
  counted_has s None = headed_has s
  counted_has s (Some zero) = inr refl
  counted_has s (Some (suc zero)) = inr refl
  counted_has s (Some (suc (suc left))) = headed_has (standing_at s (killed_after s.standing (Some (suc left))))

  sound_has : (s : hosts.HostBody) (sound : Bool) → sound ≡ true
      → TakesOrStops (sound_events mine s x sound) (taken_if s x sound).effects.marks
  sound_has s true e = counted_has s s.standing.left
  sound_has s false e = absurd cc

  row_has : (s : hosts.HostBody) → is_well_formed s.standing.shape x ≡ true
      → TakesOrStops (sound_events mine s x (is_well_formed s.standing.shape x)) (host_row s x).effects.marks
  unfolding host_row
  row_has s sound = sound_has s (is_well_formed s.standing.shape x) sound

  by_has : (s : hosts.HostBody) → is_well_formed s.standing.shape x ≡ true → (o : Option StopCause) → o ≡ None
      → TakesOrStops (events_by mine s x o) (step_if s x o).effects.marks
  by_has s sound (Some cause) e = absurd cc
  by_has s sound None e = row_has s sound

  pub takes_or_stops : (h : ℕ) (s : hosts.HostBody) → is_well_formed s.standing.shape x ≡ true
      → TakesOrStops (events_at mine h s x) (step_by h s x).effects.marks
  takes_or_stops h s sound = by_has s sound (own_stop h x) (open_stop h x is)

-- a host keeps to the shape that it began in
