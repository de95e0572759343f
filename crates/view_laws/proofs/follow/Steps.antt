-- The few forms that the events of one step of a host have.
use Rattle.std.proofs.Common.{◌≡◌, ◌<◌, ℕ, zero, suc, Bool, true, false, nat_lt, List, [], ◌∷◌, ◌++◌, refl, subst}
use Rattle.std.proofs.lemmas.Bool.{ltb-true}
use Rattle.std.specs.Prelude.{if◌then◌else◌, Option, None, Some}
use Rattle.sig_core.specs.declared.outcome.StopCause.{StopCause}
use Rattle.sig_core.specs.declared.place.BlockId.{BlockId}
use Rattle.sig_core.specs.declared.signal.Signal.{Signal}
use Rattle.sig_core.specs.declared.view.View.{View}
use Rattle.node_views.specs.Blocks.{parts_entered, settled_at}
use Rattle.node_views.specs.declared.host_body.HostBody as hosts
use Rattle.node_views.specs.declared.parts.Parts.{Parts}
use Rattle.node_views.specs.Row.{entered, is_excluded, killed_after, standing_at}
use Rattle.node_views.specs.WellFormed.{is_well_formed}
use Rattle.qmgr_block.specs.Laws.{Event, installs}
use Rattle.world_views.specs.Machine.{own_stop}
use Rattle.view_laws.specs.HostEvents.{block_events, counted_events, entering_events, events_at, events_by}
use Rattle.view_laws.specs.HostEvents.{headed_events, installing, is_passed, passed_events, sound_events, taking}

-- blocks are passed nothing, or the signal: what they settle on is installed behind it
pub data PassesAs (mine : BlockId → Bool) (parts : Parts) (x : Signal) (events : List Event) : Type 0 where
  dropped : events ≡ [] → PassesAs mine parts x events
  passed : events ≡ installing mine (settled_at parts x) ++ taking mine x (mine x.to.block)
      → PassesAs mine parts x events

-- and before it the greater view of its header
pub data StepsAs (mine : BlockId → Bool) (parts : Parts) (view : View) (x : Signal) (events : List Event) : Type 0 where
  plain : PassesAs mine parts x events → StepsAs mine parts view x events
  entering : view.number < x.view.number → (later : List Event) → events ≡ later ++ installs x.view ∷ []
      → PassesAs mine (parts_entered parts x.view).state x later → StepsAs mine parts view x events

pub entered_parts : (s : hosts.HostBody) (view : View)
    → (entered s view).state.parts ≡ (parts_entered s.parts view).state
unfolding entered
entered_parts s view = refl

module _ (mine : BlockId → Bool) where
  passes_if : (s : hosts.HostBody) (x : Signal) (is : Bool)
      → PassesAs mine s.parts x (if is then block_events mine s x else [])
  passes_if s x true = passed refl
  passes_if s x false = dropped refl

  pub passes_as : (s : hosts.HostBody) (x : Signal) → PassesAs mine s.parts x (passed_events mine s x)
  passes_as s x = passes_if s x (is_passed s x)

  entering_as : (s : hosts.HostBody) (x : Signal) (excluded : Bool) → s.standing.view.number < x.view.number
      → StepsAs mine s.parts s.standing.view x (if excluded then [] else entering_events mine s x)
  entering_as s x true above = plain (dropped refl)
  entering_as s x false above =
      let inside = (entered s x.view).state in
      entering above (passed_events mine inside x) refl
      (subst (λ parts. PassesAs mine parts x (passed_events mine inside x)) (entered_parts s x.view)
      (passes_as inside x))

  headed_if_as : (s : hosts.HostBody) (x : Signal) (newer : Bool) → nat_lt s.standing.view.number x.view.number ≡ newer
      → StepsAs mine s.parts s.standing.view x
      (if newer
      then (if is_excluded s.standing x.view then [] else entering_events mine s x)
      else passed_events mine s x)
  headed_if_as s x true e =
      entering_as s x (is_excluded s.standing x.view) (ltb-true s.standing.view.number x.view.number e)
  headed_if_as s x false e = plain (passes_as s x)

  headed_as : (s : hosts.HostBody) (x : Signal) → StepsAs mine s.parts s.standing.view x (headed_events mine s x)
  headed_as s x = headed_if_as s x (nat_lt s.standing.view.number x.view.number) refl

  counted_as : (s : hosts.HostBody) (x : Signal) (left : Option ℕ)
      → StepsAs mine s.parts s.standing.view x (counted_events mine s x left)
  counted_as s x None = headed_as s x
  counted_as s x (Some zero) = plain (dropped refl)
  counted_as s x (Some (suc zero)) = plain (dropped refl)
  counted_as s x (Some (suc (suc left))) = headed_as (standing_at s (killed_after s.standing (Some (suc left)))) x

  sound_as : (s : hosts.HostBody) (x : Signal) (sound : Bool)
      → StepsAs mine s.parts s.standing.view x (sound_events mine s x sound)
  sound_as s x true = counted_as s x s.standing.left
  sound_as s x false = plain (dropped refl)

  by_as : (s : hosts.HostBody) (x : Signal) (cause : Option StopCause)
      → StepsAs mine s.parts s.standing.view x (events_by mine s x cause)
  by_as s x (Some cause) = plain (dropped refl)
  by_as s x None = sound_as s x (is_well_formed s.standing.shape x)

  pub steps_as : (h : ℕ) (s : hosts.HostBody) (x : Signal)
      → StepsAs mine s.parts s.standing.view x (events_at mine h s x)
  steps_as h s x = by_as s x (own_stop h x)
