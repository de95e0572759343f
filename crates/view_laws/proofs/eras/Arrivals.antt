-- A host that takes a well-formed signal, and doesn't stop, stands in a view not below its header, or enters that.
use Rattle.std.proofs.Common.{◌≡◌, ◌≤◌, ℕ, zero, suc, Bool, true, false, nat_lt, List, [], ◌∷◌, ◌++◌, refl, sym, subst}
use Rattle.std.proofs.lemmas.Bool.{ltb-false, true≢false}
use Rattle.std.specs.List.{list_any}
use Rattle.std.specs.Prelude.{if◌then◌else◌, Option, None, Some}
use Rattle.sig_core.specs.declared.outcome.StopCause.{StopCause}
use Rattle.sig_core.specs.declared.place.BlockId.{BlockId}
use Rattle.sig_core.specs.declared.signal.Signal.{Signal}
use Rattle.sig_core.specs.declared.view.View.{View}
use Rattle.sig_core.specs.Step.{Step}
use Rattle.node_views.specs.Blocks.{parts_entered}
use Rattle.node_views.specs.declared.host_body.HostBody as hosts
use Rattle.node_views.specs.declared.parts.Parts.{Parts}
use Rattle.node_views.specs.Row.{counted_row, entered, entering_if, headed_if, headed_row, host_row, is_excluded}
use Rattle.node_views.specs.Row.{is_stop, killed_after, standing_at, taken_if}
use Rattle.node_views.specs.WellFormed.{is_well_formed}
use Rattle.qmgr_block.specs.Laws.{Event, installs}
use Rattle.world_views.specs.Machine.{own_stop, step_by, step_if}
use Rattle.view_laws.specs.HostEvents.{counted_events, entering_events, events_at, events_by, headed_events}
use Rattle.view_laws.specs.HostEvents.{passed_events, sound_events}
use Rattle.view_laws.proofs.follow.Steps.{PassesAs, entered_parts, passes_as}

-- the header isn't above the host's view, or that is installed before the blocks are passed the signal
pub data Arrives (mine : BlockId → Bool) (parts : Parts) (view : View) (x : Signal) (events : List Event) : Type 0 where
  is_low : x.view.number ≤ view.number → Arrives mine parts view x events
  enters_it : (later : List Event) → events ≡ later ++ installs x.view ∷ []
      → PassesAs mine (parts_entered parts x.view).state x later → Arrives mine parts view x events

-- the step doesn't stop its host
abbrev Goes : Step hosts.HostBody → Type 0
Goes t = list_any is_stop t.effects.marks ≡ false

module _ (mine : BlockId → Bool) where
  abbrev ArrivesBy : hosts.HostBody → Signal → List Event → Type 0
  ArrivesBy s x events = Arrives mine s.parts s.standing.view x events

  entering_arrives : (s : hosts.HostBody) (x : Signal) (excluded : Bool) → Goes (entering_if s x excluded)
      → ArrivesBy s x (if excluded then [] else entering_events mine s x)
  entering_arrives s x true goes = absurd (true≢false goes)
  entering_arrives s x false goes =
      let inside = (entered s x.view).state in
      enters_it (passed_events mine inside x) refl
      (subst (λ parts. PassesAs mine parts x (passed_events mine inside x)) (entered_parts s x.view)
      (passes_as mine inside x))

  headed_if_arrives : (s : hosts.HostBody) (x : Signal) (newer : Bool)
      → nat_lt s.standing.view.number x.view.number ≡ newer
      → Goes (headed_if s x newer)
      → ArrivesBy s x
      (if newer
      then (if is_excluded s.standing x.view then [] else entering_events mine s x)
      else passed_events mine s x)
  headed_if_arrives s x true e goes = entering_arrives s x (is_excluded s.standing x.view) goes
  headed_if_arrives s x false e goes = is_low (ltb-false s.standing.view.number x.view.number e)

  headed_arrives : (s : hosts.HostBody) (x : Signal) → Goes (headed_row s x) → ArrivesBy s x (headed_events mine s x)
  unfolding headed_row
  headed_arrives s x goes = headed_if_arrives s x (nat_lt s.standing.view.number x.view.number) refl goes

  counted_arrives : (s : hosts.HostBody) (x : Signal) (left : Option ℕ) → Goes (counted_row s x left)
      → ArrivesBy s x (counted_events mine s x left)
  counted_arrives s x None goes = headed_arrives s x goes
  counted_arrives s x (Some zero) goes = absurd (true≢false goes)
  counted_arrives s x (Some (suc zero)) goes = absurd (true≢false goes)
  counted_arrives s x (Some (suc (suc left))) goes =
      headed_arrives (standing_at s (killed_after s.standing (Some (suc left)))) x goes

  taken_arrives : (s : hosts.HostBody) (x : Signal) (sound : Bool) → sound ≡ true → Goes (taken_if s x sound)
      → ArrivesBy s x (sound_events mine s x sound)
  taken_arrives s x true e goes = counted_arrives s x s.standing.left goes
  taken_arrives s x false e goes = absurd (true≢false (sym e))

  row_arrives : (s : hosts.HostBody) (x : Signal) → is_well_formed s.standing.shape x ≡ true → Goes (host_row s x)
      → ArrivesBy s x (sound_events mine s x (is_well_formed s.standing.shape x))
  unfolding host_row
  row_arrives s x e goes = taken_arrives s x (is_well_formed s.standing.shape x) e goes

  by_arrives : (s : hosts.HostBody) (x : Signal) (cause : Option StopCause) → is_well_formed s.standing.shape x ≡ true
      → Goes (step_if s x cause) → ArrivesBy s x (events_by mine s x cause)
  by_arrives s x (Some cause) e goes = absurd (true≢false goes)
  by_arrives s x None e goes = row_arrives s x e goes

  pub arrives : (h : ℕ) (s : hosts.HostBody) (x : Signal) → is_well_formed s.standing.shape x ≡ true
      → list_any is_stop (step_by h s x).effects.marks ≡ false
      → Arrives mine s.parts s.standing.view x (events_at mine h s x)
  arrives h s x e goes = by_arrives s x (own_stop h x) e goes
