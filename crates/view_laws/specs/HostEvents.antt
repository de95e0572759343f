-- What happens to a block of a host at each step of its log: it takes signals, and views are installed.
use Rattle.std.specs.Prelude.{◌||◌, ℕ, zero, suc, nat_lt, not, if◌then◌else◌, Bool, true, false, List, [], ◌∷◌, ◌++◌}
use Rattle.std.specs.Prelude.{Option, None, Some}
use Rattle.sig_core.specs.declared.outcome.StopCause.{StopCause}
use Rattle.sig_core.specs.declared.place.BlockId.{BlockId}
use Rattle.sig_core.specs.declared.place.BlockId.TheVariants as block
use Rattle.sig_core.specs.declared.signal.Body.{Body}
use Rattle.sig_core.specs.declared.signal.Body.TheVariants.{Host}
use Rattle.sig_core.specs.declared.signal.Signal.{Signal}
use Rattle.sig_core.specs.declared.signal.host.HostSignal.TheVariants.{Closed, Cut, Kill}
use Rattle.sig_core.specs.declared.view.View.{View}
use Rattle.api_views.specs.Members.{same_member}
use Rattle.node_views.specs.Blocks.{settled_at}
use Rattle.node_views.specs.declared.host_body.HostBody as hosts
use Rattle.node_views.specs.Row.{entered, is_barred, is_excluded, killed_after, standing_at}
use Rattle.node_views.specs.WellFormed.{is_well_formed}
use Rattle.qmgr_block.specs.Laws.{Event, installs, takes}
use Rattle.world_core.specs.Start.{Start}
use Rattle.world_core.specs.Steps.{HostStep}
use Rattle.world_views.specs.Machine.{after, own_stop}

abbrev pub is_membership : BlockId → Bool
is_membership block.Qmgr = true
is_membership other = false

abbrev pub is_arbiter : BlockId → Bool
is_arbiter block.Arbiter = true
is_arbiter other = false

-- a signal that a host handles itself, and not by its blocks
abbrev pub is_handled : hosts.HostBody → Signal → Body → Bool
is_handled s x (Host (Kill count)) = true
is_handled s x (Host (Cut node first)) = true
is_handled s x (Host (Closed cause)) = same_member s.standing.member x.member
is_handled s x body = false

-- a host whose header is installed leaves the signal to its blocks
abbrev pub is_passed : hosts.HostBody → Signal → Bool
is_passed s x = not (is_barred s x || is_handled s x x.body)

module _ (mine : BlockId → Bool) where
  -- one of these blocks takes the signal; a view that the membership settles on is installed then
  abbrev pub installing : Option View → List Event
  installing None = []
  installing (Some view) = installs view ∷ []

  abbrev pub taking : Signal → Bool → List Event
  taking x true = takes x ∷ []
  taking x false = []

  abbrev pub block_events : hosts.HostBody → Signal → List Event
  block_events s x = installing (settled_at s.parts x) ++ taking x (mine x.to.block)

  abbrev pub passed_events : hosts.HostBody → Signal → List Event
  passed_events s x = if is_passed s x then block_events s x else []

  -- a greater view of its header is installed before
  abbrev pub is_newer : hosts.HostBody → Signal → Bool
  is_newer s x = nat_lt s.standing.view.number x.view.number

  abbrev pub entering_events : hosts.HostBody → Signal → List Event
  entering_events s x = passed_events (entered s x.view).state x ++ installs x.view ∷ []

  abbrev pub headed_events : hosts.HostBody → Signal → List Event
  headed_events s x =
      if is_newer s x then (if is_excluded s.standing x.view then [] else entering_events s x) else passed_events s x

  -- a host that is to be killed takes so many more signals
  abbrev pub counted_events : hosts.HostBody → Signal → Option ℕ → List Event
  counted_events s x None = headed_events s x
  counted_events s x (Some zero) = []
  counted_events s x (Some (suc zero)) = []
  counted_events s x (Some (suc (suc left))) =
      headed_events (standing_at s (killed_after s.standing (Some (suc left)))) x

  abbrev pub sound_events : hosts.HostBody → Signal → Bool → List Event
  sound_events s x true = counted_events s x s.standing.left
  sound_events s x false = []

  abbrev pub events_by : hosts.HostBody → Signal → Option StopCause → List Event
  events_by s x (Some cause) = []
  events_by s x None = sound_events s x (is_well_formed s.standing.shape x)

  -- what happens to these blocks of host h, being so, in a step that takes this signal, the newest first
  abbrev pub events_at : ℕ → hosts.HostBody → Signal → List Event
  events_at h s x = events_by s x (own_stop h x)

  -- and along its log
  abbrev pub events_of : Start → ℕ → List HostStep → List Event
  events_of start h [] = []
  events_of start h (e ∷ log) = events_at h (after start h log) e.step.taken ++ events_of start h log

-- the signals that were taken
abbrev pub taken_in : List Event → List Signal
taken_in [] = []
taken_in (takes x ∷ events) = x ∷ taken_in events
taken_in (installs view ∷ events) = taken_in events
