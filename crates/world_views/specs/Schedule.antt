-- Schedules: what happens, pick by pick.
use Rattle.std.specs.Prelude.{◌≡◌, ℕ, ◌==◌, ◌&&◌, ◌||◌, nat_lt, not, Bool, true, false, List, [], ◌∷◌, slice_get, take}
use Rattle.std.specs.Prelude.{Some, Result, Ok, Err}
use Rattle.sig_core.specs.declared.outcome.StopCause.TheVariants.{Killed}
use Rattle.node_views.specs.Row.{is_cut}
use Rattle.node_views.specs.WellFormed.{is_node}
use Rattle.world_core.specs.Hosts.{member_at}
use Rattle.world_core.specs.Start.{Start}
use Rattle.world_core.specs.Steps.{Addressed}
use Rattle.world_core.specs.World.{logs_at}
use Rattle.world_views.specs.declared.schedule.Pick.{Pick}
use Rattle.world_views.specs.declared.schedule.Pick.TheVariants.{Cut, Stop, Take}
use Rattle.world_views.specs.declared.schedule.ScheduleFault.{ScheduleFault}
use Rattle.world_views.specs.declared.schedule.ScheduleFault.TheVariants.{Empty, Gone, NoMemory}
use Rattle.world_views.specs.Driven.{HaveGrown, IsDriven}
use Rattle.world_views.specs.Links.{Arrival, link, take_between}
use Rattle.world_views.specs.World.{HasHandled, Whole, body_at, cutting, has_stopped_in, stopped}

-- a world without the signal that was taken
abbrev pub left_of : Whole → Arrival → Whole
left_of w t = record w { links = t.left }

-- the host that a signal arrives at has stopped, or has cut off its sender
abbrev pub is_discarded : Whole → Addressed → Bool
is_discarded w x = has_stopped_in w x.to || is_cut (body_at w.bodies x.to).standing x.signal.from

-- what becomes of a signal that was taken from its link: it is discarded, or handled
abbrev pub taken_if : Bool → Whole → Addressed → Whole → Type 0
taken_if true w x t = t ≡ w
taken_if false w x t = HasHandled w x t

abbrev pub HasTaken : Whole → Addressed → Whole → Type 0
HasTaken w x t = taken_if (is_discarded w x) w x t

-- The first signal of the link from one host to another was taken.
pub record HasPickedFrom (w : Whole) (from to : ℕ) (t : Whole) : Type 0 where
  pub arrived : Arrival
  pub first : take_between w.links from to ≡ Some arrived
  pub taken : HasTaken (left_of w arrived) arrived.taken t

-- the host of a pick
abbrev pub host_of : Pick → ℕ
host_of (Take host from) = host.0
host_of (Stop host lost) = host.0
host_of (Cut host node) = host.0

-- the node is there, and not the host's own
abbrev pub is_other : Whole → ℕ → ℕ → Bool
is_other w h node = is_node w.shape node && not ((member_at w.made h).node == node)

-- a pick may be done: its host runs, the shell's host neither stops nor cuts off, and none cuts off its own node
abbrev pub may_be : Whole → Pick → Bool
may_be w (Take host from) = not (has_stopped_in w host.0)
may_be w (Stop host lost) = nat_lt 0 host.0 && not (has_stopped_in w host.0)
may_be w (Cut host node) = (nat_lt 0 host.0 && not (has_stopped_in w host.0)) && is_other w host.0 node

-- what a pick comes to
abbrev pub HasPicked : Whole → Pick → Whole → Type 0
HasPicked w (Take host from) t = HasPickedFrom w from.0 host.0 t
HasPicked w (Stop host lost) t = t ≡ stopped w host.0 Killed lost
HasPicked w (Cut host node) t = HasHandled w (cutting w host.0 node) t

-- one pick was done, and then more
pub record HasGoneOn (w : Whole) (pick : Pick) (More : Whole → Type 0) : Type 0 where
  pub then : Whole
  pub may : may_be w pick ≡ true
  pub picked : HasPicked w pick then
  pub more : More then

-- these picks were done, one after the other
abbrev pub HavePicked : Whole → List Pick → Whole → Type 0
HavePicked w [] t = t ≡ w
HavePicked w (pick ∷ picks) t = HasGoneOn w pick (λ u. HavePicked u picks t)

-- a pick can't be done
abbrev pub IsGone : Whole → Pick → Type 0
IsGone w pick = may_be w pick ≡ false

-- or may be, and nothing stands on its link
abbrev pub IsEmpty : Whole → Pick → Type 0
IsEmpty w (Take host from) = (has_stopped_in w host.0 ≡ false) × ((link w.links from.0 host.0).signals ≡ [])
IsEmpty w pick = ⊥

-- The picks before this place led here, and the one at it can't be done.
pub record StopsAt (Cannot : Whole → Pick → Type 0) (w : Whole) (picks : List Pick) (t : Whole) (at : ℕ) : Type 0 where
  pub pick : Pick
  pub is : slice_get picks at ≡ Some pick
  pub before : HavePicked w (take at picks) t
  pub cannot : Cannot t pick

-- what a schedule comes to
abbrev pub IsScheduled : Whole → List Pick → Whole → Result (Unit {0}) ScheduleFault → Type 0
IsScheduled w picks t (Ok done) = HavePicked w picks t
IsScheduled w picks t (Err (Empty at)) = StopsAt (λ u pick. IsEmpty u pick) w picks t at
IsScheduled w picks t (Err (Gone at)) = StopsAt (λ u pick. IsGone u pick) w picks t at
IsScheduled w picks t (Err NoMemory) = Unit {0}

-- A right world stays right, whatever was picked; where memory was wanting its logs are right.
abbrev pub LeavesRight : Start → Whole → Whole → Result (Unit {0}) ScheduleFault → Type 0
LeavesRight start w t (Err NoMemory) = HaveGrown start (logs_at w.logs) (logs_at t.logs)
LeavesRight start w t (Err (Empty at)) = IsDriven start w t
LeavesRight start w t (Err (Gone at)) = IsDriven start w t
LeavesRight start w t (Ok done) = IsDriven start w t

-- what one pick, at this place of a schedule, comes to
abbrev pub IsPicked : Whole → Pick → ℕ → Whole → Result (Unit {0}) ScheduleFault → Type 0
IsPicked w pick at t (Ok done) = (may_be w pick ≡ true) × HasPicked w pick t
IsPicked w pick at t (Err (Empty place)) = (place ≡ at) × ((t ≡ w) × IsEmpty w pick)
IsPicked w pick at t (Err (Gone place)) = (place ≡ at) × ((t ≡ w) × IsGone w pick)
IsPicked w pick at t (Err NoMemory) = t.logs ≡ w.logs
