-- What a world tells who keeps the disks of its nodes.
use Rattle.std.specs.Prelude.{◌≡◌, ◌⊎◌, ℕ, Bool, true, false, List, [], ◌∷◌, Option, None, Some}
use Rattle.run_theory.specs.Lists.{IsIn}
use Rattle.sig_core.specs.declared.outcome.StopCause.TheVariants.{Disk}
use Rattle.sig_core.specs.declared.signal.Signal.{Signal}
use Rattle.world_core.specs.Steps.{HostStep}
use Rattle.world_core.specs.World.{logs_at}
use Rattle.world_views.specs.Links.{link}
use Rattle.world_views.specs.Machine.{own_stop}
use Rattle.world_views.specs.Sending.{is_asked}
use Rattle.world_views.specs.World.{Whole}

-- the signal that the newest step of a log took
abbrev pub newest_taken : List HostStep → Option Signal
newest_taken [] = None
newest_taken (e ∷ log) = Some e.step.taken

-- the signal that a host took in its last step
abbrev pub last_taken : Whole → ℕ → Option Signal
last_taken w h = newest_taken (logs_at w.logs h)

-- a log has one step more, or at most one
abbrev pub HasOneMore : List HostStep → List HostStep → Type 0
HasOneMore old new = (e : HostStep) × (new ≡ e ∷ old)

abbrev pub HasAtMostOneMore : List HostStep → List HostStep → Type 0
HasAtMostOneMore old new = (new ≡ old) ⊎ HasOneMore old new

-- the log of a host that handled a signal, and of one that discarded it
abbrev pub HasMoreIf : Bool → List HostStep → List HostStep → Type 0
HasMoreIf true old new = HasOneMore old new
HasMoreIf false old new = new ≡ old

-- Of all hosts only this one went on, by one step, or its signal was discarded and it made none. Nothing came onto
-- links from hosts that made no step; what the host took, unless it asked itself for it, stood on its link; and it
-- didn't stop itself since its disk failed.
pub record GoesAlone (w : Whole) (h : ℕ) (t : Whole) : Type 0 where
  pub own : HasAtMostOneMore (logs_at w.logs h) (logs_at t.logs h)
  pub others : (other : ℕ) → (other ≡ h → ⊥) → logs_at t.logs other ≡ logs_at w.logs other
  pub links :
      (i j : ℕ) (x : Signal) → logs_at t.logs i ≡ logs_at w.logs i → IsIn x (link t.links i j).signals
      → IsIn x (link w.links i j).signals
  pub taken :
      (e : HostStep) → logs_at t.logs h ≡ e ∷ logs_at w.logs h → is_asked h e.step.taken ≡ false
      → IsIn e.step.taken (link w.links e.step.taken.from.0 h).signals
  pub unfailed :
      (e : HostStep) (count : ℕ) → logs_at t.logs h ≡ e ∷ logs_at w.logs h
      → own_stop h e.step.taken ≡ Some (Disk count) → ⊥
