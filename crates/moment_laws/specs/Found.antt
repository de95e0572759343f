-- Right logs are moments, and who takes a signal stands in the current view.
use Rattle.std.specs.Prelude.{◌≡◌, ◌≤◌, ℕ, List, ◌∷◌}
use Rattle.world_core.specs.Start.{NobodyStarts, Start}
use Rattle.world_core.specs.Steps.{HostStep}
use Rattle.view_laws.specs.Runs.{AreOfCluster, view_after}
use Rattle.world_views.specs.Machine.{after, step_after}
use Rattle.moment_laws.specs.Moments.{IsMoment, current, logs_of}
use Rattle.moment_laws.specs.Parts.{PartsDo}

-- a moment at which all that these hosts do has come
pub record HasMoment (start : Start) (logs : ℕ → List HostStep) : Type 0 where
  pub events : List HostStep
  pub is : IsMoment start logs events
  pub whole : (h : ℕ) → logs_of start events h ≡ logs h

abbrev pub LogsAreMoments : Type 0
LogsAreMoments = (start : Start) (logs : ℕ → List HostStep) → AreOfCluster start logs → HasMoment start logs

-- who takes a signal of no greater view than it has behind the event stands in the current view then
abbrev pub TakersStandInTheCurrentView : Type 0
TakersStandInTheCurrentView =
    (start : Start) (all : ℕ → List HostStep) (e : HostStep) (es : List HostStep) → IsMoment start all (e ∷ es)
    → e.step.taken.view.number ≤ (view_after start e.host (e ∷ logs_of start es e.host)).number
    → view_after start e.host (e ∷ logs_of start es e.host) ≡ current start (logs_of start (e ∷ es))

-- a step of a host comes to what its blocks do at the signal
abbrev pub StepsComeToParts : Type 0
StepsComeToParts =
    (start : Start) → NobodyStarts start → (h : ℕ) (log : List HostStep) (e : HostStep)
    → PartsDo start.shape (after start h log).parts (view_after start h log) e.step.taken
    (step_after start h log e).state.parts (step_after start h log e).state.standing.view
    (step_after start h log e).effects.sends
