-- Moments of a run in the order of views: at each the greatest view is the one in which things go on.
use Rattle.std.specs.Prelude.{◌≤◌, ℕ, zero, suc, Bool, true, false, List, [], ◌∷◌}
use Rattle.frag_map.specs.Layout.{first_layout}
use Rattle.run_theory.specs.Cuts.{IsCut}
use Rattle.run_theory.specs.Runs.{Run, log_of}
use Rattle.sig_core.specs.declared.view.View.{View}
use Rattle.api_views.specs.Members.{greater_view}
use Rattle.world_core.specs.Hosts.{hosts}
use Rattle.world_core.specs.Made.{is_made}
use Rattle.world_core.specs.Start.{Start}
use Rattle.world_core.specs.Steps.{HostStep}
use Rattle.world_views.specs.Machine.{machine}
use Rattle.view_laws.specs.Order.{era, sound_machine}
use Rattle.view_laws.specs.Runs.{AreOfCluster, view_after}

-- the logs after these events
abbrev pub logs_of : Start → List HostStep → ℕ → List HostStep
logs_of start es = log_of (machine start) es

-- the greater one of two views, where the host that stands in the second is there
abbrev pub greater_if : Bool → View → View → View
greater_if true before view = greater_view before view
greater_if false before view = before

-- the greatest view in which a host below n stands that is there, or the first
abbrev pub greatest_of : Start → ℕ → (ℕ → List HostStep) → View
greatest_of start zero logs = (first_layout start.shape).view
greatest_of start (suc n) logs =
    greater_if (is_made start n (logs 0)) (greatest_of start n logs) (view_after start n (logs n))

-- the current view: the greatest in which any host stands that is there
abbrev pub current : Start → (ℕ → List HostStep) → View
current start logs = greatest_of start (hosts start) logs

-- no event is of an era below the view that is current before it
abbrev pub IsInOrder : Start → List HostStep → Type 0
IsInOrder start [] = Unit {0}
IsInOrder start (e ∷ es) =
    ((current start (logs_of start es)).number ≤ era start e.host (e ∷ logs_of start es e.host)) × IsInOrder start es

-- these events come first, in the order of views, of all that these hosts do
pub record IsMoment (start : Start) (all : ℕ → List HostStep) (es : List HostStep) : Type 0 where
  pub cluster : AreOfCluster start all
  pub run : Run (sound_machine start) es
  pub inside : IsCut (logs_of start es) all
  pub ordered : IsInOrder start es
