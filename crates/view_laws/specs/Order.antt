-- The order of views: right logs are a run in the order of the greatest views that their hosts have seen.
use Rattle.std.specs.Prelude.{◌≡◌, ◌≤◌, ◌||◌, ℕ, not, if◌then◌else◌, Bool, false, List, [], ◌∷◌, ◌++◌, filter, reverse}
use Rattle.run_theory.specs.Lists.{IsPast}
use Rattle.run_theory.specs.Machine.{Machine}
use Rattle.run_theory.specs.Orders.{HasLogs}
use Rattle.run_theory.specs.Runs.{Run, log_of}
use Rattle.sig_core.specs.declared.entry.Entry.{Entry}
use Rattle.node_views.specs.WellFormed.{is_well_formed}
use Rattle.world_core.specs.Entries.{entries, entries_in}
use Rattle.world_core.specs.Hosts.{hosts}
use Rattle.world_core.specs.Start.{Start}
use Rattle.world_core.specs.Steps.{Addressed, HostStep}
use Rattle.world_views.specs.Machine.{closing_view, machine, stops_by}
use Rattle.run_theory.specs.Ranks.{IsByRank, in_order, ranked}
use Rattle.view_laws.specs.Runs.{AreOfCluster, view_after}

-- The greatest number of a view that host h stood in along its log, or by which it stopped.
abbrev pub era : Start → ℕ → List HostStep → ℕ
era start h [] = (view_after start h []).number
era start h (e ∷ log) =
    if stops_by e.step.marks then (closing_view start h log e).number else (view_after start h (e ∷ log)).number

-- the signal is well formed in this cluster
abbrev pub is_sound : Start → Addressed → Bool
is_sound start x = is_well_formed start.shape x.signal

-- The machine in which signals that aren't well formed are neither sent nor taken from a link. They change nothing
-- where they are taken, whatever header they have: so the order of views needn't keep to them.
abbrev pub sound_machine : Start → Machine HostStep Addressed
sound_machine start =
    record (machine start) {
      asked = λ e. (machine start).asked e || not (is_sound start ((machine start).signal e));
      sends = λ h log e. filter (is_sound start) ((machine start).sends h log e);
    }

-- all events of the cluster's hosts in the order of (era, stamp, host), each with its era, the newest first
abbrev pub by_views : Start → (ℕ → List HostStep) → List (ℕ × HostStep)
by_views start logs = ranked (sound_machine start) (era start) (hosts start) logs

-- these logs are those of a run in the order of views, where each event stands at its place
pub record RunInViews (start : Start) (logs : ℕ → List HostStep) : Type 0 where
  pub run : Run (sound_machine start) (in_order (by_views start logs))
  pub has : HasLogs (sound_machine start) (in_order (by_views start logs)) logs
  pub placed : IsByRank (sound_machine start) (era start) (by_views start logs)

abbrev pub RightLogsRunInViews : Type 0
RightLogsRunInViews = (start : Start) (logs : ℕ → List HostStep) → AreOfCluster start logs → RunInViews start logs

-- Of the view of number k, in which the event e comes behind these: no host stands in a greater one up to e, and the
-- host of e stands in it behind e, unless it stops.
pub record ActsInGreatest (start : Start) (k : ℕ) (e : HostStep) (older : List HostStep) : Type 0 where
  pub greatest :
      (h : ℕ) (log : List HostStep) → IsPast log (log_of (sound_machine start) (e ∷ older) h)
      → (view_after start h log).number ≤ k
  pub stands :
      stops_by e.step.marks ≡ false
      → (view_after start e.host (e ∷ log_of (sound_machine start) older e.host)).number ≡ k

-- each event of the order comes in the greatest view
abbrev pub ActorsHaveTheGreatestView : Type 0
ActorsHaveTheGreatestView =
    (start : Start) (logs : ℕ → List HostStep) → AreOfCluster start logs → (newer older : List (ℕ × HostStep)) (k : ℕ)
    (e : HostStep) → by_views start logs ≡ newer ++ (k, e) ∷ older → ActsInGreatest start k e (in_order older)

-- the entries of these events, each with the log of its host up to it, the newest first
abbrev pub decisions : Start → List HostStep → List Entry
decisions start [] = []
decisions start (e ∷ es) =
    entries_in e.host e.step.stamp (e ∷ log_of (sound_machine start) es e.host) e.step.marks (decisions start es)

-- the oldest first
abbrev pub entries_along : Start → List HostStep → List Entry
entries_along start es = reverse (decisions start es)

-- the entries of right logs are the decisions, as they stand in the order of views
abbrev pub EntriesStandInOrder : Type 0
EntriesStandInOrder =
    (start : Start) (logs : ℕ → List HostStep) → AreOfCluster start logs
    → entries (hosts start) logs ≡ entries_along start (in_order (by_views start logs))
