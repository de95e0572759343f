-- The ballots of a run, and what is so of them.
use Rattle.std.specs.Prelude.{◌≡◌, ◌<◌, ℕ, if◌then◌else◌, true, List, [], flat_map}
use Rattle.std.specs.List.{list_any}
use Rattle.frag_map.specs.Groups.{is_viable}
use Rattle.frag_map.specs.Layout.{first_layout, first_view, members}
use Rattle.frag_map.specs.Replicas.{is_member}
use Rattle.frag_map.specs.Shape.{IsShape}
use Rattle.run_theory.specs.Lists.{IsPast}
use Rattle.run_theory.specs.Runs.{AreLogs, IsWithin, Run, log_of}
use Rattle.sig_core.specs.declared.member.Member.{Member}
use Rattle.sig_core.specs.declared.view.View.{View}
use Rattle.qmgr_block.specs.Laws.{Event}
use Rattle.world_core.specs.Hosts.{hosts}
use Rattle.world_core.specs.Made.{is_made}
use Rattle.world_core.specs.Start.{NobodyStarts, Start, made}
use Rattle.world_core.specs.Steps.{HostStep}
use Rattle.world_views.specs.Machine.{after, machine}
use Rattle.view_laws.specs.Ballots.{Ballots, IsChosen}
use Rattle.view_laws.specs.Grants.{grants_of}
use Rattle.view_laws.specs.HostEvents.{events_of, is_arbiter, is_membership, taken_in}
use Rattle.view_laws.specs.Members.{confirmed_of, installed_of, promises_of, proposed_of}
use Rattle.view_laws.specs.Orderly.{AreOrderly}
use Rattle.view_laws.specs.Votes.{main_of}

-- what has happened to the membership of a member
abbrev pub events_in : Start → (ℕ → List HostStep) → Member → List Event
events_in start logs member = events_of is_membership start (main_of start member) (logs (main_of start member))

-- of a member that wasn't made there is nothing
abbrev pub if_made : {A : Type 0} → Start → Member → List A → List A
if_made start member some = if list_any (is_member member) (made start) then some else []

-- what members promised, confirmed, installed and proposed in these logs, and what was granted
abbrev pub ballots_of : Start → (ℕ → List HostStep) → Ballots
ballots_of start logs = record {
  first = first_view start.shape.nodes;
  promises =
      λ member. if_made start member (promises_of member (first_layout start.shape) (events_in start logs member));
  confirmed =
      λ member. if_made start member (confirmed_of member (first_layout start.shape) (events_in start logs member));
  installed = λ member. if_made start member (installed_of (first_layout start.shape) (events_in start logs member));
  proposed =
      flat_map (λ member. proposed_of member (first_layout start.shape) (events_in start logs member)) (made start);
  grants = grants_of (members start.shape.nodes) (taken_in (events_of is_arbiter start 0 (logs 0)));
}

-- a run of the hosts that there are, in a life in which nobody starts later
pub record IsRun (start : Start) (es : List HostStep) : Type 0 where
  pub shape : IsShape start.shape
  pub nobody : NobodyStarts start
  pub run : Run (machine start) es
  pub within : IsWithin (hosts start) (log_of (machine start) es)

-- the view that a host stands in after its log
abbrev pub view_after : Start → ℕ → List HostStep → View
view_after start h log = (after start h log).standing.view

-- the ballots of each run are orderly, and each host stands in a chosen view
pub record HasOrderlyBallots (start : Start) (es : List HostStep) : Type 0 where
  pub orderly : AreOrderly start.shape (ballots_of start (log_of (machine start) es))
  pub chosen :
      (h : ℕ) → h < hosts start
      → IsChosen start.shape (ballots_of start (log_of (machine start) es))
      (view_after start h (log_of (machine start) es h))

abbrev pub RunsHaveOrderlyBallots : Type 0
RunsHaveOrderlyBallots = (start : Start) (es : List HostStep) → IsRun start es → HasOrderlyBallots start es

-- right logs of the hosts that there are, in a life in which nobody starts later
pub record AreOfCluster (start : Start) (logs : ℕ → List HostStep) : Type 0 where
  pub shape : IsShape start.shape
  pub nobody : NobodyStarts start
  pub right : AreLogs (machine start) logs
  pub within : IsWithin (hosts start) logs

-- some host that is there stood in the view, after a part of its log
pub record WasInstalled (start : Start) (logs : ℕ → List HostStep) (view : View) : Type 0 where
  pub host : ℕ
  pub there : host < hosts start
  pub made : is_made start host (logs 0) ≡ true
  pub log : List HostStep
  pub past : IsPast log (logs host)
  pub is : view ≡ view_after start host log

-- In all right logs two views of one number, of whatever hosts and moments, are the same
abbrev pub OneViewOfANumber : Type 0
OneViewOfANumber =
    (start : Start) (logs : ℕ → List HostStep) → AreOfCluster start logs → (one other : View)
    → WasInstalled start logs one → WasInstalled start logs other → one.number ≡ other.number
    → one ≡ other

-- and each view has a full member in each group
abbrev pub ViewsAreViable : Type 0
ViewsAreViable =
    (start : Start) (logs : ℕ → List HostStep) → AreOfCluster start logs → (view : View) → WasInstalled start logs view
    → is_viable start.shape view ≡ true
