-- What is so of the views that hosts stand in, and of the headers of signals.
use Rattle.std.specs.Prelude.{◌≡◌, ◌≤◌, ◌<◌, ◌⊎◌, ℕ, List, ◌∷◌}
use Rattle.run_theory.specs.Lists.{Each, IsIn, IsPast}
use Rattle.sig_core.specs.declared.member.Member.{Member}
use Rattle.sig_core.specs.declared.place.Part.{Part}
use Rattle.sig_core.specs.declared.view.View.{View}
use Rattle.world_core.specs.Hosts.{host_of, hosts, member_at}
use Rattle.world_core.specs.Start.{Start, made}
use Rattle.world_core.specs.Steps.{Addressed, HostStep}
use Rattle.world_views.specs.Machine.{signals_of}
use Rattle.view_laws.specs.Runs.{AreOfCluster, WasInstalled, view_after}
use Rattle.view_laws.specs.Sets.{IsPart, all_of}

-- the number of a host's view never falls
abbrev pub NumbersNeverFall : Type 0
NumbersNeverFall =
    (start : Start) (logs : ℕ → List HostStep) → AreOfCluster start logs → (h : ℕ) → h < hosts start
    → (older newer : List HostStep) → IsPast older newer → IsPast newer (logs h)
    → (view_after start h older).number ≤ (view_after start h newer).number

-- a host of a node is of the view that it stands in
abbrev pub HostsAreOfTheirViews : Type 0
HostsAreOfTheirViews =
    (start : Start) (logs : ℕ → List HostStep) → AreOfCluster start logs → (h : ℕ) → 1 ≤ h → h < hosts start
    → (log : List HostStep) → IsPast log (logs h)
    → IsIn (member_at (made start) h) (all_of (view_after start h log))

-- the view in the header of each signal that a host has taken was installed by some host
abbrev pub HeadersAreInstalled : Type 0
HeadersAreInstalled =
    (start : Start) (logs : ℕ → List HostStep) → AreOfCluster start logs → (h : ℕ) → h < hosts start
    → Each (λ e. WasInstalled start logs e.step.taken.view) (logs h)

-- a signal is for a host of a member of the view in its header
pub record IsForMember (start : Start) (x : Addressed) : Type 0 where
  pub member : Member
  pub of : IsIn member (all_of x.signal.view)
  pub part : Part
  pub is : x.to ≡ host_of (made start) part member

-- what a host of a node sends goes to such hosts, or to the shell's, but for what nobody gets
abbrev pub SignalsGoToMembers : Type 0
SignalsGoToMembers =
    (start : Start) (logs : ℕ → List HostStep) → AreOfCluster start logs → (h : ℕ) → 1 ≤ h → h < hosts start
    → (log : List HostStep) (e : HostStep) → IsPast (e ∷ log) (logs h)
    → Each (λ x. x.to < hosts start → (x.to ≡ 0) ⊎ IsForMember start x) (signals_of start h log e)

-- a view with a greater number is a part of one with a lesser: nobody joins
abbrev pub ViewsOnlyShrink : Type 0
ViewsOnlyShrink =
    (start : Start) (logs : ℕ → List HostStep) → AreOfCluster start logs → (one other : View)
    → WasInstalled start logs one → WasInstalled start logs other → one.number < other.number
    → IsPart one other
