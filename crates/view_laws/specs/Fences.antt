-- Fences: blocks that take part in transactions and epochs drop what comes from views below them.
use Rattle.std.specs.Prelude.{◌≡◌, ◌≤◌, ◌<◌, ℕ, false, List}
use Rattle.run_theory.specs.Lists.{IsIn}
use Rattle.sig_core.specs.declared.member.Member.{Member}
use Rattle.sig_core.specs.declared.place.BlockId.{BlockId}
use Rattle.sig_core.specs.declared.place.BlockId.TheVariants as block
use Rattle.sig_core.specs.declared.view.View.{View}
use Rattle.sig_core.specs.Part.{part_of}
use Rattle.node_views.specs.Blocks.{fence_at}
use Rattle.world_core.specs.Hosts.{host_of}
use Rattle.world_core.specs.Start.{NobodyStarts, Start, made}
use Rattle.world_core.specs.Steps.{HostStep}
use Rattle.world_views.specs.Machine.{after}
use Rattle.view_laws.specs.Runs.{AreOfCluster, WasInstalled, ballots_of, view_after}
use Rattle.view_laws.specs.Sets.{all_of}

-- the blocks that are fenced
abbrev pub IsFenced : BlockId → Type 0
IsFenced block.Tc = Unit {0}
IsFenced block.Dih = Unit {0}
IsFenced block.Lqh = Unit {0}
IsFenced other = ⊥

-- the fence of a block of host h after its log
abbrev pub fence_after : Start → ℕ → List HostStep → BlockId → ℕ
fence_after start h log at = fence_at (after start h log).parts at (view_after start h log).number

-- it isn't below the view that the host stands in
abbrev pub FencesAreNotBelow : Type 0
FencesAreNotBelow =
    (start : Start) → NobodyStarts start → (h : ℕ) (log : List HostStep) (at : BlockId)
    → (view_after start h log).number ≤ fence_after start h log at

-- a fence above it is that of a set that the member has promised
pub record WasPromised (start : Start) (logs : ℕ → List HostStep) (member : Member) (number : ℕ) : Type 0 where
  pub set : View
  pub number_is : set.number ≡ number
  pub there : IsIn (record { set = set; adopted = false }) ((ballots_of start logs).promises member)

abbrev pub RaisedFencesWerePromised : Type 0
RaisedFencesWerePromised =
    (start : Start) (logs : ℕ → List HostStep) → AreOfCluster start logs → (member : Member) → IsIn member (made start)
    → (at : BlockId) → IsFenced at
    → (let h = host_of (made start) (part_of at) member in
    (view_after start h (logs h)).number < fence_after start h (logs h) at
    → WasPromised start logs member (fence_after start h (logs h) at))

-- where a view was installed by any host, each fenced block of each of its members has been fenced at its number
abbrev pub EachViewIsFenced : Type 0
EachViewIsFenced =
    (start : Start) (logs : ℕ → List HostStep) → AreOfCluster start logs → (view : View) → WasInstalled start logs view
    → (member : Member) → IsIn member (all_of view) → (at : BlockId) → IsFenced at
    → (let h = host_of (made start) (part_of at) member in view.number ≤ fence_after start h (logs h) at)
