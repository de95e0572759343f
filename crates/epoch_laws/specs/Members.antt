-- The epochs of each member, and its master of checkpoints, as logs leave them.
use Rattle.std.specs.Prelude.{◌≡◌, ℕ, List, [], ◌∷◌}
use Rattle.frag_map.specs.Layout.{first_layout}
use Rattle.sig_core.specs.declared.member.Member.{Member}
use Rattle.dih_node.specs.Dih.{fresh_dih}
use Rattle.dih_node.specs.State.{DihState}
use Rattle.gcp_master.specs.Master.{fresh_master}
use Rattle.gcp_master.specs.State.{MasterState}
use Rattle.node_views.specs.declared.parts.Parts.{Parts}
use Rattle.node_views.specs.declared.parts.Parts.TheVariants as part
use Rattle.world_core.specs.Start.{Start}
use Rattle.world_core.specs.Steps.{HostStep}
use Rattle.world_views.specs.Machine.{after}
use Rattle.view_laws.specs.Runs.{view_after}
use Rattle.view_laws.specs.Votes.{main_of}
use Rattle.moment_laws.specs.Moments.{current}
use Rattle.moment_laws.specs.Places.{tc_of}

-- the epochs that a host runs, and its master; of a host that runs none, these
abbrev pub dih_in : DihState → Parts → DihState
dih_in other (part.Tc p) = p.dih
dih_in other parts = other

abbrev pub master_in : MasterState → Parts → MasterState
master_in other (part.Main p) = p.master
master_in other parts = other

-- those of a member
abbrev pub epochs_of : Start → (ℕ → List HostStep) → Member → DihState
epochs_of start logs member =
    dih_in (fresh_dih 0 0 0 0) (after start (tc_of start member) (logs (tc_of start member))).parts

abbrev pub master_of : Start → (ℕ → List HostStep) → Member → MasterState
master_of start logs member =
    master_in (fresh_master member (first_layout start.shape).view 0)
    (after start (main_of start member) (logs (main_of start member))).parts

-- the master stands in the current view
abbrev pub IsStanding : Start → (ℕ → List HostStep) → Member → Type 0
IsStanding start logs member =
    (view_after start (main_of start member) (logs (main_of start member))).number ≡ (current start logs).number

-- the member is the president of the current view
abbrev pub IsFirst : Member → List Member → Type 0
IsFirst member [] = ⊥
IsFirst member (oldest ∷ members) = member ≡ oldest

abbrev pub IsPresident : Start → (ℕ → List HostStep) → Member → Type 0
IsPresident start logs member = IsFirst member (current start logs).full
