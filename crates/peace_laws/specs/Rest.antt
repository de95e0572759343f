-- What a cluster in peace is where nothing is under way.
use Rattle.std.specs.Prelude.{◌≡◌, ◌<◌, ℕ, false, List, [], None}
use Rattle.dih_node.specs.State.{DihState}
use Rattle.gcp_master.specs.declared.phase.Phase.{Phase}
use Rattle.gcp_master.specs.Master.{first_phase}
use Rattle.gcp_master.specs.Resume.{is_president}
use Rattle.gcp_master.specs.State.{MasterState}
use Rattle.node_views.specs.declared.parts.Parts.{Parts}
use Rattle.node_views.specs.declared.parts.Parts.TheVariants.{Shell, Main, Tc, Ldm}
use Rattle.sig_core.specs.declared.member.Member.{Member}
use Rattle.world_core.specs.Hosts.{first_hosts, member_at}
use Rattle.world_core.specs.Start.{Start, made}
use Rattle.world_core.specs.Steps.{HostStep}
use Rattle.world_views.specs.Machine.{after}
use Rattle.calm_laws.specs.Alike.{first}

-- a node gives this epoch, isn't prepared for another one, and counts and holds nobody
pub record GivesAlone (epoch : ℕ) (s : DihState) : Type 0 where
  pub current : s.current ≡ epoch
  pub next : s.next ≡ epoch
  pub counted : s.counted ≡ []
  pub held : s.held ≡ []
  pub order : s.order ≡ None

-- The master of this member is as one that begins in this phase, but for whom it has heard: nothing is asked for.
pub record MasterRests (start : Start) (of : Member) (in_phase : Phase) (m : MasterState) : Type 0 where
  pub member : m.member ≡ of
  pub view : m.view ≡ first start
  pub phase : m.phase ≡ in_phase
  pub front : m.front ≡ None
  pub asked : m.asked ≡ record { global = false; copy = false; local = false; micro = false }
  pub owed : m.owed ≡ false

-- the phase in which a master of this member would begin in this epoch
abbrev pub phase_at : Start → ℕ → Member → Phase
phase_at start epoch member = first_phase epoch (is_president member (first start))

-- host h's master rests in this epoch
abbrev pub MasterRestsIn : Start → ℕ → ℕ → MasterState → Type 0
MasterRestsIn start h epoch m = MasterRests start (member_at (made start) h) (phase_at start epoch m.member) m

-- A part of host h is at rest in this epoch: no closing is asked for, and its master does nothing.
abbrev pub RestsIn : Start → ℕ → ℕ → Parts → Type 0
RestsIn start h epoch (Shell p) = (p.client.closing ≡ None) × (p.client.own ≡ false)
RestsIn start h epoch (Main p) = MasterRestsIn start h epoch p.master
RestsIn start h epoch (Tc p) = GivesAlone epoch p.dih
RestsIn start h epoch (Ldm p) = Unit {0}

-- so is each part after these logs
abbrev pub AreAtRestIn : Start → ℕ → (ℕ → List HostStep) → Type 0
AreAtRestIn start epoch logs = (h : ℕ) → h < first_hosts start → RestsIn start h epoch (after start h (logs h)).parts
