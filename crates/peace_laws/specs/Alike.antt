-- Hosts that are alike: one of a cluster in peace, and one of the plain machine, but for how far a closing has come and
-- for epochs.
use Rattle.std.specs.Prelude.{◌≡◌, Bool, List, [], map, Option, None, Some, false}
use Rattle.api_block.specs.Given.{in_given}
use Rattle.api_views.specs.Laws.{calm_state}
use Rattle.dih_node.specs.State as views
use Rattle.frag_map.specs.Layout.{first_number}
use Rattle.gcp_master.specs.declared.orders.Ended.{Ended}
use Rattle.gcp_master.specs.declared.orders.Ended.TheVariants.{Global}
use Rattle.gcp_master.specs.declared.phase.Phase.{Phase}
use Rattle.gcp_master.specs.declared.phase.Phase.TheVariants.{Gathering, Preparing, Committing, Closing, Saving}
use Rattle.gcp_master.specs.declared.phase.Phase.TheVariants.{Copying}
use Rattle.gcp_master.specs.State.{MasterState}
use Rattle.node_core.specs.declared.host.Host as plain
use Rattle.node_core.specs.declared.host.Host.TheVariants as plain_host
use Rattle.node_core.specs.Dih as plain_dih
use Rattle.node_views.specs.declared.host_body.HostBody as host
use Rattle.node_views.specs.declared.parts.Parts.{Parts}
use Rattle.node_views.specs.declared.parts.Parts.TheVariants.{Shell, Main, Tc, Ldm}
use Rattle.sig_core.specs.declared.reply.ApiReply.{ApiReply}
use Rattle.world_core.specs.Start.{Start}
use Rattle.calm_laws.specs.Alike.{IsAtEase, at_ease, first, tx_of}

-- Epochs are near: the node gives the same one, and the same transactions are counted. It may be prepared for another.
pub record AreEpochsNear (one : views.DihState) (other : plain_dih.DihState) : Type 0 where
  pub node : one.node ≡ other.node
  pub number : one.number ≡ first_number
  pub fence : one.fence ≡ first_number
  pub current : one.current ≡ other.epoch
  pub counted : map tx_of one.counted ≡ other.counted
  pub held : one.held ≡ []

-- No member is asked how far it is, and neither a copying of rows nor a local checkpoint waits for the end of a
-- closing: of the one that is under way, of the last one, and of the next.
abbrev pub IsForNone : Bool → Bool → Type 0
IsForNone copy local = (copy ≡ false) × (local ≡ false)

abbrev pub IsPhaseNear : Phase → Type 0
IsPhaseNear (Gathering known) = ⊥
IsPhaseNear (Preparing run) = IsForNone run.copy run.local
IsPhaseNear (Committing run) = IsForNone run.copy run.local
IsPhaseNear (Closing run) = IsForNone run.copy run.local
IsPhaseNear (Saving run) = IsForNone run.copy run.local
IsPhaseNear (Copying run) = IsForNone run.copy run.local
IsPhaseNear phase = Unit {0}

abbrev pub IsFrontNear : Option Ended → Type 0
IsFrontNear (Some (Global epoch copy local)) = IsForNone copy local
IsFrontNear front = Unit {0}

pub record IsMasterNear (m : MasterState) : Type 0 where
  pub phase : IsPhaseNear m.phase
  pub front : IsFrontNear m.front
  pub asked : IsForNone m.asked.copy m.asked.local

-- parts are near, where the client was told these replies before
abbrev pub ArePartsNear : Start → List ApiReply → Parts → plain.Host → Type 0
ArePartsNear start given (Shell p) (plain_host.Shell a) =
    (p.client
    ≡ record (calm_state p.client.api start.shape.nodes None) { closing = p.client.closing; own = p.client.own })
    × ((p.client.api.view ≡ first start) × ((p.client.api.replies ≡ []) × (a ≡ in_given given p.client.api)))
ArePartsNear start given (Main p) (plain_host.Main m) = IsMasterNear p.master
ArePartsNear start given (Tc p) (plain_host.Tc q) = (p.coordinator ≡ at_ease q.tc) × AreEpochsNear p.dih q.dih
ArePartsNear start given (Ldm p) (plain_host.Ldm s) =
    (p.replica.lqh ≡ s) × ((s.layout.view ≡ first start) × (p.fence ≡ first_number))
ArePartsNear start given parts other = ⊥

pub record AreNear (start : Start) (given : List ApiReply) (s : host.HostBody) (other : plain.Host) : Type 0 where
  pub standing : IsAtEase start s.standing
  pub parts : ArePartsNear start given s.parts other

-- No closing is under way at a part: it isn't asked for, nor is a node prepared or to report the end of one.
abbrev pub RestsOfClosings : Parts → Type 0
RestsOfClosings (Shell p) = (p.client.closing ≡ None) × (p.client.own ≡ false)
RestsOfClosings (Main p) = Unit {0}
RestsOfClosings (Tc p) = (p.dih.next ≡ p.dih.current) × (p.dih.order ≡ None)
RestsOfClosings (Ldm p) = Unit {0}
