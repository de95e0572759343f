-- Hosts that are alike: one of a cluster that may fail, where nothing has failed, and one of the plain machine.
use Rattle.std.specs.Prelude.{◌≡◌, List, [], map, None}
use Rattle.api_block.specs.Given.{in_given}
use Rattle.api_views.specs.Laws.{calm_state}
use Rattle.dih_node.specs.declared.dih.Counted.{Counted}
use Rattle.dih_node.specs.State as views
use Rattle.frag_map.specs.Layout.{first_number, first_view}
use Rattle.node_core.specs.declared.host.Host as plain
use Rattle.node_core.specs.declared.host.Host.TheVariants as plain_host
use Rattle.node_core.specs.Dih as plain_dih
use Rattle.node_views.specs.declared.host_body.HostBody as host
use Rattle.node_views.specs.declared.parts.Parts.{Parts}
use Rattle.node_views.specs.declared.parts.Parts.TheVariants.{Shell, Main, Tc, Ldm}
use Rattle.node_views.specs.declared.standing.Standing.{Standing}
use Rattle.sig_core.specs.declared.member.TxId.{TxId}
use Rattle.sig_core.specs.declared.reply.ApiReply.{ApiReply}
use Rattle.sig_core.specs.declared.view.View.{View}
use Rattle.tc_block.specs.State.{TcState}
use Rattle.tc_views.specs.State.{CoordinatorState}
use Rattle.world_core.specs.Start.{Start}

-- the view in which a life begins
abbrev pub first : Start → View
first start = first_view start.shape.nodes

-- it stands in the first view, isn't to be killed, and has cut nobody off
pub record IsAtEase (start : Start) (standing : Standing) : Type 0 where
  pub shape : standing.shape ≡ start.shape
  pub view : standing.view ≡ first start
  pub lives : standing.left ≡ None
  pub uncut : standing.cut ≡ []

-- a coordinator in the first view, which has promised no other
abbrev pub at_ease : TcState → CoordinatorState
at_ease tc = record { tc = tc; number = first_number; fence = first_number; doomed = []; left = [] }

abbrev pub tx_of : Counted → TxId
tx_of one = one.tx

-- Epochs are alike: the node gives the same one, which isn't about to change, and the same transactions are counted.
pub record AreEpochsAlike (one : views.DihState) (other : plain_dih.DihState) : Type 0 where
  pub node : one.node ≡ other.node
  pub number : one.number ≡ first_number
  pub fence : one.fence ≡ first_number
  pub current : one.current ≡ other.epoch
  pub next : one.next ≡ other.epoch
  pub counted : map tx_of one.counted ≡ other.counted
  pub held : one.held ≡ []
  pub order : one.order ≡ None

-- parts are alike, where the client was told these replies before
abbrev pub ArePartsAlike : Start → List ApiReply → Parts → plain.Host → Type 0
ArePartsAlike start given (Shell p) (plain_host.Shell a) =
    (p.client ≡ calm_state p.client.api start.shape.nodes None)
    × ((p.client.api.view ≡ first start) × ((p.client.api.replies ≡ []) × (a ≡ in_given given p.client.api)))
ArePartsAlike start given (Main p) (plain_host.Main m) = Unit {0}
ArePartsAlike start given (Tc p) (plain_host.Tc q) = (p.coordinator ≡ at_ease q.tc) × AreEpochsAlike p.dih q.dih
ArePartsAlike start given (Ldm p) (plain_host.Ldm s) =
    (p.replica.lqh ≡ s) × ((s.layout.view ≡ first start) × (p.fence ≡ first_number))
ArePartsAlike start given parts other = ⊥

pub record AreAlike (start : Start) (given : List ApiReply) (s : host.HostBody) (other : plain.Host) : Type 0 where
  pub standing : IsAtEase start s.standing
  pub parts : ArePartsAlike start given s.parts other
