-- What a master orders.
use Rattle.std.specs.Prelude.{ℕ, ◌+◌, ◌==◌, if◌then◌else◌, Bool, List}
use Rattle.std.specs.List.{list_any}
use Rattle.sig_core.specs.declared.member.Member.{Member}
use Rattle.sig_core.specs.declared.signal.Body.{Body}
use Rattle.sig_core.specs.declared.signal.Body.TheVariants.{Epoch, Checkpoint}
use Rattle.sig_core.specs.declared.signal.checkpoint.CheckpointSignal.TheVariants.{LcpFragOrd, LcpSwitch}
use Rattle.sig_core.specs.declared.signal.epoch.EpochSignal.TheVariants.{GcpPrepare, GcpCommit, GcpClosed, GcpSaveReq}
use Rattle.sig_core.specs.declared.signal.epoch.EpochSignal.TheVariants.{CopyGciReq, GcpDone, GcpStateReq}
use Rattle.gcp_master.specs.declared.orders.Order.{Order}
use Rattle.gcp_master.specs.declared.orders.Order.TheVariants as order

-- an order as a signal says it
unfoldable pub order_body : Order → Body
order_body order.State = Epoch GcpStateReq
order_body (order.Prepare epoch next) = Epoch (GcpPrepare epoch next)
order_body (order.Commit epoch next) = Epoch (GcpCommit epoch next)
order_body (order.Close epoch) = Epoch (GcpClosed epoch)
order_body (order.Save epoch) = Epoch (GcpSaveReq epoch)
order_body (order.Copy epoch mask) = Epoch (CopyGciReq epoch mask)
order_body (order.Done epoch) = Epoch (GcpDone epoch)
order_body order.Walk = Checkpoint LcpFragOrd
order_body order.Switch = Checkpoint LcpSwitch

-- a node is among the members
abbrev pub has_node : ℕ → List Member → Bool
has_node node members = list_any (λ member. member.node == node) members

-- the bit of a node, where it is among the members
abbrev pub bit_if : List Member → ℕ → ℕ → ℕ
bit_if members node bit = if has_node node members then bit else 0

-- a mask with bit n - 1 for each node n among the members
unfoldable pub mask_of : List Member → ℕ
mask_of members =
    bit_if members 1 1 + bit_if members 2 2 + bit_if members 3 4 + bit_if members 4 8
    + bit_if members 5 16 + bit_if members 6 32 + bit_if members 7 64 + bit_if members 8 128
