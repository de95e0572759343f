-- What a master sends.
use Rattle.std.specs.Prelude.{ℕ, ◌+◌, ◌==◌, ◌&&◌, Bool, true, false, nat_lt, List, [], ◌∷◌, ◌++◌, length, map, Option}
use Rattle.std.specs.Prelude.{None, Some}
use Rattle.sig_core.specs.declared.mark.Mark.{Mark}
use Rattle.sig_core.specs.declared.member.Member.{Member}
use Rattle.sig_core.specs.declared.outs.Outgoing.{Outgoing}
use Rattle.sig_core.specs.declared.place.BlockId.{BlockId}
use Rattle.sig_core.specs.declared.place.BlockId.TheVariants as block
use Rattle.sig_core.specs.declared.portion.TheConstants.{PORTION}
use Rattle.sig_core.specs.declared.signal.Body.TheVariants.{Epoch}
use Rattle.sig_core.specs.declared.signal.epoch.EpochSignal.TheVariants.{GcpRep, MicroRep}
use Rattle.sig_core.specs.declared.signal.host.Work.TheVariants.{Members}
use Rattle.sig_core.specs.declared.view.View.{View}
use Rattle.sig_core.specs.Place.{checkpoints, client}
use Rattle.sig_core.specs.Portion.{portion_effects}
use Rattle.sig_core.specs.Step.{Effects, Step, joined, nothing, and_mark, stay, to_place}
use Rattle.gcp_master.specs.declared.orders.Ended.{Ended}
use Rattle.gcp_master.specs.declared.orders.Ended.TheVariants.{Micro, Global}
use Rattle.gcp_master.specs.declared.orders.Order.{Order}
use Rattle.gcp_master.specs.declared.orders.Order.TheVariants as order
use Rattle.gcp_master.specs.declared.phase.Phase.{Phase}
use Rattle.gcp_master.specs.declared.phase.Phase.TheVariants.{Unordered, Gathering, Resting, Preparing, Committing}
use Rattle.gcp_master.specs.declared.phase.Phase.TheVariants.{Closing, Saving, Copying}
use Rattle.gcp_master.specs.declared.sends.TheConstants.{SENDS}
use Rattle.gcp_master.specs.Orders.{mask_of, order_body}
use Rattle.gcp_master.specs.State.{MasterState, at_phase}

-- an order to a block of a member
abbrev pub order_at : BlockId → Order → Member → Outgoing
order_at block order member = to_place (record { node = member.node; block = block }) (order_body order)

-- to that block of each of these
abbrev pub orders_at : BlockId → Order → List Member → List Outgoing
orders_at block order members = map (order_at block order) members

-- to that block of each member, the full ones first
unfoldable pub to_each : BlockId → Order → View → List Outgoing
to_each block order view = orders_at block order view.full ++ orders_at block order view.starting

-- to the block of epochs of each member, and then to the rows of each
unfoldable pub to_both : Order → View → List Outgoing
to_both order view = to_each block.Dih order view ++ to_each block.Lqh order view

-- the copying of the node is told, where it asked
abbrev pub to_copying : ℕ → ℕ → Bool → List Outgoing
to_copying node epoch true = to_place (record { node = node; block = block.Copy }) (Epoch (GcpRep epoch)) ∷ []
to_copying node epoch false = []

-- the rows of the full members are to switch to the local checkpoint that asked for it
abbrev pub to_switch : View → Bool → List Outgoing
to_switch view true = orders_at block.Lqh order.Switch view.full
to_switch view false = []

-- what is told when a closing has ended: a micro closing to the client; a global checkpoint to each member, to the
-- client, to the copying of the node, and to the rows that are to switch
unfoldable pub front_sends : ℕ → View → Option Ended → List Outgoing
front_sends node view None = []
front_sends node view (Some (Micro epoch)) = to_place client (Epoch (MicroRep epoch)) ∷ []
front_sends node view (Some (Global epoch copy local)) =
    to_both (order.Done epoch) view
    ++ to_place client (Epoch (GcpRep epoch)) ∷ (to_copying node epoch copy ++ to_switch view local)

-- what is ordered in a phase
unfoldable pub phase_sends : View → Phase → List Outgoing
phase_sends view Unordered = []
phase_sends view (Gathering known) = to_both order.State view
phase_sends view (Resting current) = []
phase_sends view (Preparing run) = to_each block.Dih (order.Prepare run.epoch run.next) view
phase_sends view (Committing run) = to_each block.Dih (order.Commit run.epoch run.next) view
phase_sends view (Closing run) = to_both (order.Close run.epoch) view
phase_sends view (Saving run) = to_each block.Lqh (order.Save run.epoch) view
phase_sends view (Copying run) = to_each block.Dih (order.Copy run.epoch (mask_of view.full)) view

-- all that a master sends, in order: what the end of the last closing left to tell, and what it orders
unfoldable pub master_sends : MasterState → List Outgoing
master_sends s = front_sends s.member.node s.view s.front ++ phase_sends s.view s.phase

-- what an event sends of it, from a place on
unfoldable pub list_effects : MasterState → ℕ → Effects
list_effects s at = portion_effects (checkpoints s.member.node) Members (master_sends s) at

-- where all of the list is sent, all were told of the last closing
abbrev pub told_if : MasterState → Bool → MasterState
told_if s true = s
told_if s false = record s { front = None }

-- an event goes on with the list, from a place on
unfoldable pub listing : MasterState → ℕ → Step MasterState
listing s at =
    record { state = told_if s (nat_lt (at + PORTION) (length (master_sends s))); effects = list_effects s at }

-- a master comes to a phase, and orders what is due there
abbrev pub entering : MasterState → Phase → Step MasterState
entering s phase = listing (at_phase s phase) 0

-- a step that is marked too
abbrev pub marking : Mark → Step MasterState → Step MasterState
marking mark step = record { state = step.state; effects = joined (and_mark nothing mark) step.effects }

-- The rest of the list. What was left when another view was installed isn't sent any more. No list has more than 58
-- signals.
abbrev pub go_on_if : MasterState → ℕ → Bool → Step MasterState
go_on_if s at true = listing s at
go_on_if s at false = stay s

unfoldable pub go_on_row : MasterState → ℕ → ℕ → Step MasterState
go_on_row s number at = go_on_if s at (number == s.view.number && nat_lt at SENDS)
