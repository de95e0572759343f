-- A replica is its keys: each signal does to each key what the event of that key says.
use Rattle.sig_core.specs.declared.place.Part.TheVariants as part
use Rattle.sig_core.specs.declared.signal.Signal.{Signal}
use Rattle.sig_core.specs.declared.member.Member.{Member}
use Rattle.world_core.specs.Hosts.{rows_host, started}
use Rattle.frag_map.specs.Layout.{Layout, holds}
use Rattle.node_core.specs.declared.host.Host.TheVariants.{Ldm}
use Rattle.node_core.specs.Blocks.{lqh_of}
use Rattle.std.specs.Prelude.{◌≡◌, ℕ, List, [], ◌∷◌, Option, true, ◌≤◌}
use Rattle.std.specs.FinMap as map
use Rattle.world_core.specs.Steps.{HostStep}
use Rattle.sig_core.specs.declared.place.BlockId.{BlockId}
use Rattle.sig_core.specs.declared.place.BlockId.TheVariants.{Lqh}
use Rattle.sig_core.specs.declared.signal.Body.{Body}
use Rattle.serial_model.specs.Legal.{rows_of}
use Rattle.row_locks.specs.OrderlyTables.{AreOrderly}
use Rattle.row_locks.specs.Rows.{unlocked}
use Rattle.lqh_block.specs.Lqh.{lqh_table}
use Rattle.lqh_block.specs.State.{LqhState}
use Rattle.node_core.specs.Committed.{row_at}
use Rattle.node_core.specs.declared.host.Host.{Host}
use Rattle.node_core.specs.Fresh.{fresh_part}
use Rattle.world_core.specs.Machine.{after}
use Rattle.world_core.specs.Start.{Start}
use Rattle.key_laws.specs.Placed.{IsPlaced}
use Rattle.key_laws.specs.Replica.{Event, Replica, at_key, event_at, key_after, rests}

-- the rows have their places, and the locks are orderly
pub record IsWell (s : LqhState) : Type 0 where
  pub placed : IsPlaced s.rows
  pub orderly : AreOrderly s.locks

-- a signal does to a key what its event there says
abbrev pub SignalsAreEvents : Type 0
SignalsAreEvents = (s : LqhState) (body : Body) (key : List ℕ) → IsWell s
    → at_key key (lqh_table s body).state ≡ key_after (event_at key s body) (at_key key s)

-- and leaves the replica well
abbrev pub SignalsKeepWell : Type 0
SignalsKeepWell = (s : LqhState) (body : Body) → IsWell s → IsWell (lqh_table s body).state

-- the rows of a host are well
abbrev pub IsWellHost : Host → Type 0
IsWellHost host = IsWell (lqh_of host)

-- so they are after any log
abbrev pub LogsKeepWell : Type 0
LogsKeepWell = (start : Start) (h : ℕ) (log : List HostStep) → IsWellHost (after start h log)

-- a key with this row on which nothing is at work
abbrev pub at_rest : Option (List ℕ) → Replica
at_rest row = record { cell = record { row = row; pending = [] }; lock = unlocked; waiting = [] }

-- one key of a host; one that runs no rows has none
abbrev pub key_in : List ℕ → Host → Replica
key_in key host = at_key key (lqh_of host)

-- at first each key of a node's group has its row of the start, and nothing is at work on it
abbrev pub KeysBeginAtRest : Type 0
KeysBeginAtRest =
    (member : Member) (layout : Layout) (epoch : ℕ) (rows : List (List ℕ × List ℕ)) (key : List ℕ)
    → holds layout.shape member.node key ≡ true
    → key_in key (fresh_part part.Ldm member layout epoch rows) ≡ at_rest (map.get (rows_of rows) key)

-- what a signal is to the key: only those for the rows of the node are events
abbrev pub event_for : List ℕ → LqhState → BlockId → Body → Event
event_for key s Lqh body = event_at key s body
event_for key s other body = rests

abbrev pub event_in : List ℕ → Host → Signal → Event
event_in key (Ldm s) x = event_for key s x.to.block x.body
event_in key host x = rests

-- along each log each step does to each key what its event there says
abbrev pub LogsFollowEvents : Type 0
LogsFollowEvents =
    (start : Start) (h : ℕ) (log : List HostStep) (e : HostStep) (key : List ℕ)
    → key_in key (after start h (e ∷ log))
    ≡ key_after (event_in key (after start h log) e.step.taken) (key_in key (after start h log))

-- at a node of its group the key is at rest at first, with its row of the start
abbrev pub NodesBeginAtRest : Type 0
NodesBeginAtRest =
    (start : Start) (node : ℕ) (key : List ℕ) → 1 ≤ node → node ≤ start.shape.nodes → holds start.shape node key ≡ true
    → key_in key (started start (rows_host start node)) ≡ at_rest (map.get (rows_of start.rows) key)

-- and its row is the committed row of the host
abbrev pub KeysHaveRows : Type 0
KeysHaveRows = (s : Host) (key : List ℕ) → row_at s key ≡ (key_in key s).cell.row
