-- What the client's side under views sees of the API.
use Rattle.std.specs.Prelude.{ℕ, Option, None, Some}
use Rattle.api_block.specs.declared.dump.Dump.{Dump}
use Rattle.api_block.specs.State.{ApiState}

-- the node of a dump
abbrev pub node_of : Option Dump → Option ℕ
node_of None = None
node_of (Some d) = Some d.node

-- the node whose dump is under way
abbrev pub dump_node : ApiState → Option ℕ
dump_node s = node_of s.dump
