-- What the shell's host knows after its log, as long as it runs.
use Rattle.std.specs.Prelude.{◌&&◌, Bool, not, List}
use Rattle.node_views.specs.Replies as host
use Rattle.world_core.specs.Start.{Start}
use Rattle.world_core.specs.Steps.{HostStep}
use Rattle.world_views.specs.Machine.{after, has_stopped}

-- it runs, and its last command left something of its own unanswered
abbrev pub leaves_open : Start → List HostStep → Bool
leaves_open start log = not (has_stopped log) && host.is_left_open (after start 0 log)

-- it runs, and knows that the cluster is down
abbrev pub finds_down : Start → List HostStep → Bool
finds_down start log = not (has_stopped log) && host.is_down (after start 0 log)
