-- Quiet: nothing is under way.
use Rattle.std.specs.Prelude.{◌<◌, ℕ, List}
use Rattle.run_theory.specs.Links.{taken}
use Rattle.world_core.specs.Hosts.{hosts}
use Rattle.world_core.specs.Start.{Start}
use Rattle.world_core.specs.Steps.{HostStep}
use Rattle.world_views.specs.Machine.{machine}
use Rattle.world_views.specs.Right.{IsHeld, IsOpen}

-- each host has taken all that its links hold for it: of a host that runs all that it sent, and of one that has stopped
-- the closing, unless either has cut off the other
abbrev pub IsQuiet : Start → (ℕ → List HostStep) → Type 0
IsQuiet start logs =
    (i j : ℕ) → i < hosts start → j < hosts start → IsOpen start i j (logs j)
    → IsHeld start i j (logs i) (taken (machine start) i (logs j))
