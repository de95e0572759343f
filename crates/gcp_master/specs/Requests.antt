-- Requests for closings.
use Rattle.std.specs.Prelude.{ℕ, ◌==◌, if◌then◌else◌, true, is_some}
use Rattle.sig_core.specs.Step.{Step, stay}
use Rattle.gcp_master.specs.declared.phase.Asked.{Asked}
use Rattle.gcp_master.specs.declared.phase.Phase.{Phase}
use Rattle.gcp_master.specs.declared.phase.Phase.TheVariants.{Resting}
use Rattle.gcp_master.specs.Begin.{begins}
use Rattle.gcp_master.specs.State.{MasterState}

-- a global checkpoint is asked for, by the client, which is node 0, or by the copying of the master's own node
abbrev pub global_asked : Asked → ℕ → Asked
global_asked asked node = if node == 0 then record asked { global = true } else record asked { copy = true }

-- a global checkpoint is asked for, by a local one
abbrev pub local_asked : Asked → Asked
local_asked asked = record asked { local = true }

-- a micro closing is asked for
abbrev pub micro_asked : Asked → Asked
micro_asked asked = record asked { micro = true }

-- what is asked for is begun where nothing is under way, and else is held
abbrev pub asked_by : MasterState → Phase → Step MasterState
asked_by s (Resting current) = begins s current (is_some s.front)
asked_by s _ = stay s

unfoldable pub asked_row : MasterState → Asked → Step MasterState
asked_row s asked = asked_by (record s { asked = asked }) s.phase
