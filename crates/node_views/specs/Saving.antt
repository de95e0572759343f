-- What the disk of a node has to keep of a host.
use Rattle.std.specs.Prelude.{ℕ, Option, None, Some}
use Rattle.lqh_saver.specs.declared.stage.Todo.{Todo}
use Rattle.lqh_saver.specs.declared.stage.Todo.TheVariants.{Nothing}
use Rattle.sig_core.specs.Journal.{OutletState}
use Rattle.node_views.specs.declared.parts.Parts.{Parts}
use Rattle.node_views.specs.declared.parts.Parts.TheVariants.{Ldm}

-- what the journal of its rows has to give out, where the host has rows
abbrev pub outlet_of : Parts → Option OutletState
outlet_of (Ldm p) = Some p.replica.lqh.outlet
outlet_of parts = None

-- the greatest epoch that they noted as saved
abbrev pub saved_by : Parts → ℕ
saved_by (Ldm p) = p.replica.saved
saved_by parts = 0

-- what it is to do of the last step of their saver
abbrev pub todo_of : Parts → Todo
todo_of (Ldm p) = p.saver.todo
todo_of parts = Nothing
