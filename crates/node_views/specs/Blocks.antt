-- What the blocks of a host do at a signal, and where a view is installed.
use Rattle.std.specs.Prelude.{◌≡◌, ℕ, Bool, true, false, [], Option, None}
use Rattle.sig_core.specs.declared.outcome.StopCause.{StopCause}
use Rattle.sig_core.specs.declared.place.BlockId.{BlockId}
use Rattle.sig_core.specs.declared.place.BlockId.TheVariants as block
use Rattle.sig_core.specs.declared.signal.Signal.{Signal}
use Rattle.sig_core.specs.declared.view.View.{View}
use Rattle.sig_core.specs.Step.{Effects, HasRoom, Step}
use Rattle.node_views.specs.Parts.{ldm_entered, ldm_row, main_entered, main_row, main_settled, main_stops}
use Rattle.node_views.specs.Parts.{shell_entered, shell_row, tc_entered, tc_row}
use Rattle.node_views.specs.declared.ldm_part.LdmPart.{LdmPart}
use Rattle.node_views.specs.declared.main_part.MainPart.{MainPart}
use Rattle.node_views.specs.declared.parts.Parts.{Parts}
use Rattle.node_views.specs.declared.parts.Parts.TheVariants.{Shell, Main, Tc, Ldm}
use Rattle.node_views.specs.declared.shell_part.ShellPart.{ShellPart}
use Rattle.node_views.specs.declared.tc_part.TcPart.{TcPart}

-- a step of a part is one of its host's blocks
abbrev pub in_shell : Step ShellPart → Step Parts
in_shell t = record { state = Shell t.state; effects = t.effects }

abbrev pub in_main : Step MainPart → Step Parts
in_main t = record { state = Main t.state; effects = t.effects }

abbrev pub in_tc : Step TcPart → Step Parts
in_tc t = record { state = Tc t.state; effects = t.effects }

abbrev pub in_ldm : Step LdmPart → Step Parts
in_ldm t = record { state = Ldm t.state; effects = t.effects }

-- what the blocks of a host do at a signal
abbrev pub parts_row : Parts → Signal → Step Parts
parts_row (Shell p) x = in_shell (shell_row p x.to.block x)
parts_row (Main p) x = in_main (main_row p x.to.block x)
parts_row (Tc p) x = in_tc (tc_row p x.to.block x)
parts_row (Ldm p) x = in_ldm (ldm_row p x.to.block x)

-- the view that the membership settles on at a signal
abbrev pub settled_at : Parts → Signal → Option View
settled_at (Main p) x = main_settled p x.to.block x
settled_at _ x = None

-- why the blocks have their host stop at a signal
abbrev pub stop_at : Parts → Signal → Option StopCause
stop_at (Main p) x = main_stops p x.to.block x
stop_at _ x = None

-- a view is installed in each block
abbrev pub parts_entered : Parts → View → Step Parts
parts_entered (Shell p) view = in_shell (shell_entered p view)
parts_entered (Main p) view = in_main (main_entered p view)
parts_entered (Tc p) view = in_tc (tc_entered p view)
parts_entered (Ldm p) view = in_ldm (ldm_entered p view)

-- the number below which a block is fenced off, in a host whose view has this number
abbrev pub fence_at : Parts → BlockId → ℕ → ℕ
fence_at (Tc p) block.Tc number = p.coordinator.fence
fence_at (Tc p) block.Dih number = p.dih.fence
fence_at (Ldm p) block.Lqh number = p.fence
fence_at _ _ number = number

abbrev pub is_shell : Parts → Bool
is_shell (Shell p) = true
is_shell parts = false

-- the effects leave room for what the blocks may send at a signal: at the shell's host a round of time takes all there
-- is
pub record HasRoomFor (parts : Parts) (out : Effects) : Type 0 where
  pub room : HasRoom out
  pub shell : is_shell parts ≡ true → out.sends ≡ []
