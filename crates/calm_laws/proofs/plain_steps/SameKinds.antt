-- Parts that are alike are of one kind.
use Rattle.std.specs.Prelude.{List}
use Rattle.api_block.specs.State.{ApiState}
use Rattle.lqh_block.specs.State.{LqhState}
use Rattle.node_core.specs.declared.host.Host as plain
use Rattle.node_core.specs.declared.host.Host.TheVariants as plain_host
use Rattle.node_core.specs.declared.main_part.MainPart as plain_main
use Rattle.node_core.specs.declared.tc_part.TcPart as plain_tc
use Rattle.node_views.specs.declared.ldm_part.LdmPart.{LdmPart}
use Rattle.node_views.specs.declared.main_part.MainPart.{MainPart}
use Rattle.node_views.specs.declared.parts.Parts.{Parts}
use Rattle.node_views.specs.declared.parts.Parts.TheVariants.{Shell, Main, Tc, Ldm}
use Rattle.node_views.specs.declared.shell_part.ShellPart.{ShellPart}
use Rattle.node_views.specs.declared.tc_part.TcPart.{TcPart}
use Rattle.sig_core.specs.declared.reply.ApiReply.{ApiReply}
use Rattle.world_core.specs.Start.{Start}
use Rattle.calm_laws.specs.Alike.{ArePartsAlike}

-- what is so of parts of each kind
pub record KindForms (start : Start) (given : List ApiReply) (Q : Parts → plain.Host → Type 0) : Type 0 where
  pub shell : (p : ShellPart) (a : ApiState) → ArePartsAlike start given (Shell p) (plain_host.Shell a)
      → Q (Shell p) (plain_host.Shell a)
  pub main : (p : MainPart) (m : plain_main.MainPart) → Q (Main p) (plain_host.Main m)
  pub tc : (p : TcPart) (q : plain_tc.TcPart) → ArePartsAlike start given (Tc p) (plain_host.Tc q)
      → Q (Tc p) (plain_host.Tc q)
  pub ldm : (p : LdmPart) (s : LqhState) → ArePartsAlike start given (Ldm p) (plain_host.Ldm s)
      → Q (Ldm p) (plain_host.Ldm s)

-- is so of all that are alike
pub by_kind : (start : Start) (given : List ApiReply) (Q : Parts → plain.Host → Type 0) → KindForms start given Q
    → (parts : Parts) (other : plain.Host) → ArePartsAlike start given parts other → Q parts other
by_kind start given Q forms (Shell p) (plain_host.Shell a) alike = forms.shell p a alike
by_kind start given Q forms (Main p) (plain_host.Main m) alike = forms.main p m
by_kind start given Q forms (Tc p) (plain_host.Tc q) alike = forms.tc p q alike
by_kind start given Q forms (Ldm p) (plain_host.Ldm s) alike = forms.ldm p s alike
by_kind start given Q forms parts other alike = absurd alike
