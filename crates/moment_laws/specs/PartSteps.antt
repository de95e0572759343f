-- What a step of a host comes to for the part that it runs: one that settles on no view itself, as a main part may.
use Rattle.std.specs.Prelude.{◌≡◌, ◌<◌, List, [], ◌++◌, ◌⊎◌}
use Rattle.sig_core.specs.declared.outs.Outgoing.{Outgoing}
use Rattle.sig_core.specs.declared.place.BlockId.{BlockId}
use Rattle.sig_core.specs.declared.signal.Signal.{Signal}
use Rattle.sig_core.specs.declared.view.Shape.{Shape}
use Rattle.sig_core.specs.declared.view.View.{View}
use Rattle.sig_core.specs.Step.{Step}
use Rattle.node_views.specs.declared.ldm_part.LdmPart.{LdmPart}
use Rattle.node_views.specs.declared.parts.Parts.{Parts}
use Rattle.node_views.specs.declared.parts.Parts.TheVariants as part
use Rattle.node_views.specs.declared.shell_part.ShellPart.{ShellPart}
use Rattle.node_views.specs.declared.tc_part.TcPart.{TcPart}
use Rattle.node_views.specs.Parts.{ldm_entered, ldm_row, shell_entered, shell_row, tc_entered, tc_row}
use Rattle.moment_laws.specs.Parts.{IsPassed}

-- a kind of parts: the blocks that they are, how a view is installed in them, and what they do at a signal
pub record Kind (P : Type 0) : Type 0 where
  pub within : P → Parts
  pub enter : P → View → Step P
  pub row : P → BlockId → Signal → Step P

abbrev pub tc_kind : Kind TcPart
tc_kind = record { within = part.Tc; enter = tc_entered; row = tc_row }

abbrev pub ldm_kind : Kind LdmPart
ldm_kind = record { within = part.Ldm; enter = ldm_entered; row = ldm_row }

abbrev pub shell_kind : Kind ShellPart
shell_kind = record { within = part.Shell; enter = shell_entered; row = shell_row }

-- the view of the signal is installed in the part, if it is greater than that in which the host stands; or nothing is
pub data PartEnters {P : Type 0} (kind : Kind P) (p : P) (view : View) (x : Signal) (between : P) (stood : View)
    (front : List Outgoing) : Type 0 where
  remains : between ≡ p → stood ≡ view → front ≡ [] → PartEnters kind p view x between stood front
  installs : view.number < x.view.number → between ≡ (kind.enter p x.view).state → stood ≡ x.view
      → front ≡ (kind.enter p x.view).effects.sends → PartEnters kind p view x between stood front

-- the part leaves the signal alone, or does what its row says
pub data PartTakes {P : Type 0} (kind : Kind P) (shape : Shape) (between : P) (stood : View) (x : Signal) (now : P)
    (rest : List Outgoing) : Type 0 where
  ignores : now ≡ between → rest ≡ [] → PartTakes kind shape between stood x now rest
  handles : IsPassed shape (kind.within between) stood x → now ≡ (kind.row between x.to.block x).state
      → rest ≡ (kind.row between x.to.block x).effects.sends → PartTakes kind shape between stood x now rest

-- one behind the other; of what it sends the host sends all, or nothing
pub record PartDoes {P : Type 0} (kind : Kind P) (shape : Shape) (p : P) (view : View) (x : Signal) (now : Parts)
    (seen : View) (sends : List Outgoing) : Type 0 where
  pub between : P
  pub front : List Outgoing
  pub enters : PartEnters kind p view x between seen front
  pub own : P
  pub is : now ≡ kind.within own
  pub rest : List Outgoing
  pub takes : PartTakes kind shape between seen x own rest
  pub sent : (sends ≡ front ++ rest) ⊎ (sends ≡ [])

-- a coordinating part, one that runs rows, and the shell's
abbrev pub TcDoes : Shape → TcPart → View → Signal → Parts → View → List Outgoing → Type 0
TcDoes = PartDoes tc_kind

abbrev pub LdmDoes : Shape → LdmPart → View → Signal → Parts → View → List Outgoing → Type 0
LdmDoes = PartDoes ldm_kind

abbrev pub ShellDoes : Shape → ShellPart → View → Signal → Parts → View → List Outgoing → Type 0
ShellDoes = PartDoes shell_kind
