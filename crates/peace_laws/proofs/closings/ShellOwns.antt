-- What a step of a closing leaves of the client's side and of the memberships as it was.
use Rattle.std.proofs.Common.{◌≡◌, ℕ, Bool, true, false, refl, sym, subst}
use Rattle.std.proofs.lemmas.Bool.{false≢true}
use Rattle.std.specs.Prelude.{None}
use Rattle.api_views.specs.declared.closings.Closing.{Closing}
use Rattle.api_views.specs.declared.closings.Closing.TheVariants.{Gcp, Micro}
use Rattle.api_views.specs.Client.{client_table}
use Rattle.api_views.specs.Closings.{closed_if, closed_row, is_asked}
use Rattle.api_views.specs.Members.{noted}
use Rattle.api_views.specs.State.{ClientState}
use Rattle.node_views.specs.Blocks.{in_main, parts_row}
use Rattle.node_views.specs.Parts.{main_row, shell_row}
use Rattle.node_views.specs.declared.main_part.MainPart.{MainPart}
use Rattle.node_views.specs.declared.parts.Parts.{Parts}
use Rattle.node_views.specs.declared.parts.Parts.TheVariants.{Shell, Main, Tc, Ldm}
use Rattle.node_views.specs.declared.shell_part.ShellPart.{ShellPart}
use Rattle.sig_core.specs.declared.place.BlockId.{BlockId}
use Rattle.sig_core.specs.declared.place.BlockId.TheVariants as block
use Rattle.sig_core.specs.declared.signal.Body.{Body}
use Rattle.sig_core.specs.declared.signal.Body.TheVariants.{Epoch}
use Rattle.sig_core.specs.declared.signal.Signal.{Signal}
use Rattle.sig_core.specs.declared.signal.epoch.EpochSignal.TheVariants as epoch
use Rattle.world_core.specs.Start.{Start}
use Rattle.calm_laws.specs.Resting.{IsRestingPart}
use Rattle.peace_laws.specs.Moments.{behind}
use Rattle.peace_laws.specs.Peace.{has_closer, is_for_closing}

-- where no closing is asked for, none is the client's own
abbrev pub Owns : ClientState → Type 0
Owns s = s.closing ≡ None → s.own ≡ false

abbrev pub ShellOwns : Parts → Type 0
ShellOwns (Shell p) = Owns p.client
ShellOwns parts = Unit {0}

owns_closed : (s : ClientState) (kind : Closing) (epoch : ℕ) (b : Bool) → Owns s → Owns (closed_if s kind epoch b)
owns_closed s kind epoch true owns none = refl
owns_closed s kind epoch false owns none = owns none

owns_noted : (s : ClientState) (x : Signal) → Owns s → Owns (noted s x.view)
unfolding noted
owns_noted s x owns = owns

owns_table : (s : ClientState) (x : Signal) (body : Body) → is_for_closing block.Api body ≡ true → Owns s
    → Owns (client_table s x body).state
unfolding closed_row
owns_table s x (Epoch (epoch.GcpRep closed)) is owns = owns_closed s Gcp closed (is_asked Gcp s.closing) owns
owns_table s x (Epoch (epoch.MicroRep closed)) is owns = owns_closed s Micro closed (is_asked Micro s.closing) owns
owns_table s x body is owns = absurd (false≢true is)

owns_by : (p : ShellPart) (x : Signal) (to : BlockId) → has_closer 0 to ≡ true → is_for_closing to x.body ≡ true
    → Owns p.client → Owns (shell_row p to x).state.client
unfolding shell_row
owns_by p x block.Api has is owns =
    owns_table (noted p.client x.view) x x.body is (owns_noted p.client x owns)
owns_by p x to has is owns = absurd (false≢true has)

pub owns_next : (parts : Parts) (x : Signal) → has_closer 0 x.to.block ≡ true
    → is_for_closing x.to.block x.body ≡ true → ShellOwns parts
    → ShellOwns (behind 0 (parts_row parts x).state)
owns_next (Shell p) x has is owns = owns_by p x x.to.block has is owns
owns_next (Main p) x has is owns = tt
owns_next (Tc p) x has is owns = tt
owns_next (Ldm p) x has is owns = tt

-- the master is no part of the membership
resting_by : (start : Start) (h : ℕ) (p : MainPart) (x : Signal) (to : BlockId) → to ≡ block.GcpMaster
    → IsRestingPart start h 1 (Main p) → IsRestingPart start h 1 (in_main (main_row p to x)).state
unfolding main_row
resting_by start h p x to is rests =
    subst (λ (b : BlockId). IsRestingPart start h 1 (in_main (main_row p b x)).state) (sym is)
    (record { missed = rests.missed; few = rests.few; is = rests.is })

pub resting_next : (start : Start) (h : ℕ) (parts : Parts) (x : Signal) → x.to.block ≡ block.GcpMaster
    → IsRestingPart start h 1 parts → IsRestingPart start h 1 (parts_row parts x).state
resting_next start h (Main p) x is rests = resting_by start h p x x.to.block is rests
resting_next start h (Shell p) x is rests = absurd rests
resting_next start h (Tc p) x is rests = absurd rests
resting_next start h (Ldm p) x is rests = absurd rests
