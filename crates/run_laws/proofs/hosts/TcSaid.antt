-- What the coordinator of a host says at a signal: what its row says where it takes the signal, and else nothing.
use Rattle.std.proofs.Common.{◌≡◌, true, false, [], refl, ap, sym, ◌∙◌}
use Rattle.sig_core.specs.declared.place.BlockId.{BlockId}
use Rattle.sig_core.specs.declared.place.BlockId.TheVariants as block
use Rattle.sig_core.specs.declared.signal.Signal.{Signal}
use Rattle.sig_core.specs.Step.{Step}
use Rattle.tc_block.specs.Tc.{tc_row}
use Rattle.node_core.specs.declared.host.Host.{Host}
use Rattle.node_core.specs.declared.host.Host.TheVariants.{Tc}
use Rattle.node_core.specs.declared.tc_part.TcPart.{TcPart}
use Rattle.node_core.specs.Blocks.{has_tc, tc_of}
use Rattle.node_core.specs.Row.{row}
use Rattle.node_core.proofs.HostCases.{BlockCase, IsTcStep, api_takes, block_case, dih_takes, none_takes, rows_take}
use Rattle.node_core.proofs.HostCases.{runs, tc_takes}
use Rattle.host_laws.specs.Ways.{sends_for, tc_sends}

pub tc_speaks : (s : Host) (x : Signal) → has_tc s ≡ true → x.to.block ≡ block.Tc
    → tc_sends s x ≡ (tc_row (tc_of s) x).effects.sends
tc_speaks (Tc p) x on at = ap (λ b. sends_for p b x) at
tc_speaks _ x on at = absurd cc

-- the signal is for another block
not_for : (p : TcPart) (x : Signal) (at : BlockId) → (at ≡ block.Tc → ⊥) → sends_for p at x ≡ []
not_for p x block.Tc off = absurd (off refl)
not_for p x _ off = refl

pub tc_silent : (s : Host) (x : Signal) → (x.to.block ≡ block.Tc → ⊥) → tc_sends s x ≡ []
tc_silent (Tc p) x off = not_for p x x.to.block off
tc_silent _ x off = refl

-- or the host doesn't run its block
pub idle_silent : (s : Host) (x : Signal) → runs s x.to.block ≡ false → tc_sends s x ≡ []
idle_silent (Tc p) x off =
    not_for p x x.to.block (λ at. let both : true ≡ false = sym (ap (runs (Tc p)) at) ∙ off in cc)
idle_silent _ x off = refl

pub data TcSays (s : Host) (x : Signal) (t : Step Host) : Type 0 where
  takes : IsTcStep s x t → tc_sends s x ≡ (tc_row (tc_of s) x).effects.sends → TcSays s x t
  rests : tc_of t.state ≡ tc_of s → tc_sends s x ≡ [] → TcSays s x t

says_by : (s : Host) (x : Signal) (t : Step Host) → BlockCase s x t → TcSays s x t
says_by s x t (api_takes step) =
    rests step.tc (tc_silent s x (λ at. let both : block.Api ≡ block.Tc = sym step.at ∙ at in cc))
says_by s x t (tc_takes step) = takes step (tc_speaks s x step.runs step.at)
says_by s x t (dih_takes step) =
    rests step.tc (tc_silent s x (λ at. let both : block.Dih ≡ block.Tc = sym step.at ∙ at in cc))
says_by s x t (rows_take step) =
    rests step.tc (tc_silent s x (λ at. let both : block.Lqh ≡ block.Tc = sym step.at ∙ at in cc))
says_by s x t (none_takes step) = rests (ap (λ (u : Step Host). tc_of u.state) step.is) (idle_silent s x step.runs)

pub tc_says : (s : Host) (x : Signal) → TcSays s x (row s x)
tc_says s x = says_by s x (row s x) (block_case s x)
