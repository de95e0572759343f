-- What is for a block of a host that runs it makes the block's step.
use Rattle.std.proofs.Common.{◌≡◌, true, refl, sym, ap, ◌∙◌}
use Rattle.std.proofs.lemmas.Bool.{false≢true}
use Rattle.sig_core.specs.declared.place.BlockId.TheVariants as block
use Rattle.sig_core.specs.declared.signal.Signal.{Signal}
use Rattle.sig_core.specs.Step.{Effects, Step}
use Rattle.api_block.specs.Api.{api_row}
use Rattle.api_block.specs.State.{ApiState}
use Rattle.lqh_block.specs.Lqh.{lqh_row}
use Rattle.lqh_block.specs.State.{LqhState}
use Rattle.node_core.proofs.HostCases.{BlockCase, api_takes, block_case, dih_takes, none_takes, rows_take, runs}
use Rattle.node_core.proofs.HostCases.{tc_takes}
use Rattle.node_core.specs.Blocks.{api_of, has_api, has_lqh, has_tc, lqh_of, tc_of}
use Rattle.node_core.specs.declared.host.Host.{Host}
use Rattle.node_core.specs.Row.{row}
use Rattle.tc_block.specs.State.{TcState}
use Rattle.tc_block.specs.Tc.{tc_row}
use Rattle.command_laws.proofs.hosts.BlockSteps.{api_host, api_seen, tc_host, tc_seen}
use Rattle.command_laws.proofs.hosts.HostKinds.{runs_rows}

pub api_takes_it : (g : Host) (x : Signal) → has_api g ≡ true → x.to.block ≡ block.Api
    → api_seen (row g x) ≡ api_row (api_of g) x
api_takes_it g x has at =
    api_host (λ (step : Step ApiState). step ≡ api_row (api_of g) x) g x has (λ here. refl) (λ off. absurd (off at))

pub tc_takes_it : (g : Host) (x : Signal) → has_tc g ≡ true → x.to.block ≡ block.Tc
    → tc_seen (row g x) ≡ tc_row (tc_of g) x
tc_takes_it g x has at =
    tc_host (λ (step : Step TcState). step ≡ tc_row (tc_of g) x) g x (λ there here. refl)
    (λ effects none off. absurd (false≢true (sym (off at) ∙ has)))

-- a host's step, as one of its rows
abbrev pub lqh_seen : Step Host → Step LqhState
lqh_seen t = record { state = lqh_of t.state; effects = t.effects }

pub lqh_takes_it : (g : Host) (x : Signal) → has_lqh g ≡ true → x.to.block ≡ block.Lqh
    → lqh_seen (row g x) ≡ lqh_row (lqh_of g) x
lqh_takes_it g x has at = go (row g x) (block_case g x)
  where
    go : (t : Step Host) → BlockCase g x t → lqh_seen t ≡ lqh_row (lqh_of g) x
    go t (rows_take step) =
        ap (λ (u : LqhState). record { state = u; effects = t.effects }) step.state
        ∙ ap (λ (f : Effects). record { state = (lqh_row (lqh_of g) x).state; effects = f }) step.effects
    go t (api_takes step) = absurd (let both : block.Lqh ≡ block.Api = sym at ∙ step.at in cc)
    go t (tc_takes step) = absurd (let both : block.Lqh ≡ block.Tc = sym at ∙ step.at in cc)
    go t (dih_takes step) = absurd (let both : block.Lqh ≡ block.Dih = sym at ∙ step.at in cc)
    go t (none_takes step) = absurd (false≢true (sym step.runs ∙ ap (runs g) at ∙ runs_rows g ∙ has))
