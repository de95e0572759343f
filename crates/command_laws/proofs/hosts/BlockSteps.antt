-- A step of a host as one of its API, and as one of its coordinator.
use Rattle.std.proofs.Common.{◌≡◌, Bool, true, false, List, refl, sym, ap, ◌∙◌, subst}
use Rattle.sig_core.specs.declared.outs.Outgoing.{Outgoing}
use Rattle.sig_core.specs.declared.place.BlockId.TheVariants as block
use Rattle.sig_core.specs.declared.place.Place.{Place}
use Rattle.sig_core.specs.declared.request.ApiReq.{ApiReq}
use Rattle.sig_core.specs.declared.signal.Body.{Body}
use Rattle.sig_core.specs.declared.signal.Body.TheVariants.{Host as of_host}
use Rattle.sig_core.specs.declared.signal.host.HostSignal.TheVariants.{Continue}
use Rattle.sig_core.specs.declared.signal.host.Work.TheVariants.{Request}
use Rattle.sig_core.specs.declared.signal.Signal.{Signal}
use Rattle.sig_core.specs.Place.{client}
use Rattle.sig_core.specs.Step.{Effects, Step, nothing, stay}
use Rattle.api_block.specs.Api.{api_row, api_table, request_row}
use Rattle.api_block.specs.State.{ApiState}
use Rattle.lqh_block.specs.Lqh.{lqh_table}
use Rattle.node_core.proofs.HostCases.{BlockCase, api_takes, block_case, dih_takes, none_takes, rows_take, runs}
use Rattle.node_core.proofs.HostCases.{tc_takes}
use Rattle.node_core.specs.Blocks.{api_of, dih_of, has_api, has_tc, lqh_of, tc_of}
use Rattle.node_core.specs.declared.host.Host.{Host}
use Rattle.node_core.specs.Dih.{dih_table}
use Rattle.node_core.specs.Row.{row}
use Rattle.tc_block.specs.State.{TcState}
use Rattle.tc_block.specs.Tc.{tc_row}
use Rattle.host_laws.proofs.hosts.DihSends.{dih_kinds}
use Rattle.host_laws.proofs.rows.Sends.{lqh_kinds}
use Rattle.host_laws.proofs.hosts.SendKinds.{is_dih_kind, is_lqh_kind, none_of}
use Rattle.host_laws.proofs.api.Wishes.{sends_of}
use Rattle.command_laws.proofs.hosts.HostKinds.{api_alone, api_no_rows, runs_api, runs_tc}
use Rattle.command_laws.proofs.hosts.HostSends.{IsOfTc, api_silent, not_of_api, not_of_dih, not_of_lqh}

-- a host's step, as one of its API
abbrev pub api_seen : Step Host → Step ApiState
api_seen t = record { state = api_of t.state; effects = t.effects }

-- what holds of each step of the API, and of none, holds of each step of the shell's host
pub api_host : (R : Step ApiState → Type 0) (g : Host) (x : Signal) → has_api g ≡ true
    → (x.to.block ≡ block.Api → R (api_row (api_of g) x)) → ((x.to.block ≡ block.Api → ⊥) → R (stay (api_of g)))
    → R (api_seen (row g x))
api_host R g x has moves rests = go (row g x) (block_case g x)
  where
    go : (t : Step Host) → BlockCase g x t → R (api_seen t)
    go t (api_takes step) =
        subst (λ (u : ApiState). R (record { state = u; effects = t.effects })) (sym step.state)
        (subst (λ (f : Effects). R (record { state = (api_row (api_of g) x).state; effects = f })) (sym step.effects)
        (moves step.at))
    go t (tc_takes step) = absurd (api_alone g has step.runs)
    go t (dih_takes step) = absurd (api_alone g has step.runs)
    go t (rows_take step) = absurd (api_no_rows g has step.runs)
    go t (none_takes step) = subst (λ (u : Step Host). R (api_seen u)) (sym step.is)
        (rests (λ at. off (ap (runs g) (sym at) ∙ step.runs)))
      where
        off : runs g block.Api ≡ false → ⊥
        off none = let both : true ≡ false = sym (runs_api g ∙ has) ∙ none in cc

-- at a request it does what the request's row says
pub request_step : (g : Host) (x : Signal) (request : ApiReq) → has_api g ≡ true → x.to ≡ client
    → x.body ≡ of_host (Continue (Request request) 0)
    → api_seen (row g x) ≡ request_row (api_of g) request
request_step g x request has place body = go (row g x) (block_case g x)
  where
    asked : api_row (api_of g) x ≡ request_row (api_of g) request
    asked = ap (api_table (api_of g)) body

    there : runs g x.to.block ≡ true
    there = ap (λ (to : Place). runs g to.block) place ∙ runs_api g ∙ has

    go : (t : Step Host) → BlockCase g x t → api_seen t ≡ request_row (api_of g) request
    go t (api_takes step) =
        ap (λ (u : ApiState). record { state = u; effects = t.effects }) step.state
        ∙ ap (λ (f : Effects). record { state = (api_row (api_of g) x).state; effects = f }) step.effects ∙ asked
    go t (tc_takes step) = absurd (api_alone g has step.runs)
    go t (dih_takes step) = absurd (api_alone g has step.runs)
    go t (rows_take step) = absurd (api_no_rows g has step.runs)
    go t (none_takes step) = absurd (let both : true ≡ false = sym there ∙ step.runs in cc)

-- a host's step, as one of its coordinator
abbrev pub tc_seen : Step Host → Step TcState
tc_seen t = record { state = tc_of t.state; effects = t.effects }

-- what only coordinators send isn't among these
abbrev pub SendsNoTc : List Outgoing → Type 0
SendsNoTc sends = (test : Place → Body → Bool) → IsOfTc test → sends_of test sends ≡ 0

-- what holds of each step of a coordinator, and where nothing changes there and nothing of the kind is sent, holds of
-- each step of a host
pub tc_host : (R : Step TcState → Type 0) (g : Host) (x : Signal)
    → (has_tc g ≡ true → x.to.block ≡ block.Tc → R (tc_row (tc_of g) x))
    → ((effects : Effects) → SendsNoTc effects.sends → (x.to.block ≡ block.Tc → has_tc g ≡ false)
    → R (record { state = tc_of g; effects = effects })) → R (tc_seen (row g x))
tc_host R g x moves rests = go (row g x) (block_case g x)
  where
    at_rest : (t : Step Host) (f : Effects) → tc_of t.state ≡ tc_of g → t.effects ≡ f → SendsNoTc f.sends
        → (x.to.block ≡ block.Tc → has_tc g ≡ false) → R (tc_seen t)
    at_rest t f same effects none off =
        subst (λ (u : TcState). R (record { state = u; effects = t.effects })) (sym same)
        (subst (λ (e : Effects). R (record { state = tc_of g; effects = e })) (sym effects) (rests f none off))

    go : (t : Step Host) → BlockCase g x t → R (tc_seen t)
    go t (tc_takes step) =
        subst (λ (u : TcState). R (record { state = u; effects = t.effects })) (sym step.state)
        (subst (λ (f : Effects). R (record { state = (tc_row (tc_of g) x).state; effects = f })) (sym step.effects)
        (moves step.runs step.at))
    go t (api_takes step) = at_rest t _ step.tc step.effects (λ test only. api_silent test (not_of_api test only)
        (api_of g) x.body) (λ at. absurd (let both : _ ≡ block.Tc = sym step.at ∙ at in cc))
    go t (dih_takes step) =
        at_rest t _ step.tc step.effects (λ test only. none_of is_dih_kind test (not_of_dih test only)
        (dih_table (dih_of g) x.body).effects.sends (dih_kinds (dih_of g) x.body))
        (λ at. absurd (let both : _ ≡ block.Tc = sym step.at ∙ at in cc))
    go t (rows_take step) =
        at_rest t _ step.tc step.effects (λ test only. none_of is_lqh_kind test (not_of_lqh test only)
        (lqh_table (lqh_of g) x.body).effects.sends (lqh_kinds (lqh_of g) x.body))
        (λ at. absurd (let both : _ ≡ block.Tc = sym step.at ∙ at in cc))
    go t (none_takes step) =
        at_rest t nothing (ap (λ (u : Step Host). tc_of u.state) step.is) (ap (λ (u : Step Host). u.effects) step.is)
        (λ test only. refl)
        (λ at. sym (runs_tc g) ∙ ap (runs g) (sym at) ∙ step.runs)
