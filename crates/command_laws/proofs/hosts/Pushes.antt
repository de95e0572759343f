-- What the shell's host sends to coordinators, and that nodes send nothing of that.
use Rattle.std.proofs.Common.{◌≡◌, ℕ, suc, Bool, true, false, List, [], ◌∷◌, ◌++◌, refl, sym, ap, ◌∙◌, subst, arith}
use Rattle.run_theory.specs.Lists.{Each}
use Rattle.sig_core.specs.declared.member.TxId.{TxId}
use Rattle.sig_core.specs.declared.outs.Outgoing.{Outgoing}
use Rattle.sig_core.specs.declared.place.Place.{Place}
use Rattle.sig_core.specs.declared.signal.Body.{Body}
use Rattle.sig_core.specs.declared.signal.Body.TheVariants.{Client}
use Rattle.sig_core.specs.declared.signal.client.ClientSignal.TheVariants.{TcBeginReq, TcKeyReq, TcCommitReq}
use Rattle.sig_core.specs.declared.signal.client.ClientSignal.TheVariants.{TcRollbackReq, TcWaitReq}
use Rattle.sig_core.specs.declared.signal.Signal.{Signal}
use Rattle.sig_core.specs.Step.{Step}
use Rattle.api_block.specs.Api.{api_row}
use Rattle.api_block.specs.declared.opened.OpenTransaction.{OpenTransaction}
use Rattle.api_block.specs.Opened.{begins, is_beginning, same_name}
use Rattle.api_block.specs.State.{ApiState}
use Rattle.lqh_block.specs.Lqh.{lqh_table}
use Rattle.node_core.proofs.HostCases.{of_effects}
use Rattle.node_core.specs.Blocks.{api_of, dih_of, has_api, lqh_of, tc_of}
use Rattle.node_core.specs.declared.host.Host as host
use Rattle.node_core.specs.Dih.{dih_table}
use Rattle.node_core.specs.Requests.{is_request}
use Rattle.node_core.specs.Row.{row}
use Rattle.tc_block.specs.State.{TcState}
use Rattle.tc_block.specs.Tc.{tc_table}
use Rattle.world_core.proofs.HostNumbers.{api_runs}
use Rattle.world_core.specs.Machine.{after, step_after}
use Rattle.world_core.specs.Start.{Start}
use Rattle.world_core.specs.Steps.{HostStep}
use Rattle.host_laws.proofs.api.Begins.{each_at, each_changed, each_less}
use Rattle.host_laws.proofs.hosts.DihSends.{dih_kinds}
use Rattle.host_laws.proofs.rows.Operations.{left_of}
use Rattle.host_laws.proofs.rows.Sends.{lqh_kinds}
use Rattle.host_laws.proofs.hosts.SendKinds.{are_of, is_dih_kind, is_lqh_kind, is_tc_kind, none_of, of_kind}
use Rattle.host_laws.proofs.coordinator.Sends.{tc_only}
use Rattle.host_laws.proofs.api.Wishes.{is_tc, second_fails, sends_of}
use Rattle.host_laws.specs.OpenedAfter.{opened_in}
use Rattle.command_laws.proofs.hosts.ApiChanges.{ApiChange, answers, api_changes, commits, ends, is_news_kind, refuses}
use Rattle.command_laws.proofs.hosts.ApiChanges.{rests, starts, waits}
use Rattle.command_laws.proofs.hosts.Entries.{NoneBegins}
use Rattle.command_laws.proofs.ends.FirmHosts.{is_push_to, push_of}
use Rattle.command_laws.proofs.hosts.HostKinds.{node_runs_none}
use Rattle.command_laws.proofs.hosts.BlockSteps.{api_host}
use Rattle.command_laws.proofs.quiet.Since.{sent_since}

-- all but what the API asks coordinators for
abbrev pub is_node_kind : Body → Bool
is_node_kind (Client (TcBeginReq name)) = false
is_node_kind (Client (TcKeyReq tx op)) = false
is_node_kind (Client (TcCommitReq tx)) = false
is_node_kind (Client (TcRollbackReq tx)) = false
is_node_kind (Client (TcWaitReq tx)) = false
is_node_kind _ = true

tc_is_node : (tx : TxId) (body : Body) → is_tc_kind tx body ≡ true → is_node_kind body ≡ true
tc_is_node tx (Client (TcBeginReq name)) e = cc
tc_is_node tx (Client (TcKeyReq one op)) e = cc
tc_is_node tx (Client (TcCommitReq one)) e = cc
tc_is_node tx (Client (TcRollbackReq one)) e = cc
tc_is_node tx (Client (TcWaitReq one)) e = cc
tc_is_node tx _ e = refl

dih_is_node : (body : Body) → is_dih_kind body ≡ true → is_node_kind body ≡ true
dih_is_node (Client (TcBeginReq name)) e = cc
dih_is_node (Client (TcKeyReq one op)) e = cc
dih_is_node (Client (TcCommitReq one)) e = cc
dih_is_node (Client (TcRollbackReq one)) e = cc
dih_is_node (Client (TcWaitReq one)) e = cc
dih_is_node _ e = refl

lqh_is_node : (body : Body) → is_lqh_kind body ≡ true → is_node_kind body ≡ true
lqh_is_node (Client (TcBeginReq name)) e = cc
lqh_is_node (Client (TcKeyReq one op)) e = cc
lqh_is_node (Client (TcCommitReq one)) e = cc
lqh_is_node (Client (TcRollbackReq one)) e = cc
lqh_is_node (Client (TcWaitReq one)) e = cc
lqh_is_node _ e = refl

tc_sends_node : (s : TcState) (body : Body) → are_of is_node_kind (tc_table s body).effects.sends ≡ true
tc_sends_node = tc_only is_node_kind tc_is_node (λ name. refl) (λ name tx. refl)

host_sends_node : (g : host.Host) (x : Signal) → has_api g ≡ false → are_of is_node_kind (row g x).effects.sends ≡ true
host_sends_node g x none = of_effects (λ f. are_of is_node_kind f.sends ≡ true) g x refl (record {
  api = λ runs at. absurd (let both : true ≡ false = sym runs ∙ none in cc);
  tc = λ runs at. tc_sends_node (tc_of g) x.body;
  dih = λ runs at. of_kind is_dih_kind is_node_kind dih_is_node (dih_table (dih_of g) x.body).effects.sends
      (dih_kinds (dih_of g) x.body);
  rows = λ runs at. of_kind is_lqh_kind is_node_kind lqh_is_node (lqh_table (lqh_of g) x.body).effects.sends
      (lqh_kinds (lqh_of g) x.body);
})

-- so of what no node sends none is sent by a node's host
pub node_since : (start : Start) (test : Place → Body → Bool)
    → ((to : Place) (body : Body) → is_node_kind body ≡ true → test to body ≡ false)
    → (h : ℕ) (newer log : List HostStep)
    → sent_since start test (suc h) newer log ≡ 0
node_since start test fails h [] log = refl
node_since start test fails h (e ∷ newer) log =
    let here = host_sends_node (after start (suc h) (newer ++ log)) e.step.taken
    (node_runs_none start h (newer ++ log)) in
    omega (
      arith,
      node_since start test fails h newer log,
      none_of is_node_kind test fails (step_after start (suc h) (newer ++ log) e).effects.sends here,
    )

no_push_node : (tx : TxId) (to : Place) (body : Body) → is_node_kind body ≡ true → is_push_to tx to body ≡ false
no_push_node tx to (Client (TcKeyReq one op)) e = cc
no_push_node tx to (Client (TcRollbackReq one)) e = cc
no_push_node tx to body e = second_fails (is_tc to.block) (plain body e)
  where
    plain : (b : Body) → is_node_kind b ≡ true → push_of tx b ≡ false
    plain (Client (TcKeyReq one op)) k = cc
    plain (Client (TcRollbackReq one)) k = cc
    plain _ k = refl

pub node_pushes : (start : Start) (tx : TxId) (h : ℕ) (newer log : List HostStep)
    → sent_since start (is_push_to tx) (suc h) newer log ≡ 0
node_pushes start tx h newer log = node_since start (is_push_to tx) (no_push_node tx) h newer log

module _ (tx : TxId) where
  no_push_news : (to : Place) (body : Body) → is_news_kind body ≡ true → is_push_to tx to body ≡ false
  no_push_news to body e = second_fails (is_tc to.block) (plain body e)
    where
      plain : (b : Body) → is_news_kind b ≡ true → push_of tx b ≡ false
      plain (Client (TcKeyReq one op)) k = cc
      plain (Client (TcRollbackReq one)) k = cc
      plain _ k = refl

  -- no transaction begins after the step, and it sends neither an operation nor the wish for an abort
  pub record KeepsCalm (opened : List OpenTransaction) (sends : List Outgoing) : Type 0 where
    pub calm : NoneBegins opened
    pub pushes : sends_of (is_push_to tx) sends ≡ 0

  module _ (s : ApiState) (body : Body) (calm : NoneBegins s.opened) where
    pub change_calm : (step : Step ApiState) → ApiChange s body step → KeepsCalm step.state.opened step.effects.sends
    change_calm step (rests is adds kind) =
        record {
          calm = subst NoneBegins (sym is) calm;
          pushes =
              none_of is_news_kind (is_push_to tx) no_push_news step.effects.sends kind;
        }
    change_calm step (waits one ahead at about is replies sends) = record {
      calm = subst NoneBegins (sym is)
          (each_changed (λ (t : OpenTransaction). is_beginning t.doing
          ≡ false) at.front at.t _ at.back s.opened at.is calm (λ before. before));
      pushes = ap (sends_of (is_push_to tx)) sends;
    }
    change_calm step (answers one answer called at about passes does named is replies sends) = record {
      calm = subst NoneBegins (sym is)
          (each_changed (λ (t : OpenTransaction). is_beginning t.doing
          ≡ false) at.front at.t _ at.back s.opened at.is calm (λ before. refl));
      pushes = ap (sends_of (is_push_to tx)) sends;
    }
    change_calm step (commits one answer at about passes does named is replies sends) = record {
      calm = subst NoneBegins (sym is)
          (each_changed (λ (t : OpenTransaction). is_beginning t.doing
          ≡ false) at.front at.t _ at.back s.opened at.is calm (λ before. refl));
      pushes = ap (sends_of (is_push_to tx)) sends;
    }
    change_calm step (ends one end at about passes is replies marks sends) = record {
      calm = subst NoneBegins (sym is)
          (each_less (λ (t : OpenTransaction). is_beginning t.doing ≡ false) at.front at.t at.back s.opened at.is calm);
      pushes = none_of is_news_kind (is_push_to tx) no_push_news step.effects.sends sends;
    }
    change_calm step (starts called one at u about passes is goes) =
        absurd (let off : false ≡ true =
        sym (each_at (λ (t : OpenTransaction). is_beginning t.doing
        ≡ false) at.front at.t at.back s.opened at.is calm)
        ∙ left_of (is_beginning at.t.doing) (same_name at.t.name called) (left_of (begins called at.t) _ passes) in cc)
    change_calm step (refuses called at about passes is replies sends) =
        absurd (let off : false ≡ true =
        sym (each_at (λ (t : OpenTransaction). is_beginning t.doing
        ≡ false) at.front at.t at.back s.opened at.is calm)
        ∙ left_of (is_beginning at.t.doing) (same_name at.t.name called) passes in cc)

  host_calm : (g : host.Host) (x : Signal) → has_api g ≡ true → is_request x.body ≡ false → NoneBegins (opened_in g)
      → KeepsCalm (opened_in (row g x).state) (row g x).effects.sends
  host_calm g x has plain calm =
      api_host (λ (step : Step ApiState). KeepsCalm step.state.opened step.effects.sends) g x has
      (λ at. change_calm (api_of g) x.body calm (api_row (api_of g) x) (api_changes (api_of g) x.body plain))
      (λ off. record { calm = calm; pushes = refl })

  -- along steps of the shell's host that aren't requests
  pub calm_since : (start : Start) (later log : List HostStep)
      → Each (λ (e : HostStep). is_request e.step.taken.body ≡ false) later → NoneBegins (opened_in (after start 0 log))
      → NoneBegins (opened_in (after start 0 (later ++ log))) × (sent_since start (is_push_to tx) 0 later log ≡ 0)
  calm_since start [] log plain calm = (calm, refl)
  calm_since start (e ∷ later) log plain calm = next (calm_since start later log plain.1 calm)
    where
      next : NoneBegins (opened_in (after start 0 (later ++ log))) × (sent_since start (is_push_to tx) 0 later log ≡ 0)
          → NoneBegins (opened_in (after start 0 (e ∷ (later ++ log))))
          × (sent_since start (is_push_to tx) 0 (e ∷ later) log ≡ 0)
      next before =
          let kept = host_calm (after start 0 (later ++ log)) e.step.taken
          (api_runs start (later ++ log)) plain.0 before.0 in
          (kept.calm, omega (arith, kept.pushes, before.1))
