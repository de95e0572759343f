-- What the shell's host alone asks of rows: no node sends a round of time, or asks for rows.
use Rattle.std.proofs.Common.{◌≡◌, ℕ, suc, Bool, true, false, List, [], ◌∷◌, ◌++◌, refl, sym, ◌∙◌, arith}
use Rattle.sig_core.specs.declared.member.TxId.{TxId}
use Rattle.sig_core.specs.declared.place.Place.{Place}
use Rattle.sig_core.specs.declared.signal.Body.{Body}
use Rattle.sig_core.specs.declared.signal.Body.TheVariants.{Client, Host}
use Rattle.sig_core.specs.declared.signal.client.ClientSignal.TheVariants.{DumpReq}
use Rattle.sig_core.specs.declared.signal.host.HostSignal.TheVariants.{Round}
use Rattle.sig_core.specs.declared.signal.Signal.{Signal}
use Rattle.lqh_block.specs.Lqh.{lqh_table}
use Rattle.node_core.proofs.HostCases.{of_effects}
use Rattle.node_core.specs.Blocks.{dih_of, has_api, lqh_of, tc_of}
use Rattle.node_core.specs.declared.host.Host as host
use Rattle.node_core.specs.Dih.{dih_table}
use Rattle.node_core.specs.Row.{row}
use Rattle.tc_block.specs.State.{TcState}
use Rattle.tc_block.specs.Tc.{tc_table}
use Rattle.world_core.specs.Machine.{after, step_after}
use Rattle.world_core.specs.Start.{Start}
use Rattle.world_core.specs.Steps.{HostStep}
use Rattle.host_laws.proofs.hosts.DihSends.{dih_kinds}
use Rattle.host_laws.proofs.rows.Sends.{lqh_kinds}
use Rattle.host_laws.proofs.hosts.SendKinds.{are_of, is_dih_kind, is_lqh_kind, is_tc_kind, none_of, of_kind}
use Rattle.host_laws.proofs.coordinator.Sends.{tc_only}
use Rattle.command_laws.proofs.hosts.HostKinds.{node_runs_none}
use Rattle.command_laws.proofs.quiet.Since.{sent_since}

-- all but that
abbrev pub is_no_ask : Body → Bool
is_no_ask (Client (DumpReq at)) = false
is_no_ask (Host Round) = false
is_no_ask _ = true

tc_asks_none : (tx : TxId) (body : Body) → is_tc_kind tx body ≡ true → is_no_ask body ≡ true
tc_asks_none tx (Client (DumpReq at)) e = cc
tc_asks_none tx (Host Round) e = cc
tc_asks_none tx _ e = refl

dih_asks_none : (body : Body) → is_dih_kind body ≡ true → is_no_ask body ≡ true
dih_asks_none (Client (DumpReq at)) e = cc
dih_asks_none (Host Round) e = cc
dih_asks_none _ e = refl

lqh_asks_none : (body : Body) → is_lqh_kind body ≡ true → is_no_ask body ≡ true
lqh_asks_none (Client (DumpReq at)) e = cc
lqh_asks_none (Host Round) e = cc
lqh_asks_none _ e = refl

tc_sends_none : (s : TcState) (body : Body) → are_of is_no_ask (tc_table s body).effects.sends ≡ true
tc_sends_none = tc_only is_no_ask tc_asks_none (λ name. refl) (λ name tx. refl)

host_asks_none : (g : host.Host) (x : Signal) → has_api g ≡ false → are_of is_no_ask (row g x).effects.sends ≡ true
host_asks_none g x none = of_effects (λ f. are_of is_no_ask f.sends ≡ true) g x refl (record {
  api = λ runs at. absurd (let both : true ≡ false = sym runs ∙ none in cc);
  tc = λ runs at. tc_sends_none (tc_of g) x.body;
  dih = λ runs at. of_kind is_dih_kind is_no_ask dih_asks_none (dih_table (dih_of g) x.body).effects.sends
      (dih_kinds (dih_of g) x.body);
  rows = λ runs at. of_kind is_lqh_kind is_no_ask lqh_asks_none (lqh_table (lqh_of g) x.body).effects.sends
      (lqh_kinds (lqh_of g) x.body);
})

-- so of what the shell's host alone asks of rows a node's host sends nothing
pub none_asked : (start : Start) (test : Place → Body → Bool)
    → ((to : Place) (body : Body) → is_no_ask body ≡ true → test to body ≡ false) → (h : ℕ) (newer log : List HostStep)
    → sent_since start test (suc h) newer log ≡ 0
none_asked start test fails h [] log = refl
none_asked start test fails h (e ∷ newer) log =
    let here = host_asks_none (after start (suc h) (newer ++ log)) e.step.taken
    (node_runs_none start h (newer ++ log)) in
    omega (
      arith,
      none_asked start test fails h newer log,
      none_of is_no_ask test fails (step_after start (suc h) (newer ++ log) e).effects.sends here,
    )
