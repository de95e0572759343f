-- What a host sends of a kind, block by block.
use Rattle.std.proofs.Common.{◌≡◌, ℕ, Bool, true, false, List, [], ◌∷◌, ◌++◌, refl, arith}
use Rattle.std.proofs.lemmas.Bool.{or_left, or_right}
use Rattle.std.specs.Prelude.{◌||◌, Option}
use Rattle.sig_core.specs.declared.outs.Outgoing.{Outgoing}
use Rattle.sig_core.specs.declared.place.Place.{Place}
use Rattle.sig_core.specs.declared.signal.Body.{Body}
use Rattle.sig_core.specs.declared.signal.Body.TheVariants.{Client}
use Rattle.sig_core.specs.declared.signal.client.ClientSignal.TheVariants.{TcBeginReq}
use Rattle.sig_core.specs.declared.signal.Signal.{Signal}
use Rattle.sig_core.specs.Place.{coordinator}
use Rattle.api_block.specs.Api.{api_table}
use Rattle.api_block.specs.State.{ApiState}
use Rattle.node_core.proofs.HostCases.{of_effects}
use Rattle.node_core.specs.Blocks.{api_of, has_api}
use Rattle.node_core.specs.declared.host.Host.{Host}
use Rattle.node_core.specs.Row.{row}
use Rattle.world_core.proofs.HostNumbers.{api_runs}
use Rattle.world_core.specs.Machine.{after}
use Rattle.world_core.specs.Start.{Start}
use Rattle.world_core.specs.Steps.{HostStep}
use Rattle.run_theory.proofs.Tally.{tally_none}
use Rattle.host_laws.proofs.api.Moves.{is_api_kind}
use Rattle.host_laws.proofs.hosts.SendKinds.{is_dih_kind, is_lqh_kind}
use Rattle.host_laws.proofs.api.Wishes.{sends_of}
use Rattle.run_laws.proofs.ways.Passed.{api_each}
use Rattle.command_laws.proofs.hosts.HostKinds.{api_alone, api_no_rows}
use Rattle.command_laws.proofs.quiet.Since.{sent_since}

-- what the API sends, or epochs, or rows; all but the wish for a transaction
abbrev pub is_other_kind : Body → Bool
is_other_kind body = is_api_kind body || (is_dih_kind body || is_lqh_kind body)

-- no signal of the API passes the test
pub record IsNotOfApi (test : Place → Body → Bool) : Type 0 where
  pub kinds : (to : Place) (body : Body) → is_api_kind body ≡ true → test to body ≡ false
  pub begins : (name : Option ℕ) (node : ℕ) → test (coordinator node) (Client (TcBeginReq name)) ≡ false

-- nor one of epochs or of rows: only a coordinator's may
pub record IsOfTc (test : Place → Body → Bool) : Type 0 where
  pub others : (to : Place) (body : Body) → is_other_kind body ≡ true → test to body ≡ false
  pub begins : (name : Option ℕ) (node : ℕ) → test (coordinator node) (Client (TcBeginReq name)) ≡ false

module _ (test : Place → Body → Bool) where
  module _ (only : IsOfTc test) where
    pub not_of_api : IsNotOfApi test
    not_of_api = record {
      kinds = λ to body e. only.others to body (or_left (is_api_kind body) _ e);
      begins = only.begins;
    }

    pub not_of_dih : (to : Place) (body : Body) → is_dih_kind body ≡ true → test to body ≡ false
    not_of_dih to body e = only.others to body (or_right (is_api_kind body) _ (or_left (is_dih_kind body) _ e))

    pub not_of_lqh : (to : Place) (body : Body) → is_lqh_kind body ≡ true → test to body ≡ false
    not_of_lqh to body e = only.others to body (or_right (is_api_kind body) _ (or_right (is_dih_kind body) _ e))

  pub api_silent : IsNotOfApi test → (s : ApiState) (body : Body) → sends_of test (api_table s body).effects.sends ≡ 0
  api_silent fails s body =
      tally_none (λ (o : Outgoing). test o.to o.body) (api_table s body).effects.sends
      (api_each (λ (o : Outgoing). test o.to o.body ≡ false) (λ o e. fails.kinds o.to o.body e)
      (λ name node. fails.begins name node) s body)

  -- the shell's host sends what the API sends
  shell_step : IsNotOfApi test → (g : Host) (x : Signal) → has_api g ≡ true → sends_of test (row g x).effects.sends ≡ 0
  shell_step fails g x has = of_effects (λ f. sends_of test f.sends ≡ 0) g x refl (record {
    api = λ runs at. api_silent fails (api_of g) x.body;
    tc = λ runs at. absurd (api_alone g has runs);
    dih = λ runs at. absurd (api_alone g has runs);
    rows = λ runs at. absurd (api_no_rows g has runs);
  })

  pub shell_silent : IsNotOfApi test → (start : Start) (newer log : List HostStep)
      → sent_since start test 0 newer log ≡ 0
  shell_silent fails start [] log = refl
  shell_silent fails start (e ∷ newer) log =
      omega (
        arith,
        shell_silent fails start newer log,
        shell_step fails (after start 0 (newer ++ log)) e.step.taken
            (api_runs start (newer ++ log)),
      )
