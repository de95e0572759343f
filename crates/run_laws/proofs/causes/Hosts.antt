-- What a step of a host does to one transaction as to its epoch.
use Rattle.std.proofs.Common.{◌≡◌, ◌≤◌, List, [], true, false, refl, sym, ap, ◌∙◌, subst, arith}
use Rattle.std.specs.Prelude.{Some}
use Rattle.run_theory.specs.Lists.{Each}
use Rattle.run_theory.proofs.Pasts.{each_map}
use Rattle.sig_core.specs.declared.member.TxId.{TxId}
use Rattle.sig_core.specs.declared.op.Answer.{Answer}
use Rattle.sig_core.specs.declared.op.Op.{Op}
use Rattle.sig_core.specs.declared.outs.Outgoing.{Outgoing}
use Rattle.sig_core.specs.declared.signal.Body.{Body}
use Rattle.sig_core.specs.declared.signal.Body.TheVariants.{Epoch}
use Rattle.sig_core.specs.declared.signal.epoch.EpochSignal.TheVariants.{DiVerifyReq, DiVerifyConf, DiVerifyEnd}
use Rattle.sig_core.specs.declared.signal.Signal.{Signal}
use Rattle.sig_core.specs.Same.{same_tx}
use Rattle.sig_core.specs.Step.{Effects, Step, nothing}
use Rattle.api_block.specs.Api.{api_table}
use Rattle.api_block.specs.State.{ApiState}
use Rattle.lqh_block.specs.Lqh.{lqh_table}
use Rattle.lqh_block.specs.State.{LqhState}
use Rattle.tc_block.specs.declared.transaction.Transaction.{Transaction}
use Rattle.tc_block.specs.Operate.{fresh}
use Rattle.tc_block.specs.State.{TcState}
use Rattle.tc_block.specs.Tc.{next_tx, tc_row}
use Rattle.tc_block.specs.Turn.{Turn}
use Rattle.node_core.specs.declared.host.Host.{Host}
use Rattle.node_core.proofs.HostCases.{BlockCase, IsTcStep, api_takes, block_case, dih_takes, none_takes, rows_take}
use Rattle.node_core.proofs.HostCases.{tc_takes}
use Rattle.node_core.specs.Blocks.{api_of, dih_of, has_tc, lqh_of, tc_of}
use Rattle.node_core.specs.Dih.{DihState, dih_table}
use Rattle.node_core.specs.Row.{row}
use Rattle.node_core.proofs.DihForms.{dih_forms}
use Rattle.host_laws.specs.Ways.{tc_sends}
use Rattle.host_laws.proofs.rows.Sends.{lqh_kinds}
use Rattle.host_laws.proofs.hosts.SendKinds.{each_of, is_lqh_kind}
use Rattle.host_laws.proofs.api.Moves.{is_api_kind}
use Rattle.run_theory.specs.Counts.{one_if}
use Rattle.host_laws.specs.Live.{of_live}
use Rattle.run_laws.specs.Live.{of_host}
use Rattle.run_laws.proofs.hosts.HomeSteps.{IsHome, IsUnborn}
use Rattle.run_laws.proofs.hosts.TxSteps.{next_number, number_rises}
use Rattle.run_laws.proofs.causes.Turns.{AreMute, AskTurn, ask, beside_mute, is_ask, is_mute, mute_none, others_mute}
use Rattle.run_laws.proofs.causes.Turns.{turn_asks, unasked_none}
use Rattle.run_laws.proofs.circle.Turns.{GoesOn, turn_going}
use Rattle.tc_block.proofs.TurnRows.{turn_for}
use Rattle.host_laws.proofs.coordinator.Steps.{left_of_turn}
use Rattle.run_laws.proofs.hosts.TxTurns.{TcTurn, tc_turn}
use Rattle.run_laws.proofs.hosts.TxTurns as turn
use Rattle.run_laws.proofs.hosts.TcSaid.{tc_speaks}
use Rattle.run_laws.proofs.ways.Passed.{api_each}
use Rattle.run_laws.proofs.transit.Weighing.{in_sends, none_weighs}

module _ (tx : TxId) where
  -- an epoch is asked for with these operations, if for this transaction
  abbrev pub OpsOf : List (Op × Answer) → Body → Type 0
  OpsOf ops (Epoch (DiVerifyReq other its)) = same_tx other tx ≡ true → its ≡ ops
  OpsOf ops body = Unit {0}

  pub zero_ops : (ops : List (Op × Answer)) (body : Body) → one_if (is_ask tx body) ≡ 0 → OpsOf ops body
  zero_ops ops (Epoch (DiVerifyReq other its)) none = λ on. absurd (omega (arith, none, ap one_if on))
  zero_ops ops _ none = tt

  pub none_ops : (ops : List (Op × Answer)) (sends : List Outgoing) → in_sends (ask tx) sends ≡ 0
      → Each (λ (o : Outgoing). OpsOf ops o.body) sends
  none_ops ops sends none =
      each_map (λ (o : Outgoing). ask tx o.to o.body ≡ 0) (λ (o : Outgoing). OpsOf ops o.body) sends
      (λ o is. zero_ops ops o.body is) (none_weighs (λ (o : Outgoing). ask tx o.to o.body) sends none)

  -- signals that ask for no epoch, and give one to the transaction at most where one was asked for
  pub record PassesOn (body : Body) (sends : List Outgoing) : Type 0 where
    pub few : in_sends (ask tx) sends ≤ one_if (is_ask tx body)
    pub ops : (ops : List (Op × Answer)) → Each (λ (o : Outgoing). OpsOf ops o.body) sends

  none_pass : (body : Body) (sends : List Outgoing) → in_sends (ask tx) sends ≡ 0 → PassesOn body sends
  none_pass body sends none = record { few = omega (arith, none); ops = λ ops. none_ops ops sends none }

  mute_pass : (body : Body) (sends : List Outgoing) → AreMute sends → PassesOn body sends
  mute_pass body sends mute = none_pass body sends (mute_none tx sends mute)

  api_pass : (s : ApiState) (body : Body) → PassesOn body (api_table s body).effects.sends
  api_pass s body = mute_pass body (api_table s body).effects.sends (api_each (λ (o : Outgoing). is_mute o.body ≡ true)
      (λ o is. plain o.body is) (λ name node. refl) s body)
    where
      plain : (b : Body) → is_api_kind b ≡ true → is_mute b ≡ true
      plain (Epoch (DiVerifyReq other ops)) is = absurd cc
      plain (Epoch (DiVerifyConf other epoch)) is = absurd cc
      plain _ is = refl

  lqh_pass : (s : LqhState) (body : Body) → PassesOn body (lqh_table s body).effects.sends
  lqh_pass s body = mute_pass body (lqh_table s body).effects.sends
      (each_of is_lqh_kind (λ (o : Outgoing). is_mute o.body ≡ true) (λ o is. plain o.body is)
      (lqh_table s body).effects.sends (lqh_kinds s body))
    where
      plain : (b : Body) → is_lqh_kind b ≡ true → is_mute b ≡ true
      plain (Epoch (DiVerifyReq other ops)) is = absurd cc
      plain (Epoch (DiVerifyConf other epoch)) is = absurd cc
      plain _ is = refl

  dih_pass : (s : DihState) (body : Body) → PassesOn body (dih_table s body).effects.sends
  dih_pass s =
      dih_forms (λ body step. PassesOn body step.effects.sends) s (record {
        decides = λ one ops low. record { few = omega arith; ops = λ other. (tt, tt) };
        is_full = λ one ops high. none_pass (Epoch (DiVerifyReq one ops)) [] refl;
        ends = λ one at there. none_pass (Epoch (DiVerifyEnd one)) [] refl;
        misses = λ one none. none_pass (Epoch (DiVerifyEnd one)) [] refl;
        rests = λ body off. none_pass body [] refl;
      })

  -- a step leaves the transaction as it is
  pub record Leaves (s : Host) (body : Body) (after : Host) (sends : List Outgoing) : Type 0 where
    pub passes : PassesOn body sends
    pub live : of_host tx after ≡ of_host tx s
    pub unborn : IsUnborn tx after → IsUnborn tx s

  -- or gives it a turn, or begins it
  pub data HostAsks (s : Host) (x : Signal) (after : Host) (sends : List Outgoing) : Type 0 where
    leaves : Leaves s x.body after sends → HostAsks s x after sends
    turned : has_tc s ≡ true → (t : Transaction) (turn : Turn) → of_host tx s ≡ Some t
        → of_host tx after ≡ left_of_turn turn
        → sends ≡ turn.step.effects.sends
        → tc_sends s x ≡ turn.step.effects.sends → (IsUnborn tx after → IsUnborn tx s) → AskTurn tx x.body t turn
        → GoesOn tx x.body t turn → HostAsks s x after sends
    begun : has_tc s ≡ true → next_tx (tc_of s) ≡ tx → of_host tx after ≡ Some fresh → in_sends (ask tx) sends ≡ 0
        → HostAsks s x after sends

  module _ (s : Host) (x : Signal) where
    -- a step of another block leaves it
    other_leaves : (t : Step Host) → tc_of t.state ≡ tc_of s → (effects : Effects) → t.effects ≡ effects
        → PassesOn x.body effects.sends
        → HostAsks s x t.state t.effects.sends
    other_leaves t same effects is passes = leaves (record {
      passes = subst (λ (f : Effects). PassesOn x.body f.sends) (sym is) passes;
      live = ap (λ (c : TcState). of_live tx c.live) same;
      unborn = λ low. omega (arith, low, ap (λ (c : TcState). c.next_seq) same);
    })

    abbrev TurnAsks : Step TcState → Type 0
    TurnAsks = TcTurn (λ (o : Outgoing). is_ask tx o.body ≡ false) tx (tc_of s) x.body

    tc_step : (t : Step Host) → IsTcStep s x t → next_number s ≤ next_number t.state → TurnAsks (tc_row (tc_of s) x)
        → HostAsks s x t.state t.effects.sends
    tc_step t step rises = by
      where
        now : of_host tx t.state ≡ of_live tx (tc_row (tc_of s) x).state.live
        now = ap (λ (c : TcState). of_live tx c.live) step.state

        sent : t.effects.sends ≡ (tc_row (tc_of s) x).effects.sends
        sent = ap (λ (f : Effects). f.sends) step.effects

        none : Each (λ (o : Outgoing). is_ask tx o.body ≡ false) (tc_row (tc_of s) x).effects.sends
            → in_sends (ask tx) t.effects.sends ≡ 0
        none unasked = ap (in_sends (ask tx)) sent ∙ unasked_none tx (tc_row (tc_of s) x).effects.sends unasked

        unborn : IsUnborn tx t.state → IsUnborn tx s
        unborn low = omega (arith, low, rises)

        by : TurnAsks (tc_row (tc_of s) x) → HostAsks s x t.state t.effects.sends
        by (turn.idle live unasked deaf) =
            leaves (record {
              passes = none_pass x.body t.effects.sends (none unasked);
              live =
                  now ∙ live;
              unborn = unborn;
            })
        by (turn.turns u was its told is) =
            turned step.runs u (turn_for (tc_of s).node (tc_of s).layout tx x.body u) was (now ∙ is) (sent ∙ told)
            (tc_speaks s x step.runs step.at ∙ told) unborn (turn_asks tx (tc_of s).node (tc_of s).layout u x.body its)
            (turn_going tx u (tc_of s).node (tc_of s).layout x.body its)
        by (turn.begins next is unasked off) = begun step.runs next (now ∙ is) (none unasked)

    asks_by : (t : Step Host) → IsHome tx (tc_of s) → next_number s ≤ next_number t.state → BlockCase s x t
        → HostAsks s x t.state t.effects.sends
    asks_by t home rises (api_takes step) =
        other_leaves t step.tc (api_table (api_of s) x.body).effects step.effects (api_pass (api_of s) x.body)
    asks_by t home rises (tc_takes step) =
        tc_step t step rises
        (tc_turn (λ (o : Outgoing). is_ask tx o.body ≡ false) tx (tc_of s) (beside_mute tx (tc_of s))
        home.own home.once x.body
        (others_mute tx (tc_of s) x.body))
    asks_by t home rises (dih_takes step) =
        other_leaves t step.tc (dih_table (dih_of s) x.body).effects step.effects (dih_pass (dih_of s) x.body)
    asks_by t home rises (rows_take step) =
        other_leaves t step.tc (lqh_table (lqh_of s) x.body).effects step.effects (lqh_pass (lqh_of s) x.body)
    asks_by t home rises (none_takes step) =
        other_leaves t (ap (λ (u : Step Host). tc_of u.state) step.is) nothing
        (ap (λ (u : Step Host). u.effects) step.is)
        (none_pass x.body [] refl)

    pub host_asks : IsHome tx (tc_of s) → HostAsks s x (row s x).state (row s x).effects.sends
    host_asks home = asks_by (row s x) home (number_rises s x) (block_case s x)
