-- At quiet no transaction waits for its epoch.
use Rattle.std.proofs.Common.{◌≡◌, ◌≢◌, ℕ, ◌+◌, ◌≤◌, ◌<◌, List, [], length, Bool, true, false, refl, ap, sym, ◌∙◌}
use Rattle.std.proofs.Common.{subst, arith}
use Rattle.std.specs.Prelude.{◌-◌, ◌&&◌, not, if◌then◌else◌, None, Some}
use Rattle.std.proofs.lemmas.Bool.{eq-eqb, false≢true}
use Rattle.node_core.specs.Blocks.{tc_of}
use Rattle.node_core.specs.declared.host.Host.{Host}
use Rattle.run_theory.specs.Links.{is_from}
use Rattle.run_theory.specs.Runs.{log_of}
use Rattle.sig_core.specs.declared.member.TxId.{TxId}
use Rattle.sig_core.specs.declared.outcome.AbortCause.{AbortCause}
use Rattle.sig_core.specs.declared.outs.Outgoing.{Outgoing}
use Rattle.sig_core.specs.declared.place.Place.{Place}
use Rattle.sig_core.specs.declared.signal.Body.{Body}
use Rattle.sig_core.specs.declared.signal.Body.TheVariants.{Epoch}
use Rattle.sig_core.specs.declared.signal.epoch.EpochSignal.TheVariants.{DiVerifyReq, DiVerifyConf}
use Rattle.sig_core.specs.Place.{client, coordinator_of, epochs}
use Rattle.sig_core.specs.Same.{same_tx}
use Rattle.tc_block.specs.declared.phase.Phase.{Phase}
use Rattle.tc_block.specs.declared.phase.Phase.TheVariants.{Open, Verifying, Committing, Completing, Aborting}
use Rattle.tc_block.specs.declared.transaction.Transaction.{Transaction}
use Rattle.tc_block.specs.Abort.{aborts_awaited, is_verifying}
use Rattle.tc_block.specs.Complete.{written_count}
use Rattle.tc_block.specs.Operate.{fresh}
use Rattle.tc_block.specs.State.{TcState}
use Rattle.tc_block.specs.Turn.{Turn}
use Rattle.world_core.proofs.HostNumbers.{host_below, tc_runs}
use Rattle.world_core.specs.Hosts.{home, first_hosts}
use Rattle.world_core.specs.Machine.{after, machine, step_after}
use Rattle.world_core.specs.Start.{Start}
use Rattle.world_core.specs.Steps.{HostStep}
use Rattle.sig_core.proofs.Keys.{same_tx-self}
use Rattle.run_theory.proofs.Tally.{none_if}
use Rattle.run_theory.specs.Counts.{one_if}
use Rattle.run_laws.proofs.hosts.AlongSteps.{Goes, along, at_home, at_tc, few_taken, first_none, is_dih, live_tx}
use Rattle.run_laws.proofs.hosts.AlongSteps.{no_transaction, the_transaction, turn_at, tx_at, goes_cases}
use Rattle.answer_laws.proofs.EpochCounts.{AreFew, is_epochless}
use Rattle.answer_laws.proofs.EpochFlow.{at_place, is_conf, is_req}
use Rattle.answer_laws.proofs.EpochGiven.{DihIs, all_own, dih_is, here, own_sent, own_taken, sent_counts}
use Rattle.answer_laws.proofs.EpochGiven.{tc_no_rows}
use Rattle.answer_laws.proofs.EpochLives.{TurnCounts, asking, ending, gone, is_counted, turn_counts, unchanged}
use Rattle.host_laws.proofs.hosts.BlocksAlong.{IsHome, at_own_node}
use Rattle.host_laws.proofs.coordinator.HostTurns.{HostTurn, aside, in_rows, is_aside, starting, turning}
use Rattle.host_laws.proofs.hosts.LinkCounts.{sent_signals, signals, taken_signals}
use Rattle.host_laws.proofs.hosts.SendKinds.{are_of, none_of}
use Rattle.host_laws.proofs.coordinator.Moves.{same_tx-is}
use Rattle.host_laws.proofs.coordinator.Steps.{live_early}
use Rattle.tc_block.proofs.EachTurn.{IsMissed}
use Rattle.tc_block.proofs.TurnRows.{tx_in, is_turn}
use Rattle.host_laws.proofs.coordinator.Turns.{TurnMove, abort_ends, aborted, aborts, all_completed, answers, asks}
use Rattle.host_laws.proofs.coordinator.Turns.{commits, committed, completed, completes, decides, ends, entered_phase}
use Rattle.host_laws.proofs.coordinator.Turns.{gives_up, goes_on, keeps, late, over_not}
use Rattle.host_laws.proofs.api.Wishes.{is_tc, second_fails, sends_of}
use Rattle.host_laws.proofs.hosts.StartedHosts.{one_part}
use Rattle.answer_laws.specs.Answered.{AreQuiet, NoEpochIsAwaited}
use Rattle.tc_block.specs.Phases.{is_aborting}

abbrev conf_body : TxId → Body → Bool
conf_body tx (Epoch (DiVerifyConf other epoch)) = same_tx other tx
conf_body tx _ = false

conf_at : (tx : TxId) (to : Place) (body : Body) → is_conf tx to body ≡ true
    → (is_tc to.block ≡ true) × (conf_body tx body ≡ true)
conf_at tx to (Epoch (DiVerifyConf other epoch)) e = by (is_tc to.block) e
  where
    by : (b : Bool) → (b && same_tx other tx) ≡ true → (b ≡ true) × (same_tx other tx ≡ true)
    by true q = (refl, q)
    by false q = absurd (false≢true q)
conf_at tx to _ e = cc

conf_turn : (tx : TxId) (body : Body) → conf_body tx body ≡ true → (is_turn body ≡ true) × (tx_in body ≡ tx)
conf_turn tx (Epoch (DiVerifyConf other epoch)) e = (refl, same_tx-is other tx e)
conf_turn tx _ e = cc

-- what a turn after which the transaction isn't over makes of its phase, and sends
pub data PhaseMove (tx : TxId) (at : Place → Bool) (t : Transaction) (body : Body) (u : Transaction)
    (sends : List Outgoing) : Type 0 where
  rests : u.phase ≡ t.phase → (t.phase ≡ Verifying → conf_body tx body ≡ false)
      → sends_of (at_place at (is_req tx)) sends ≡ 0 → PhaseMove tx at t body u sends
  verifies : t.phase ≡ Open → u.phase ≡ Verifying → conf_body tx body ≡ false
      → 1 ≤ sends_of (at_place at (is_req tx)) sends → PhaseMove tx at t body u sends
  further : (u.phase ≡ Open → ⊥) → (u.phase ≡ Verifying → ⊥) → PhaseMove tx at t body u sends

req_plain : (at : Place → Bool) (tx : TxId) (sends : List Outgoing) → are_of is_epochless sends ≡ true
    → sends_of (at_place at (is_req tx)) sends ≡ 0
req_plain at tx sends kind =
    none_of is_epochless (at_place at (is_req tx)) (λ to body k. second_fails (at to) (fails to body k)) sends kind
  where
    fails : (to : Place) (body : Body) → is_epochless body ≡ true → is_req tx to body ≡ false
    fails to (Epoch (DiVerifyReq other ops)) e = absurd (false≢true e)
    fails to _ e = refl

missed_conf : (tx : TxId) (t : Transaction) (body : Body) → IsMissed t body → t.phase ≡ Verifying
    → conf_body tx body ≡ false
missed_conf tx t (Epoch (DiVerifyConf other epoch)) missed p = absurd (false≢true (sym missed ∙ ap is_verifying p))
missed_conf tx t _ missed p = refl

module _ (s : TcState) (at : Place → Bool) (own : at (epochs s.node) ≡ true) (tx : TxId) (t : Transaction) (body : Body)
    (turn : Turn) where
  phase_is : (other : Turn) → turn ≡ other → turn.step.state.phase ≡ other.step.state.phase
  phase_is other is = ap (λ (x : Turn). x.step.state.phase) is

  leaves : (other : Turn) (phase : Phase) → turn ≡ other → other.step.state.phase ≡ phase → (phase ≡ Open → ⊥)
      → (phase ≡ Verifying → ⊥) → PhaseMove tx at t body turn.step.state turn.step.effects.sends
  leaves other phase is p a b =
      further (λ e. a (sym (phase_is other is ∙ p) ∙ e)) (λ e. b (sym (phase_is other is ∙ p) ∙ e))

  aborting_no : (why : AbortCause) (v : Bool) (k : ℕ)
      → (Aborting why v k ≡ Open → ⊥) × (Aborting why v k ≡ Verifying → ⊥)
  aborting_no why v k = (λ e. cc, λ e. cc)

  committing_no : (epoch k : ℕ) → (Committing epoch k ≡ Open → ⊥) × (Committing epoch k ≡ Verifying → ⊥)
  committing_no epoch k = (λ e. cc, λ e. cc)

  completing_no : (epoch k : ℕ) → (Completing epoch k ≡ Open → ⊥) × (Completing epoch k ≡ Verifying → ⊥)
  completing_no epoch k = (λ e. cc, λ e. cc)

  rest_phase : (other : Turn) → turn ≡ other → other.step.state.phase ≡ t.phase
      → (t.phase ≡ Verifying → conf_body tx body ≡ false) → TurnCounts s.node tx t turn → turn.over ≡ false
      → is_counted turn.step.state.phase ≡ is_counted t.phase
      → PhaseMove tx at t body turn.step.state turn.step.effects.sends
  rest_phase other is p c (unchanged over keeps_it kind) e k =
      rests (phase_is other is ∙ p) c (req_plain at tx turn.step.effects.sends kind)
  rest_phase other is p c (asking ops over none some told) e k = absurd (false≢true (sym none ∙ (sym k ∙ some)))
  rest_phase other is p c (ending over some before behind kind q told) e k = absurd (false≢true (sym e ∙ over))
  rest_phase other is p c (gone over none kind) e k = absurd (false≢true (sym e ∙ over))

  pub phase_move : TurnMove s tx t body turn → turn.over ≡ false
      → PhaseMove tx at t body turn.step.state turn.step.effects.sends
  phase_move move e = go move
    where
      counts : TurnCounts s.node tx t turn
      counts = turn_counts s tx t body turn move

      stays_phase : (other : Turn) → turn ≡ other → other.step.state.phase ≡ t.phase
          → (t.phase ≡ Verifying → conf_body tx body ≡ false)
          → PhaseMove tx at t body turn.step.state turn.step.effects.sends
      stays_phase other is p c = rest_phase other is p c counts e (ap is_counted (phase_is other is ∙ p))

      go : TurnMove s tx t body turn → PhaseMove tx at t body turn.step.state turn.step.effects.sends
      go (keeps sends is kind missed) = stays_phase _ is refl (missed_conf tx t body missed)
      go (goes_on place about low is) = stays_phase _ is refl (λ p. ap (conf_body tx) about)
      go (asks op about p q fit is) = stays_phase _ is refl (λ p. ap (conf_body tx) about)
      go (answers key answer asked about p q is) = stays_phase _ is refl (λ p. ap (conf_body tx) about)
      go (late key asked about p q is) = stays_phase _ is refl (λ r. absurd (false≢true (sym (ap is_aborting r) ∙ p)))
      go (decides about p q is) =
          verifies p (phase_is _ is) (ap (conf_body tx) about)
          (omega (
            arith,
            ap (λ (x : Turn). sends_of (at_place at (is_req tx)) x.step.effects.sends) is,
            ap one_if
                (ap (λ b. b && (true && same_tx tx tx)) own ∙ same_tx-self tx),
          ))
      go (aborts w why gives some is) = leaves _ (Aborting why (is_verifying w.phase) (aborts_awaited s.layout w)) is
          (entered_phase s.node s.layout tx w _) (aborting_no why _ _).0 (aborting_no why _ _).1
      go (gives_up w why gives is none) = over_not turn _ is refl e
      go (aborted key why v k about p low is) =
          leaves _ (Aborting why v (k - 1)) is refl (aborting_no why _ _).0 (aborting_no why _ _).1
      go (abort_ends key why v k about p low is) = over_not turn _ is refl e
      go (commits epoch about p is) = leaves _ (Committing epoch (length t.touched)) is
          (entered_phase s.node s.layout tx t _) (committing_no _ _).0 (committing_no _ _).1
      go (committed epoch k p is) =
          leaves _ (Committing epoch (k - 1)) is refl (committing_no _ _).0 (committing_no _ _).1
      go (completes epoch p is) = leaves _ (Completing epoch (written_count t.touched)) is
          (entered_phase s.node s.layout tx t _) (completing_no _ _).0 (completing_no _ _).1
      go (ends epoch p is) = over_not turn _ is refl e
      go (completed epoch k p is) =
          leaves _ (Completing epoch (k - 1)) is refl (completing_no _ _).0 (completing_no _ _).1
      go (all_completed epoch k p is) = over_not turn _ is refl e

-- what isn't said of the transaction doesn't ask for its epoch
aside_req : (at : Place → Bool) (tx : TxId) (sends : List Outgoing) → are_of (is_aside tx) sends ≡ true
    → sends_of (at_place at (is_req tx)) sends ≡ 0
aside_req at tx sends kind =
    none_of (is_aside tx) (at_place at (is_req tx)) (λ to body k. second_fails (at to) (fails to body k)) sends kind
  where
    fails : (to : Place) (body : Body) → is_aside tx body ≡ true → is_req tx to body ≡ false
    fails to (Epoch (DiVerifyReq other ops)) e = by (same_tx other tx) e
      where
        by : (b : Bool) → not b ≡ true → (is_dih to.block && b) ≡ false
        by true q = absurd (false≢true q)
        by false q = second_fails (is_dih to.block) refl
    fails to _ e = refl

module _ (start : Start) (tx : TxId) (some_node : 1 ≤ tx.tc) (few_nodes : tx.tc ≤ start.shape.nodes) where
  -- its coordinator's host, the epochs that were asked for there, and those that were given
  abbrev at : ℕ
  at = home start tx

  abbrev reqs : List HostStep → ℕ
  reqs log = signals (is_req tx) (own_sent start tx.tc log)

  abbrev confs : List HostStep → ℕ
  confs log = signals (is_conf tx) (own_taken start tx.tc log)

  low : at < first_hosts start
  low = host_below start (coordinator_of tx) some_node few_nodes

  -- it has asked for an epoch where it isn't open, and wasn't given one where it verifies
  record IsAsked (logs : ℕ → List HostStep) : Type 0 where
    opened : (t : Transaction) → tx_at tx (after start at (logs at)) ≡ Some t → t.phase ≡ Open → reqs (logs at) ≡ 0
    verifying : (t : Transaction) → tx_at tx (after start at (logs at)) ≡ Some t → t.phase ≡ Verifying
        → (1 ≤ reqs (logs at)) × (confs (logs at) ≡ 0)
    unborn : (tc_of (after start at (logs at))).next_seq ≤ tx.seq → reqs (logs at) ≡ 0

  own_step : (logs now : ℕ → List HostStep) (e : HostStep) → Goes start logs now at e → IsAsked logs → IsAsked now
  own_step logs now e g k = by (turn_at start tx at (logs at) e)
    where
      s : Host
      s = after start at (logs at)

      own_sends : List Outgoing
      own_sends = (step_after start at (logs at) e).effects.sends

      sends_req : ℕ
      sends_req = sends_of (at_place (here start tx.tc) (is_req tx)) own_sends

      now_at : (t : Transaction) → tx_at tx (after start at (now at)) ≡ Some t
          → tx_at tx (step_after start at (logs at) e).state ≡ Some t
      now_at t e = ap (λ log. tx_at tx (after start at log)) (sym g.own) ∙ e

      now_seq : (tc_of (after start at (now at))).next_seq ≡ (tc_of (step_after start at (logs at) e).state).next_seq
      now_seq = ap (λ log. (tc_of (after start at log)).next_seq) g.own

      reqs_now : reqs (now at) ≡ sends_req + reqs (logs at)
      reqs_now = ap reqs g.own ∙ sent_signals start (is_req tx) at at e (logs at)

      confs_same : is_conf tx e.step.taken.to e.step.taken.body ≡ false → confs (now at) ≡ confs (logs at)
      confs_same off = omega (
        arith,
        ap confs g.own,
        taken_signals start (is_conf tx) at e (logs at),
        ap one_if
            (second_fails (is_from (machine start) at e) off),
      )

      -- nothing was given where nothing was asked for
      none_given : reqs (logs at) ≡ 0 → confs (logs at) ≡ 0
      none_given none =
          omega (
            arith,
            none,
            few_taken start logs g.before (is_conf tx) at at,
            (dih_is start tx.tc some_node few_nodes (logs at)
                (all_own start tx.tc some_node few_nodes logs g.was_within g.before)).few tx,
            few_taken start logs g.before (is_req tx) at at,
          )

      conf_off : (b : Bool) → is_conf tx e.step.taken.to e.step.taken.body ≡ b
          → (is_tc e.step.taken.to.block ≡ true → conf_body tx e.step.taken.body ≡ true → ⊥)
          → is_conf tx e.step.taken.to e.step.taken.body ≡ false
      conf_off false q why = q
      conf_off true q why = let c = conf_at tx e.step.taken.to e.step.taken.body q in absurd (why c.0 c.1)

      by : HostTurn tx s e.step.taken (step_after start at (logs at) e) → IsAsked now
      by (in_rows step) = absurd (tc_no_rows s (tc_runs start tx.tc (logs at) some_node few_nodes) step.runs)
      by (aside step) = record {
        opened = λ t there p. omega (arith, reqs_now, none, k.opened t (sym step.same ∙ now_at t there) p);
        verifying = λ t there p.
            let was = sym step.same ∙ now_at t there in
            let v = k.verifying t was p in (
              omega (arith, reqs_now, v.0),
              confs_same
                  (conf_off (is_conf tx e.step.taken.to e.step.taken.body) refl
                  (λ tc c. let turn = conf_turn tx e.step.taken.body c in
                  no_transaction t (sym (step.absent tc turn.0 turn.1) ∙ was))) ∙ v.1,
            );
        unborn = λ early. omega (arith, reqs_now, none, k.unborn (omega (arith, step.grows, early, now_seq)));
      }
        where
          none : sends_req ≡ 0
          none = aside_req (here start tx.tc) tx own_sends step.kind
      by (starting step) = record {
        opened = λ t there p. omega (arith, reqs_now, none, unborn_now);
        verifying = λ t there p. absurd (open_not (ap (λ (u : Transaction). u.phase)
            (the_transaction fresh t (sym step.there ∙ now_at t there)) ∙ p));
        unborn = λ early. omega (arith, reqs_now, none, unborn_now);
      }
        where
          open_not : Open ≡ Verifying → ⊥
          open_not e = cc

          unborn_now : reqs (logs at) ≡ 0
          unborn_now = k.unborn (omega (arith, ap (λ (v : TxId). v.seq) step.one))

          none : sends_req ≡ 0
          none = ap (sends_of (at_place (here start tx.tc) (is_req tx))) step.told ∙ none_if (here start tx.tc client)
      by (turning step) = which step.turn.over refl
        where
          sends_are : sends_req ≡ sends_of (at_place (here start tx.tc) (is_req tx)) step.turn.step.effects.sends
          sends_are = ap (sends_of (at_place (here start tx.tc) (is_req tx))) step.told

          own_place : here start tx.tc (epochs (tc_of s).node) ≡ true
          own_place =
              eq-eqb _ _ (one_part start (tc_of s).node ∙ sym (at_own_node start at (logs at) low step.runs).is)

          late_unborn : (tc_of (after start at (now at))).next_seq ≤ tx.seq → reqs (now at) ≡ 0
          late_unborn early = absurd (omega (
            arith,
            early,
            now_seq,
            step.grows,
            live_early tx (tc_of s) step.was
                step.there (at_tc start tx at (logs at)).own,
          ))

          which : (b : Bool) → step.turn.over ≡ b → IsAsked now
          which true over = record {
            opened = λ u there p. no_transaction u
                (sym (step.left ∙ ap (λ b. if b then None else Some step.turn.step.state) over) ∙ now_at u there);
            verifying = λ u there p. no_transaction u
                (sym (step.left ∙ ap (λ b. if b then None else Some step.turn.step.state) over) ∙ now_at u there);
            unborn = late_unborn;
          }
          which false over = moved (phase_move (tc_of s) (here start tx.tc) own_place tx step.was e.step.taken.body
              step.turn step.move over)
            where
              u_is : (u : Transaction) → tx_at tx (after start at (now at)) ≡ Some u
                  → u.phase ≡ step.turn.step.state.phase
              u_is u there = ap (λ (v : Transaction). v.phase)
                  (sym (the_transaction step.turn.step.state u
                  (sym (step.left ∙ ap (λ b. if b then None else Some step.turn.step.state) over)
                  ∙ now_at u there)))

              moved : PhaseMove tx (here start tx.tc) step.was e.step.taken.body step.turn.step.state
                  step.turn.step.effects.sends → IsAsked now
              moved (rests same off none) = record {
                opened = λ u there p. omega (
                  arith,
                  reqs_now,
                  sends_are,
                  none,
                  k.opened step.was step.there
                      (sym same ∙ (sym (u_is u there) ∙ p)),
                );
                verifying = λ u there p.
                    let was = sym same ∙ (sym (u_is u there) ∙ p) in
                    let v = k.verifying step.was step.there was in (
                      omega (arith, reqs_now, v.0),
                      confs_same
                          (conf_off (is_conf tx e.step.taken.to e.step.taken.body) refl
                          (λ tc c. false≢true (sym (off was) ∙ c))) ∙ v.1,
                    );
                unborn = late_unborn;
              }
              moved (verifies was becomes off some) = record {
                opened = λ u there p. absurd (verifying_not (sym becomes ∙ (sym (u_is u there) ∙ p)));
                verifying = λ u there p. (
                  omega (arith, reqs_now, sends_are, some),
                  confs_same (conf_off (is_conf tx e.step.taken.to e.step.taken.body) refl
                      (λ tc c. false≢true (sym off ∙ c))) ∙ none_given (k.opened step.was step.there was),
                );
                unborn = late_unborn;
              }
                where
                  verifying_not : Verifying ≡ Open → ⊥
                  verifying_not e = cc
              moved (further a b) = record {
                opened = λ u there p. absurd (a (sym (u_is u there) ∙ p));
                verifying = λ u there p. absurd (b (sym (u_is u there) ∙ p));
                unborn = late_unborn;
              }

  step : (logs now : ℕ → List HostStep) (i : ℕ) (e : HostStep) → Goes start logs now i e → IsAsked logs → IsAsked now
  step logs now i e g k =
      goes_cases start logs now i e g at (λ own. own_step logs now e own k)
      (λ differs log_is. record {
        opened = λ t there p. ap reqs log_is
            ∙ k.opened t (ap (λ log. tx_at tx (after start at log)) (sym log_is) ∙ there) p;
        verifying = λ t there p. subst (λ log. (1 ≤ reqs log) × (confs log ≡ 0)) (sym log_is)
            (k.verifying t (ap (λ log. tx_at tx (after start at log)) (sym log_is) ∙ there) p);
        unborn = λ early. ap reqs log_is
            ∙ k.unborn (omega (arith, early, ap (λ log. (tc_of (after start at log)).next_seq) log_is));
      })

  first : IsAsked (log_of (machine start) [])
  first = record {
    opened = λ t there p. refl;
    verifying = λ t there p. no_transaction t (sym (first_none start tx at) ∙ there);
    unborn = λ early. refl;
  }

  -- at quiet
  none_verifies : (logs : ℕ → List HostStep) → AreQuiet start logs → (t : Transaction)
      → tx_at tx (after start at (logs at)) ≡ Some t → t.phase ≡ Verifying → ⊥
  none_verifies logs quiet t there p =
      omega (arith, v.0, v.1, d.gives few tx, ap (signals (is_req tx)) whole, ap (signals (is_conf tx)) whole)
    where
      v : (1 ≤ reqs (logs at)) × (confs (logs at) ≡ 0)
      v = (along start IsAsked first step logs quiet.within quiet.right).verifying t there p

      whole : own_taken start tx.tc (logs at) ≡ own_sent start tx.tc (logs at)
      whole = quiet.quiet at at low low

      d : DihIs start tx.tc some_node few_nodes (logs at)
      d = dih_is start tx.tc some_node few_nodes (logs at)
          (all_own start tx.tc some_node few_nodes logs quiet.within quiet.right)

      few : AreFew (own_taken start tx.tc (logs at))
      few = subst AreFew (sym whole) (sent_counts start tx.tc some_node few_nodes (logs at)).few

pub no_epoch : NoEpochIsAwaited
no_epoch start logs h tx t quiet low live = go t.phase refl
  where
    there : tx_at tx (after start h (logs h)) ≡ Some t
    there = live_tx start tx h (logs h) t live

    of : IsHome start tx h
    of = at_home start tx h (logs h) t low there

    go : (phase : Phase) → t.phase ≡ phase → is_verifying t.phase ≡ false
    go Verifying p =
        absurd (none_verifies start tx of.some of.low logs quiet t
        (subst (λ k. tx_at tx (after start k (logs k)) ≡ Some t) of.is there) p)
    go Open p = ap is_verifying p
    go (Committing epoch k) p = ap is_verifying p
    go (Completing epoch k) p = ap is_verifying p
    go (Aborting why v k) p = ap is_verifying p
