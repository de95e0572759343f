-- No more than one request of a transaction for a key waits, or is on its way.
use Rattle.std.proofs.Common.{◌≡◌, ◌≢◌, ◌⊎◌, ℕ, zero, suc, ◌+◌, ◌≤◌, ◌<◌, List, [], ◌∷◌, Bool, true, false, refl, ap}
use Rattle.std.proofs.Common.{sym, ◌∙◌, arith, inl, inr}
use Rattle.std.specs.Prelude.{◌&&◌, not, if◌then◌else◌, None, Some}
use Rattle.std.proofs.lemmas.Bool.{false≢true}
use Rattle.std.specs.Cmp.Lexicographic.{slice_cmp}
use Rattle.std.specs.FinMap as finite
use Rattle.std.specs.Ordering.{nat_cmp}
use Rattle.frag_map.specs.Layout.{Layout}
use Rattle.sig_core.specs.Work.{work_key}
use Rattle.node_core.proofs.HostCases.{IsRowsStep, keeps_rows}
use Rattle.node_core.specs.Blocks.{lqh_of, tc_of}
use Rattle.node_core.specs.declared.host.Host.{Host}
use Rattle.node_core.specs.Fresh.{fresh_part, fresh_shell}
use Rattle.node_core.specs.Requests.{is_request}
use Rattle.row_locks.specs.Queues.{waits}
use Rattle.row_locks.specs.Tables.{or_unlocked}
use Rattle.run_theory.specs.Runs.{AreLogs, IsWithin, log_of}
use Rattle.sig_core.specs.declared.member.Member.{Member}
use Rattle.sig_core.specs.declared.member.TxId.{TxId}
use Rattle.sig_core.specs.declared.outs.Outgoing.{Outgoing}
use Rattle.sig_core.specs.declared.place.Part.{Part}
use Rattle.sig_core.specs.declared.place.Part.TheVariants as part
use Rattle.sig_core.specs.declared.place.Place.{Place}
use Rattle.sig_core.specs.declared.signal.Body.{Body}
use Rattle.sig_core.specs.declared.signal.Body.TheVariants.{Chain}
use Rattle.sig_core.specs.declared.signal.chain.ChainSignal.TheVariants.{LqhKeyReq, LqhKeyConf, LqhKeyRef}
use Rattle.sig_core.specs.Same.{same_key, same_tx}
use Rattle.tc_block.specs.declared.phase.Phase.TheVariants.{Open}
use Rattle.tc_block.specs.declared.transaction.Transaction.{Transaction}
use Rattle.world_core.specs.Hosts.{home, first_hosts, started}
use Rattle.world_core.specs.Machine.{after, machine, step_after}
use Rattle.world_core.specs.Start.{Start}
use Rattle.world_core.specs.Steps.{HostStep}
use Rattle.host_laws.proofs.hosts.Sums.{total_at, total_one, total_zero}
use Rattle.run_theory.specs.Counts.{one_if, total}
use Rattle.run_laws.proofs.hosts.AlongSteps.{Goes, along, at_tc, first_none, no_transaction, other_turn}
use Rattle.run_laws.proofs.hosts.AlongSteps.{the_transaction, turn_at, tx_at, goes_cases}
use Rattle.answer_laws.proofs.Flows.{flow_few, flow_sent, flow_taken, flow_took}
use Rattle.host_laws.proofs.coordinator.HostTurns.{HostTurn, IsAside, aside, in_rows, is_aside, starting, turning}
use Rattle.host_laws.proofs.rows.Leaves.{lqh_waits}
use Rattle.host_laws.proofs.rows.Operations.{is_lqh}
use Rattle.host_laws.proofs.rows.Waits.{came_to, hops, is_hop, queued, waiting}
use Rattle.host_laws.proofs.hosts.SendKinds.{are_of, none_of}
use Rattle.answer_laws.proofs.TcForth.{HopTurn, hop_turn}
use Rattle.host_laws.proofs.coordinator.Operations.{answers_of, asks_key}
use Rattle.host_laws.specs.Live.{of_live}
use Rattle.host_laws.proofs.coordinator.Steps.{live_early}
use Rattle.answer_laws.proofs.Totals.{sent_all, taken_all}
use Rattle.host_laws.proofs.api.Wishes.{is_tc}

plain_hop : (tx : TxId) (key : List ℕ) (to : Place) (body : Body) → is_hop tx key to body ≡ true
    → is_request body ≡ false
plain_hop tx key to (Chain (LqhKeyReq other what chain at)) e = refl
plain_hop tx key to (Chain (LqhKeyConf other at answer)) e = refl
plain_hop tx key to (Chain (LqhKeyRef other at why)) e = refl
plain_hop tx key to _ e = cc

-- what comes to the rows, and to a coordinator
rows_came : (tx : TxId) (key : List ℕ) (to : Place) (body : Body) → is_lqh to.block ≡ true
    → came_to tx key body ≤ one_if (is_hop tx key to body)
rows_came tx key to (Chain (LqhKeyReq other what chain at)) e =
    omega (arith, ap (λ b. one_if (b && (same_tx other tx && same_key (work_key what) key))) e)
rows_came tx key to _ e = omega arith

answers_came : (tx : TxId) (key : List ℕ) (to : Place) (body : Body) → is_tc to.block ≡ true
    → answers_of tx key body ≤ one_if (is_hop tx key to body)
answers_came tx key to (Chain (LqhKeyConf other at answer)) e =
    omega (arith, ap (λ b. one_if (b && (same_tx other tx && same_key at key))) e)
answers_came tx key to (Chain (LqhKeyRef other at why)) e =
    omega (arith, ap (λ b. one_if (b && (same_tx other tx && same_key at key))) e)
answers_came tx key to _ e = omega arith

-- what isn't said of the transaction asks for no operation of it
aside_hops : (tx : TxId) (key : List ℕ) (sends : List Outgoing) → are_of (is_aside tx) sends ≡ true
    → hops tx key sends ≡ 0
aside_hops tx key sends kind = none_of (is_aside tx) (is_hop tx key) fails sends kind
  where
    fails : (to : Place) (b : Body) → is_aside tx b ≡ true → is_hop tx key to b ≡ false
    fails to (Chain (LqhKeyReq other what chain at)) e = by (same_tx other tx) e (is_lqh to.block)
      where
        by : (m : Bool) → not m ≡ true → (c : Bool) → (c && (m && same_key (work_key what) key)) ≡ false
        by true q c = absurd (false≢true q)
        by false q true = refl
        by false q false = refl
    fails to (Chain (LqhKeyConf other at answer)) e = absurd (false≢true e)
    fails to (Chain (LqhKeyRef other at why)) e = absurd (false≢true e)
    fails to _ e = refl

-- no rows begin with anything in a queue, or waiting
part_unqueued : (tx : TxId) (key : List ℕ) (of : Part) (member : Member) (layout : Layout) (epoch : ℕ)
    (rows : List (List ℕ × List ℕ)) → queued tx key (lqh_of (fresh_part of member layout epoch rows)) ≡ false
unfolding fresh_part
part_unqueued tx key part.Main member layout epoch rows =
    ap (λ o. waits tx (or_unlocked o).queue) (finite.get-empty (slice_cmp nat_cmp) key)
part_unqueued tx key part.Tc member layout epoch rows =
    ap (λ o. waits tx (or_unlocked o).queue) (finite.get-empty (slice_cmp nat_cmp) key)
part_unqueued tx key part.Ldm member layout epoch rows =
    ap (λ o. waits tx (or_unlocked o).queue) (finite.get-empty (slice_cmp nat_cmp) key)

part_waits : (tx : TxId) (key : List ℕ) (of : Part) (member : Member) (layout : Layout) (epoch : ℕ)
    (rows : List (List ℕ × List ℕ)) → waiting tx key (lqh_of (fresh_part of member layout epoch rows)) ≡ 0
unfolding fresh_part
part_waits tx key part.Main member layout epoch rows = refl
part_waits tx key part.Tc member layout epoch rows = refl
part_waits tx key part.Ldm member layout epoch rows = refl

module _ (start : Start) (tx : TxId) (key : List ℕ) where
  started_unqueued : (h : ℕ) → queued tx key (lqh_of (started start h)) ≡ false
  unfolding started fresh_shell
  started_unqueued zero = ap (λ o. waits tx (or_unlocked o).queue) (finite.get-empty (slice_cmp nat_cmp) key)
  started_unqueued (suc k) = part_unqueued tx key _ _ _ _ _

  started_waits : (h : ℕ) → waiting tx key (lqh_of (started start h)) ≡ 0
  unfolding started fresh_shell
  started_waits zero = refl
  started_waits (suc k) = part_waits tx key _ _ _ _ _

  abbrev pub waiting_at : Host → ℕ
  waiting_at host = waiting tx key (lqh_of host)

  -- who is in the queue of a host waits there
  queue_is : (h : ℕ) (log : List HostStep) → queued tx key (lqh_of (after start h log)) ≡ true
      → 1 ≤ waiting_at (after start h log)
  queue_is h [] = λ on. absurd (false≢true (sym (started_unqueued h) ∙ on))
  queue_is h (e ∷ log) =
      keeps_rows (λ s. queued tx key s ≡ true → 1 ≤ waiting tx key s)
      (λ s x there. (lqh_waits tx key s x.body).there there) (after start h log) e.step.taken (queue_is h log)

  abbrev pub S : (ℕ → List HostStep) → ℕ
  S logs = sent_all start (first_hosts start) (is_hop tx key) logs

  abbrev pub T : (ℕ → List HostStep) → ℕ
  T logs = taken_all start (first_hosts start) (is_hop tx key) logs

  abbrev pub W : (ℕ → List HostStep) → ℕ
  W logs = total (first_hosts start) (λ i. waiting_at (after start i (logs i)))

  module _ (logs now : ℕ → List HostStep) (h : ℕ) (e : HostStep) (g : Goes start logs now h e) where
    took : T logs + one_if (is_hop tx key e.step.taken.to e.step.taken.body) ≤ T now
    took = by (is_hop tx key e.step.taken.to e.step.taken.body) refl
      where
        by : (b : Bool) → is_hop tx key e.step.taken.to e.step.taken.body ≡ b
            → T logs + one_if (is_hop tx key e.step.taken.to e.step.taken.body) ≤ T now
        by true is = omega (
          arith,
          ap one_if is,
          flow_took start (is_hop tx key) logs now h e g
              (plain_hop tx key e.step.taken.to e.step.taken.body is) is,
        )
        by false is = omega (arith, ap one_if is, flow_taken start (is_hop tx key) logs now h e g)

    waits_now : W now + waiting_at (after start h (logs h)) ≡ W logs + waiting_at (step_after start h (logs h) e).state
    waits_now =
        omega (
          arith,
          total_one (first_hosts start) (λ k. waiting_at (after start k (logs k)))
              (λ k. waiting_at (after start k (now k))) h
              g.low (λ k differs. ap (λ log. waiting_at (after start k log)) (g.others k differs)),
          ap (λ log. waiting_at (after start h log)) g.own,
        )

    -- the step gives no more to the links and the rows than it takes from them
    abbrev Balanced : Type 0
    Balanced = S now + W now + T logs ≤ S logs + W logs + T now

    rows_balanced : IsRowsStep (after start h (logs h)) e.step.taken (step_after start h (logs h) e) → Balanced
    rows_balanced step =
        omega (
          arith,
          flow_sent start (is_hop tx key) logs now h e g,
          ap (λ f. hops tx key f.sends) step.effects,
          (lqh_waits tx key (lqh_of (after start h (logs h))) e.step.taken.body).few (queue_is h (logs h)),
          waits_now,
          ap (waiting tx key) step.state,
          took,
          rows_came tx key e.step.taken.to e.step.taken.body (ap is_lqh step.at),
        )

    -- a step that sends none of these
    still_balanced : lqh_of (step_after start h (logs h) e).state ≡ lqh_of (after start h (logs h))
        → hops tx key (step_after start h (logs h) e).effects.sends ≡ 0 → Balanced
    still_balanced rows none = omega (
      arith,
      flow_sent start (is_hop tx key) logs now h e g,
      none,
      waits_now,
      ap
          (waiting tx key) rows,
      flow_taken start (is_hop tx key) logs now h e g,
    )

    aside_balanced : IsAside tx (after start h (logs h)) e.step.taken (step_after start h (logs h) e) → Balanced
    aside_balanced step =
        still_balanced step.rows (aside_hops tx key (step_after start h (logs h) e).effects.sends step.kind)

  -- what of a transaction's operations on the key waits or is on its way
  pub record IsLone (logs : ℕ → List HostStep) : Type 0 where
    pub few : S logs + W logs ≤ T logs + 1
    pub opened : (t : Transaction) → tx_at tx (after start (home start tx) (logs (home start tx))) ≡ Some t
        → t.phase ≡ Open → S logs + W logs ≤ T logs + one_if (asks_key key t.asked)
    pub unborn : (tc_of (after start (home start tx) (logs (home start tx)))).next_seq ≤ tx.seq
        → S logs + W logs ≤ T logs

  own_lone : (logs now : ℕ → List HostStep) (e : HostStep) → Goes start logs now (home start tx) e → IsLone logs
      → IsLone now
  own_lone logs now e g k = by (turn_at start tx (home start tx) (logs (home start tx)) e)
    where
      s : Host
      s = after start (home start tx) (logs (home start tx))

      now_is : after start (home start tx) (now (home start tx))
          ≡ (step_after start (home start tx) (logs (home start tx)) e).state
      now_is = ap (after start (home start tx)) g.own

      now_seq : (tc_of (after start (home start tx) (now (home start tx)))).next_seq
          ≡ (tc_of (step_after start (home start tx) (logs (home start tx)) e).state).next_seq
      now_seq = ap (λ h. (tc_of h).next_seq) now_is

      kept : tx_at tx (step_after start (home start tx) (logs (home start tx)) e).state ≡ tx_at tx s
          → (tc_of s).next_seq ≤ (tc_of (step_after start (home start tx) (logs (home start tx)) e).state).next_seq
          → Balanced logs now (home start tx) e g → IsLone now
      kept same more bal = record {
        few = omega (arith, k.few, bal);
        opened = λ t at p. omega (arith, k.opened t (sym same ∙ ap (tx_at tx) (sym now_is) ∙ at) p, bal);
        unborn = λ early. omega (arith, k.unborn (omega (arith, more, early, now_seq)), bal);
      }

      by : HostTurn tx s e.step.taken (step_after start (home start tx) (logs (home start tx)) e) → IsLone now
      by (in_rows step) =
          kept (ap (λ u. of_live tx u.live) step.tc) (omega (arith, ap (λ u. u.next_seq) step.tc))
          (rows_balanced logs now (home start tx) e g step)
      by (aside step) = kept step.same step.grows (aside_balanced logs now (home start tx) e g step)
      by (starting step) =
          let bal = still_balanced logs now (home start tx) e g step.rows (ap (hops tx key) step.told) in
          let before = k.unborn (omega (arith, ap (λ (v : TxId). v.seq) step.one)) in
          record {
            few = omega (arith, k.few, bal);
            opened = λ t at p. omega (arith, before, bal);
            unborn = λ early. omega (arith, before, bal);
          }
      by (turning step) = record {
        few = few_now turns.few;
        opened = λ u at p. opened_now u (ap (tx_at tx) (sym now_is) ∙ at) p step.turn.over refl;
        unborn = λ early. absurd (omega (
          arith,
          early,
          now_seq,
          step.grows,
          live_early tx (tc_of s) step.was step.there
              (at_tc start tx (home start tx) (logs (home start tx))).own,
        ));
      }
        where
          turns : HopTurn (tc_of s) tx key step.was e.step.taken.body step.turn
          turns = hop_turn (tc_of s) tx key step.was e.step.taken.body step.turn step.move

          sent : S now ≤ S logs + hops tx key step.turn.step.effects.sends
          sent = omega (arith, flow_sent start (is_hop tx key) logs now (home start tx) e g, ap (hops tx key) step.told)

          waits : W now ≡ W logs
          waits = omega (arith, waits_now logs now (home start tx) e g, ap (waiting tx key) step.rows)

          taken_now : T logs + answers_of tx key e.step.taken.body ≤ T now
          taken_now = omega (
            arith,
            took logs now (home start tx) e g,
            answers_came tx key e.step.taken.to
                e.step.taken.body (ap is_tc step.at),
          )

          few_now : (hops tx key step.turn.step.effects.sends ≡ 0)
              ⊎ ((step.was.phase ≡ Open) × ((asks_key key step.was.asked ≡ false) ×
              (hops tx key step.turn.step.effects.sends ≤ 1))) → S now + W now ≤ T now + 1
          few_now (inl none) = omega (arith, k.few, sent, none, waits, taken_now)
          few_now (inr one) =
              omega (arith, k.opened step.was step.there one.0, ap one_if one.1.0, one.1.1, sent, waits, taken_now)

          opened_now : (u : Transaction)
              → tx_at tx (step_after start (home start tx) (logs (home start tx)) e).state ≡ Some u → u.phase ≡ Open
              → (b : Bool) → step.turn.over ≡ b → S now + W now ≤ T now + one_if (asks_key key u.asked)
          opened_now u at p true over =
              no_transaction u (sym (step.left ∙ ap (λ b. if b then None else Some step.turn.step.state) over) ∙ at)
          opened_now u at p false over =
              let same : step.turn.step.state
              ≡ u = the_transaction step.turn.step.state u
              (sym (step.left ∙ ap (λ b. if b then None else Some step.turn.step.state) over) ∙ at) in
              let o = turns.opened over (ap (λ (v : Transaction). v.phase) same ∙ p) in
              omega (
                arith,
                k.opened step.was step.there o.0,
                o.1,
                sent,
                waits,
                taken_now,
                ap
                    (λ (v : Transaction). one_if (asks_key key v.asked)) same,
              )

  -- another host's step
  other_lone : (logs now : ℕ → List HostStep) (h : ℕ) (e : HostStep) → Goes start logs now h e → h ≢ home start tx
      → IsLone logs → IsLone now
  other_lone logs now h e g differs k =
      let same = g.others (home start tx) (λ z. differs (sym z)) in
      let bal = by (other_turn start tx h (logs h) e g.low differs) in
      record {
        few = omega (arith, k.few, bal);
        opened = λ t at p. omega (
          arith,
          k.opened t (ap (λ log. tx_at tx (after start (home start tx) log)) (sym same) ∙
              at) p,
          bal,
        );
        unborn = λ early. omega (
          arith,
          k.unborn (omega (
            arith,
            early,
            ap
                (λ log. (tc_of (after start (home start tx) log)).next_seq) same,
          )),
          bal,
        );
      }
    where
      by : IsRowsStep (after start h (logs h)) e.step.taken (step_after start h (logs h) e)
          ⊎ IsAside tx (after start h (logs h)) e.step.taken (step_after start h (logs h) e) → Balanced logs now h e g
      by (inl rows) = rows_balanced logs now h e g rows
      by (inr other) = aside_balanced logs now h e g other

  pub lone_step : (logs now : ℕ → List HostStep) (h : ℕ) (e : HostStep) → Goes start logs now h e → IsLone logs
      → IsLone now
  lone_step logs now h e g k =
      goes_cases start logs now h e g (home start tx) (λ own. own_lone logs now e own k)
      (λ differs same. other_lone logs now h e g differs k)

  pub first_lone : IsLone (log_of (machine start) [])
  first_lone =
      let s : S (log_of (machine start) []) ≡ 0 =
      total_zero (first_hosts start) _ (λ i. total_zero (first_hosts start) _ (λ j. refl)) in
      let w : W (log_of (machine start) []) ≡ 0 = total_zero (first_hosts start) _ started_waits in
      record {
        few = omega (arith, s, w);
        opened = λ t at p. no_transaction t
            (sym (first_none start tx (home start tx)) ∙ at);
        unborn = λ early. omega (arith, s, w);
      }

  -- so no more than one waits at a host
  pub one_waits : (logs : ℕ → List HostStep) → AreLogs (machine start) logs → IsLone logs → (i : ℕ)
      → i < first_hosts start
      → waiting_at (after start i (logs i)) ≤ 1
  one_waits logs right k i low = omega (
    arith,
    k.few,
    flow_few start (is_hop tx key) logs right,
    total_at (first_hosts start)
        (λ j. waiting_at (after start j (logs j))) i low,
  )
