-- An operation that a coordinator's transaction has unanswered is on its way, or waits at a node.
use Rattle.std.proofs.Common.{◌≡◌, ◌≢◌, ◌⊎◌, ℕ, ◌+◌, ◌≤◌, ◌<◌, List, [], ◌∷◌, Bool, true, false, refl, ap, sym, ◌∙◌}
use Rattle.std.proofs.Common.{subst, arith, inl, inr}
use Rattle.std.specs.Prelude.{◌==◌, ◌&&◌, nat_lt, Some}
use Rattle.std.proofs.lemmas.Bool.{cases_eq, eqb-true, false≢true, true≢false}
use Rattle.std.proofs.lemmas.Bool.Decides.{nat_tests}
use Rattle.row_records.proofs.KeyLemmas.{same as same_key-is}
use Rattle.lqh_block.specs.declared.request.Request.{Request}
use Rattle.sig_core.specs.Work.{work_key}
use Rattle.node_core.specs.declared.host.Host as host
use Rattle.node_core.specs.declared.host.Host.TheVariants.{Shell, Main, Tc, Ldm}
use Rattle.node_core.proofs.HostCases.{BlockCase, IsApiStep, IsDihStep, IsIdleStep, IsRowsStep, IsTcStep, api_takes}
use Rattle.node_core.proofs.HostCases.{block_case, dih_takes, none_takes, rows_take, runs, tc_step, tc_takes}
use Rattle.node_core.specs.Blocks.{has_lqh, has_tc, lqh_of, tc_of}
use Rattle.lqh_block.specs.State.{LqhState}
use Rattle.run_theory.specs.Runs.{AreLogs, IsWithin}
use Rattle.sig_core.specs.declared.member.TxId.{TxId}
use Rattle.sig_core.specs.declared.place.BlockId.{BlockId}
use Rattle.sig_core.specs.declared.place.BlockId.TheVariants as block
use Rattle.sig_core.specs.declared.place.Place.{Place}
use Rattle.sig_core.specs.declared.signal.Body.{Body}
use Rattle.sig_core.specs.declared.signal.Body.TheVariants.{Chain}
use Rattle.sig_core.specs.declared.signal.chain.ChainSignal.TheVariants.{LqhKeyReq, LqhKeyConf, LqhKeyRef}
use Rattle.sig_core.specs.Op.{key_of}
use Rattle.sig_core.specs.Same.{same_key, same_tx}
use Rattle.sig_core.specs.Step.{Step}
use Rattle.tc_block.specs.declared.phase.Asked.{Asked}
use Rattle.tc_block.specs.declared.transaction.Transaction.{Transaction}
use Rattle.tc_block.specs.State.{TcState}
use Rattle.tc_block.specs.Tc.{tc_table}
use Rattle.frag_map.specs.Layout.{first_layout}
use Rattle.frag_map.specs.Shape.{IsShape}
use Rattle.world_core.proofs.HostNumbers.{IsNodes, rows_found, tc_runs}
use Rattle.world_core.specs.Hosts.{home, host_for, first_hosts, rows_host}
use Rattle.world_core.specs.Machine.{after, machine, step_after}
use Rattle.world_core.specs.Start.{Start}
use Rattle.world_core.specs.Steps.{HostStep}
use Rattle.sig_core.proofs.Keys.{same_tx-self, same_key-self}
use Rattle.run_laws.proofs.hosts.AlongSteps.{Goes, addressed, along, at_home, at_tc, heard_rows, home_place, live_tx}
use Rattle.answer_laws.proofs.FirstChains.{first_node, good_chain}
use Rattle.answer_laws.proofs.Flows.{flow_few}
use Rattle.host_laws.proofs.hosts.BlocksAlong.{first_live, no_waiting, reaches, tc_layout}
use Rattle.host_laws.proofs.coordinator.HostTurns.{idle_unheard}
use Rattle.host_laws.proofs.hosts.LinkCounts.{signals}
use Rattle.host_laws.proofs.rows.Operations.{came_of, is_good, is_lqh, is_mine, is_node, is_op, left_of, lqh_ops, ops}
use Rattle.host_laws.proofs.rows.Operations.{right_of, true_and}
use Rattle.host_laws.proofs.coordinator.NodeOps.{AreRight, StepAsks, is_asking, tc_steps}
use Rattle.run_theory.proofs.Tally.{Counted, and_few, counted, tally_in}
use Rattle.run_theory.specs.Counts.{one_if, tally}
use Rattle.host_laws.proofs.coordinator.Moves.{same_tx-is}
use Rattle.host_laws.proofs.coordinator.Operations.{answers_of, asks_key, IsGoodLayout}
use Rattle.answer_laws.proofs.Totals.{Grown, sent_all, sent_more, taken_all, taken_more}
use Rattle.host_laws.proofs.hosts.Sums.{IsSome, total_one, total_same, total_some}
use Rattle.run_theory.specs.Counts.{total}
use Rattle.host_laws.proofs.api.Wishes.{is_tc}
use Rattle.answer_laws.specs.Answered.{AreQuiet, EachOperationWaits, IsLiveAs, IsWaitingAt, Waits}

-- a host that has nothing of a coordinator's signals runs none
idle_tc : (s : host.Host) (at : BlockId) → runs s at ≡ false → is_tc at ≡ true → has_tc s ≡ false
idle_tc (Tc p) block.Tc off on = absurd (true≢false off)
idle_tc (Tc p) _ off on = absurd (false≢true on)
idle_tc (Shell s) at off on = refl
idle_tc (Main m) at off on = refl
idle_tc (Ldm s) at off on = refl

module _ (start : Start) (is : IsShape start.shape) (tx : TxId) (key : List ℕ) (some : 1 ≤ tx.tc)
    (low : tx.tc ≤ start.shape.nodes) where
  -- the first number behind those of the nodes
  abbrev nodes : ℕ
  nodes = start.shape.nodes + 1

  good : IsGoodLayout nodes (first_layout start.shape)
  good = record { good = good_chain start.shape is; first = first_node start.shape is }

  -- what a step of a coordinator makes of the operation
  turn : (h : ℕ) (log : List HostStep) (body : Body) → has_tc (after start h log) ≡ true
      → AreRight (tc_of (after start h log)).live
      → StepAsks nodes tx key (tc_of (after start h log)) (tc_table (tc_of (after start h log)) body).state
      (tc_table (tc_of (after start h log)) body).effects.sends (answers_of tx key body)
  turn h log body on right =
      let x = at_tc start tx h log in
      tc_steps nodes tx key (tc_of (after start h log)) body right x.once x.own
      (subst (IsGoodLayout nodes) (sym (tc_layout start h log on)) good)

  right_after : (h : ℕ) (log : List HostStep) → AreRight (tc_of (after start h log)).live
  right_after h [] = subst AreRight (sym (first_live start h)) tt
  right_after h (e ∷ log) = next (right_after h log)
    where
      next : AreRight (tc_of (after start h log)).live → AreRight (tc_of (after start h (e ∷ log))).live
      next right = go (tc_step (after start h log) e.step.taken)
        where
          go : IsTcStep (after start h log) e.step.taken (step_after start h log e)
              ⊎ (tc_of (step_after start h log e).state ≡ tc_of (after start h log))
              → AreRight (tc_of (step_after start h log e).state).live
          go (inl step) = subst (λ (t : TcState). AreRight t.live) (sym step.state)
              (turn h log e.step.taken.body step.runs right).right
          go (inr same) = subst (λ (t : TcState). AreRight t.live) (sym same) right

  -- how many requests wait, and whether the transaction asks
  abbrev waiting_at : host.Host → ℕ
  waiting_at s = tally (λ (r : Request). is_mine nodes tx key r) (lqh_of s).waiting

  abbrev asking_at : host.Host → ℕ
  asking_at s = tally (is_asking nodes tx key) (tc_of s).live

  abbrev came : Place → Body → ℕ
  came to body = one_if (is_op nodes tx key to body)

  few_came : (to : Place) (body : Body) → to.block ≡ block.Lqh → came to body ≤ came_of nodes tx key body
  few_came to (Chain (LqhKeyReq other what chain at)) e = and_few (is_lqh to.block && is_node nodes to.node) _
  few_came to (Chain (LqhKeyConf other at answer)) e =
      omega (arith, ap (λ b. one_if ((is_tc b && (to.node == tx.tc)) && (same_tx other tx && same_key at key))) e)
  few_came to (Chain (LqhKeyRef other at why)) e =
      omega (arith, ap (λ b. one_if ((is_tc b && (to.node == tx.tc)) && (same_tx other tx && same_key at key))) e)
  few_came to _ e = omega arith

  few_answers : (to : Place) (body : Body) → to.block ≡ block.Tc → came to body ≤ answers_of tx key body
  few_answers to (Chain (LqhKeyReq other what chain at)) e =
      omega (
        arith,
        ap (λ b. one_if ((is_lqh b && is_node nodes to.node) && is_mine nodes tx key
            (record { tx = other; work = what; chain = chain; at = at }))) e,
      )
  few_answers to (Chain (LqhKeyConf other at answer)) e = and_few (is_tc to.block && (to.node == tx.tc)) _
  few_answers to (Chain (LqhKeyRef other at why)) e = and_few (is_tc to.block && (to.node == tx.tc)) _
  few_answers to _ e = omega arith

  -- none came to another block, nor to another coordinator
  none_came : (to : Place) (body : Body) → (is_lqh to.block && is_node nodes to.node) ≡ false
      → (is_tc to.block && (to.node == tx.tc)) ≡ false → came to body ≡ 0
  none_came to (Chain (LqhKeyReq other what chain at)) p q =
      ap (λ b. one_if (b && is_mine nodes tx key (record { tx = other; work = what; chain = chain; at = at }))) p
  none_came to (Chain (LqhKeyConf other at answer)) p q =
      ap (λ b. one_if (b && (same_tx other tx && same_key at key))) q
  none_came to (Chain (LqhKeyRef other at why)) p q = ap (λ b. one_if (b && (same_tx other tx && same_key at key))) q
  none_came to _ p q = refl

  -- a step of a host, which takes what is for it
  module _ (h : ℕ) (log : List HostStep) (e : HostStep) (addressed_here : host_for start e.step.taken.to ≡ h) where
    abbrev s : host.Host
    s = after start h log

    abbrev t : Step host.Host
    t = step_after start h log e

    abbrev c : ℕ
    c = came e.step.taken.to e.step.taken.body

    abbrev for_rows : Bool
    for_rows = is_lqh e.step.taken.to.block && is_node nodes e.step.taken.to.node

    abbrev for_home : Bool
    for_home = is_tc e.step.taken.to.block && (e.step.taken.to.node == tx.tc)

    -- it runs the block that an operation of the transaction is for
    off_rows : has_lqh s ≡ false → (b : Bool) → for_rows ≡ b → for_rows ≡ false
    off_rows off false q = q
    off_rows off true q = absurd (true≢false (sym (heard_rows start h log e.step.taken.to addressed_here q) ∙ off))

    go_home : for_home ≡ true → h ≡ home start tx
    go_home q = sym addressed_here ∙ home_place start tx e.step.taken.to q

    off_home : h ≢ home start tx → (b : Bool) → for_home ≡ b → for_home ≡ false
    off_home away false q = q
    off_home away true q = absurd (away (go_home q))

    off_tc : has_tc s ≡ false → (b : Bool) → for_home ≡ b → for_home ≡ false
    off_tc off false q = q
    off_tc off true q = absurd (true≢false (sym (subst (λ k. has_tc (after start k log) ≡ true) (sym (go_home q))
        (tc_runs start tx.tc log some low)) ∙ off))

    idle_came : runs s e.step.taken.to.block ≡ false → c ≡ 0
    idle_came off = none_came e.step.taken.to e.step.taken.body (of_rows (is_lqh e.step.taken.to.block) refl)
        (of_tc (is_tc e.step.taken.to.block) refl)
      where
        of_rows : (b : Bool) → is_lqh e.step.taken.to.block ≡ b → for_rows ≡ false
        of_rows false q = ap (λ b. b && is_node nodes e.step.taken.to.node) q
        of_rows true q = off_rows (idle_unheard s e.step.taken.to.block off q) for_rows refl

        of_tc : (b : Bool) → is_tc e.step.taken.to.block ≡ b → for_home ≡ false
        of_tc false q = ap (λ b. b && (e.step.taken.to.node == tx.tc)) q
        of_tc true q = off_tc (idle_tc s e.step.taken.to.block off q) for_home refl

    -- at a block of others none came
    other_came : is_lqh e.step.taken.to.block ≡ false → is_tc e.step.taken.to.block ≡ false → c ≡ 0
    other_came p q = none_came e.step.taken.to e.step.taken.body (ap (λ b. b && is_node nodes e.step.taken.to.node) p)
        (ap (λ b. b && (e.step.taken.to.node == tx.tc)) q)

    -- it is kept
    abbrev IsKeptOp : Type 0
    IsKeptOp = waiting_at s + c ≤ waiting_at t.state + ops nodes tx key t.effects.sends

    -- by all blocks but a coordinator
    rows_same : lqh_of t.state ≡ lqh_of s → c ≡ 0 → IsKeptOp
    rows_same same none =
        omega (arith, none, ap (λ (l : LqhState). tally (λ (r : Request). is_mine nodes tx key r) l.waiting) same)

    rows_kept : IsRowsStep s e.step.taken t → IsKeptOp
    rows_kept step =
        omega (
          arith,
          few_came e.step.taken.to e.step.taken.body step.at,
          lqh_ops nodes tx key (lqh_of s) e.step.taken.body,
          ap (λ (l : LqhState). tally (λ (r : Request). is_mine nodes tx key r) l.waiting) step.state,
          ap (λ f. ops nodes tx key f.sends) step.effects,
        )

    other_kept : (u : Step host.Host) → u ≡ t → BlockCase s e.step.taken u
        → IsTcStep s e.step.taken t ⊎ (IsKeptOp × (tc_of t.state ≡ tc_of s))
    other_kept u is (tc_takes step) = inl (subst (IsTcStep s e.step.taken) is step)
    other_kept u is (rows_take step) =
        let own = subst (IsRowsStep s e.step.taken) is step in inr (rows_kept own, own.tc)
    other_kept u is (api_takes step) = let own = subst (IsApiStep s e.step.taken) is step in
        inr (rows_same own.rows (other_came (ap is_lqh own.at) (ap is_tc own.at)), own.tc)
    other_kept u is (dih_takes step) = let own = subst (IsDihStep s e.step.taken) is step in
        inr (rows_same own.rows (other_came (ap is_lqh own.at) (ap is_tc own.at)), own.tc)
    other_kept u is (none_takes step) =
        let own = subst (IsIdleStep s e.step.taken) is step in
        inr (
          rows_same (ap (λ (v : Step host.Host). lqh_of v.state) own.is) (idle_came own.runs),
          ap
              (λ (v : Step host.Host). tc_of v.state) own.is,
        )

    -- elsewhere than at home it is kept
    step_away : h ≢ home start tx → IsKeptOp
    step_away away = go (other_kept t refl (block_case s e.step.taken))
      where
        go : IsTcStep s e.step.taken t ⊎ (IsKeptOp × (tc_of t.state ≡ tc_of s)) → IsKeptOp
        go (inl step) = rows_same step.rows
            (none_came e.step.taken.to e.step.taken.body
            (ap (λ b. is_lqh b && is_node nodes e.step.taken.to.node) step.at) (off_home away _ refl))
        go (inr other) = other.0

    -- at home what the transaction asks it asked before, and it is kept, or it was sent
    abbrev Home : Type 0
    Home =
        ((1 ≤ asking_at s) × IsKeptOp) ⊎ (c + 1 + waiting_at s ≤ ops nodes tx key t.effects.sends + waiting_at t.state)

    step_home : 1 ≤ asking_at t.state → Home
    step_home asks = go (other_kept t refl (block_case s e.step.taken))
      where
        at_tc_step : (step : IsTcStep s e.step.taken t)
            → ((1 ≤ asking_at s) × (answers_of tx key e.step.taken.body ≡ 0))
            ⊎ (answers_of tx key e.step.taken.body + 1 ≤ ops nodes tx key
            (tc_table (tc_of s) e.step.taken.body).effects.sends) → Home
        at_tc_step step (inl had) =
            inl (
              had.0,
              rows_same step.rows (omega (
                arith,
                had.1,
                few_answers e.step.taken.to e.step.taken.body
                    step.at,
              )),
            )
        at_tc_step step (inr sent) =
            inr (omega (
              arith,
              sent,
              few_answers e.step.taken.to e.step.taken.body step.at,
              ap (λ f. ops nodes tx key f.sends) step.effects,
              ap (λ (l : LqhState). tally (λ (r : Request). is_mine nodes tx key r) l.waiting) step.rows,
            ))

        go : IsTcStep s e.step.taken t ⊎ (IsKeptOp × (tc_of t.state ≡ tc_of s)) → Home
        go (inl step) =
            at_tc_step step ((turn h log e.step.taken.body step.runs (right_after h log)).asks
            (subst (λ (u : TcState). 1 ≤ tally (is_asking nodes tx key) u.live) step.state asks))
        go (inr other) = inl (subst (λ (u : TcState). 1 ≤ tally (is_asking nodes tx key) u.live) other.1 asks, other.0)

  abbrev waiting : (ℕ → List HostStep) → ℕ
  waiting logs = total (first_hosts start) (λ h. waiting_at (after start h (logs h)))

  abbrev taken_ops : (ℕ → List HostStep) → ℕ
  taken_ops logs = taken_all start (first_hosts start) (is_op nodes tx key) logs

  abbrev sent_ops : (ℕ → List HostStep) → ℕ
  sent_ops logs = sent_all start (first_hosts start) (is_op nodes tx key) logs

  -- where the transaction asks, something is on its way or waits
  abbrev IsUnderWay : (ℕ → List HostStep) → Type 0
  IsUnderWay logs = 1 ≤ asking_at (after start (home start tx) (logs (home start tx)))
      → taken_ops logs + 1 ≤ sent_ops logs + waiting logs

  -- such signals go to hosts that are there
  op_low : (to : Place) (body : Body) → is_op nodes tx key to body ≡ true → host_for start to < first_hosts start
  op_low to (Chain (LqhKeyReq other what chain at)) e =
      reaches start to (grind (
        arith,
        nat_tests,
        right_of (nat_lt 0 to.node) (nat_lt to.node nodes)
            (right_of (is_lqh to.block) (is_node nodes to.node)
            (left_of (is_lqh to.block && is_node nodes to.node) _ e)),
      ))
  op_low to (Chain (LqhKeyConf other at answer)) e =
      reaches start to (omega (
        arith,
        low,
        eqb-true to.node tx.tc
            (right_of (is_tc to.block) (to.node == tx.tc) (left_of (is_tc to.block && (to.node == tx.tc)) _ e)),
      ))
  op_low to (Chain (LqhKeyRef other at why)) e =
      reaches start to (omega (
        arith,
        low,
        eqb-true to.node tx.tc
            (right_of (is_tc to.block) (to.node == tx.tc) (left_of (is_tc to.block && (to.node == tx.tc)) _ e)),
      ))
  op_low to _ e = cc

  -- a step keeps that
  step_next : (logs now : ℕ → List HostStep) (h : ℕ) (e : HostStep) → Goes start logs now h e → IsUnderWay logs
      → IsUnderWay now
  step_next logs now h e g way asks = by (cases_eq h (home start tx))
    where
      here : host_for start e.step.taken.to ≡ h
      here = addressed start logs now h e g

      grown : Grown start (first_hosts start) (is_op nodes tx key) logs now h e
      grown = record { own = g.own; others = g.others }

      w_now : waiting_at (after start h (now h)) ≡ waiting_at (step_after start h (logs h) e).state
      w_now = ap (λ log. waiting_at (after start h log)) g.own

      total_now : waiting now + waiting_at (after start h (logs h)) ≡ waiting logs + waiting_at (after start h (now h))
      total_now = total_one (first_hosts start) (λ k. waiting_at (after start k (logs k)))
          (λ k. waiting_at (after start k (now k))) h g.low
          (λ k differs. ap (λ log. waiting_at (after start k log)) (g.others k differs))

      more : sent_ops now ≡ sent_ops logs + ops nodes tx key (step_after start h (logs h) e).effects.sends
      more = sent_more start (first_hosts start) (is_op nodes tx key) op_low logs now h e g.low grown

      took : taken_ops now ≤ taken_ops logs + came e.step.taken.to e.step.taken.body
      took = taken_more start (first_hosts start) (is_op nodes tx key) logs now h e g.low grown

      by : (h ≡ home start tx) ⊎ (h ≢ home start tx) → taken_ops now + 1 ≤ sent_ops now + waiting now
      by (inr away) =
          omega (
            arith,
            way (subst (λ log. 1 ≤ asking_at (after start (home start tx) log))
                (g.others (home start tx) (λ same. away (sym same))) asks),
            step_away h (logs h) e here away,
            w_now,
            total_now,
            more,
            took,
          )
      by (inl same) = which (step_home h (logs h) e here (subst (λ log. 1 ≤ asking_at (after start h log)) g.own
          (subst (λ k. 1 ≤ asking_at (after start k (now k))) (sym same) asks)))
        where
          which : Home h (logs h) e here → taken_ops now + 1 ≤ sent_ops now + waiting now
          which (inl had) = omega (
            arith,
            way (subst (λ k. 1 ≤ asking_at (after start k (logs k))) same had.0),
            had.1,
            w_now,
            total_now,
            more,
            took,
          )
          which (inr sent) =
              omega (arith, sent, flow_few start (is_op nodes tx key) logs g.before, w_now, total_now, more, took)

  -- along a run
  logs_way : (logs : ℕ → List HostStep) → IsWithin (first_hosts start) logs → AreLogs (machine start) logs
      → IsUnderWay logs
  logs_way logs in_n right =
      along start IsUnderWay (λ asks. absurd (omega (
        arith,
        asks,
        ap (tally (is_asking nodes tx key))
            (first_live start (home start tx)),
      ))) step_next logs in_n right

  -- at quiet
  module _ (logs : ℕ → List HostStep) (quiet : AreQuiet start logs) where
    all_taken : taken_ops logs ≡ sent_ops logs
    all_taken =
        total_same (first_hosts start) _ _ (λ i low. total_same (first_hosts start) _ _
        (λ j under. ap (signals (is_op nodes tx key)) (quiet.quiet i j low under)))

    -- some request of the transaction for the key waits
    waits_somewhere : 1 ≤ waiting logs → Waits start logs tx key
    waits_somewhere some = record {
      node = of.node;
      from = of.some;
      to = of.low;
      there = subst (λ h. IsWaitingAt tx key (after start h (logs h))) of.is waits;
    }
      where
        w : IsSome (first_hosts start) (λ h. waiting_at (after start h (logs h)))
        w = total_some (first_hosts start) (λ h. waiting_at (after start h (logs h))) some

        on : (b : Bool) → has_lqh (after start w.at (logs w.at)) ≡ b → has_lqh (after start w.at (logs w.at)) ≡ true
        on true q = q
        on false q = absurd (omega (
          arith,
          w.some,
          ap (tally (λ (r : Request). is_mine nodes tx key r))
              (no_waiting (after start w.at (logs w.at)) q),
        ))

        of : IsNodes start (rows_host start) w.at
        of = rows_found start w.at (logs w.at) w.low (on (has_lqh (after start w.at (logs w.at))) refl)

        found : Counted (λ (r : Request). is_mine nodes tx key r) (lqh_of (after start w.at (logs w.at))).waiting
        found = counted (λ (r : Request). is_mine nodes tx key r) (lqh_of (after start w.at (logs w.at))).waiting w.some

        waits : IsWaitingAt tx key (after start w.at (logs w.at))
        waits =
            let rest = right_of (same_tx found.item.tx tx)
            (same_key (work_key found.item.work) key && is_good nodes found.item.chain) found.passes in
            record {
              request = found.item;
              waits = found.inside;
              own = same_tx-is found.item.tx tx
                  (left_of (same_tx found.item.tx tx)
                  (same_key (work_key found.item.work) key && is_good nodes found.item.chain) found.passes);
              on = same_key-is (work_key found.item.work) key
                  (left_of (same_key (work_key found.item.work) key) (is_good nodes found.item.chain) rest);
            }

    asked_waits : (t : Transaction) (asked : Asked) → IsLiveAs tx t (after start (home start tx) (logs (home start tx)))
        → t.asked ≡ Some asked → key_of asked.op ≡ key → Waits start logs tx key
    asked_waits t asked live is on =
        waits_somewhere (omega (arith, all_taken, logs_way logs quiet.within quiet.right asks))
      where
        passes : is_asking nodes tx key (tx, t) ≡ true
        passes =
            true_and (same_tx tx tx) (asks_key key t.asked) (same_tx-self tx)
            (ap (asks_key key) is ∙ (ap (λ k. same_key k key) on ∙ same_key-self key))

        asks : 1 ≤ asking_at (after start (home start tx) (logs (home start tx)))
        asks = tally_in (is_asking nodes tx key) (tx, t)
            (tc_of (after start (home start tx) (logs (home start tx)))).live live passes

pub operations_wait : EachOperationWaits
operations_wait start logs h tx t asked quiet low live is =
    let home = at_home start tx h (logs h) t low (live_tx start tx h (logs h) t live) in
    asked_waits start quiet.shape tx (key_of asked.op) home.some home.low logs quiet t asked
    (subst (λ k. IsLiveAs tx t (after start k (logs k))) home.is live) is refl
