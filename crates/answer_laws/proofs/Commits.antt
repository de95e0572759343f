-- What a transaction that commits waits for is on its way.
use Rattle.std.proofs.Common.{◌≡◌, ◌≢◌, ◌⊎◌, ℕ, ◌+◌, ◌-◌, ◌≤◌, ◌<◌, List, [], ◌∷◌, length, Bool, true, false, refl, ap}
use Rattle.std.proofs.Common.{sym, ◌∙◌, subst, arith, inl, inr}
use Rattle.std.specs.Prelude.{◌==◌, ◌&&◌, nat_lt, Option, None, Some}
use Rattle.std.proofs.lemmas.Bool.{eqb-true, true≢false}
use Rattle.std.proofs.lemmas.Bool.Decides.{nat_tests}
use Rattle.frag_map.specs.Layout.{Layout, chain_of, first_layout}
use Rattle.frag_map.specs.Shape.{IsShape}
use Rattle.lqh_block.specs.Commit as commit
use Rattle.lqh_block.specs.Lqh.{lqh_table}
use Rattle.lqh_block.specs.State.{LqhState}
use Rattle.lqh_block.proofs.LqhForms.{commit_forms}
use Rattle.node_core.proofs.HostCases.{IsRowsStep, IsTcStep, tc_step}
use Rattle.node_core.specs.Blocks.{has_tc, lqh_of, tc_of}
use Rattle.run_theory.proofs.Pasts.{each_in}
use Rattle.run_theory.specs.Links.{sent, taken}
use Rattle.run_theory.specs.Lists.{Each, IsIn}
use Rattle.run_theory.specs.Runs.{log_of}
use Rattle.sig_core.specs.declared.portion.TheConstants.{PORTION}
use Rattle.sig_core.specs.declared.member.Member.{Member}
use Rattle.sig_core.specs.declared.member.TxId.{TxId}
use Rattle.sig_core.specs.declared.outs.Outgoing.{Outgoing}
use Rattle.sig_core.specs.declared.place.Place.{Place}
use Rattle.sig_core.specs.declared.signal.Body.{Body}
use Rattle.sig_core.specs.declared.signal.Body.TheVariants.{Host, Chain}
use Rattle.sig_core.specs.declared.signal.Signal.{Signal}
use Rattle.sig_core.specs.declared.signal.chain.ChainSignal.TheVariants.{Commit, Committed}
use Rattle.sig_core.specs.declared.signal.host.HostSignal.TheVariants.{Continue}
use Rattle.sig_core.specs.declared.signal.host.Work.TheVariants as work
use Rattle.sig_core.specs.Chain.{node_at}
use Rattle.sig_core.specs.Place.{coordinator_of}
use Rattle.sig_core.specs.Same.{same_tx}
use Rattle.tc_block.specs.declared.sends.TheConstants.{SENDS}
use Rattle.tc_block.specs.declared.phase.Phase.{Phase}
use Rattle.tc_block.specs.declared.phase.Phase.TheVariants.{Open, Verifying, Committing, Completing, Aborting}
use Rattle.tc_block.specs.declared.transaction.Transaction.{Transaction}
use Rattle.tc_block.specs.State.{TcState}
use Rattle.tc_block.specs.Tc.{tc_table}
use Rattle.world_core.proofs.HostNumbers.{host_below, tc_runs}
use Rattle.world_core.specs.Hosts.{home, host_for, first_hosts}
use Rattle.world_core.specs.Machine.{after, machine, step_after}
use Rattle.world_core.specs.Start.{Start}
use Rattle.world_core.specs.Steps.{HostStep}
use Rattle.run_theory.proofs.Tally.{and_few}
use Rattle.run_theory.specs.Counts.{one_if}
use Rattle.run_laws.proofs.hosts.AlongSteps.{Goes, addressed, along, at_home, at_tc, heard_rows, home_place, live_tx}
use Rattle.run_laws.proofs.hosts.AlongSteps.{tx_at, goes_cases}
use Rattle.answer_laws.proofs.FirstChains.{chain_some, good_chain}
use Rattle.host_laws.proofs.hosts.BlocksAlong.{IsHome, first_live, reaches, tc_layout}
use Rattle.host_laws.proofs.coordinator.HostTurns.{rows_turn, tc_turn}
use Rattle.host_laws.proofs.hosts.LinkCounts.{signals}
use Rattle.host_laws.proofs.rows.Operations.{is_good, is_lqh, is_node, left_of, right_of, true_and}
use Rattle.answer_laws.proofs.NodeOwes.{OwesOf, StepOwes, tc_owes}
use Rattle.host_laws.proofs.hosts.PartCounts.{IsPart, cont_block, is_cont}
use Rattle.host_laws.proofs.coordinator.Commits.{chain_at, is_chain, is_commit}
use Rattle.host_laws.proofs.coordinator.Moves.{same_tx-is}
use Rattle.host_laws.proofs.coordinator.Owes.{at_if, begins, came_in, cont_in, goes_on, IsKnown, Owes, waits}
use Rattle.host_laws.proofs.coordinator.Sends.{eqb-self}
use Rattle.answer_laws.proofs.SentInParts.{HomeStep, IsOwed, begun_owed, continued_owed, home_step, none_owed, s_more}
use Rattle.answer_laws.proofs.SentInParts.{stays_owed, t_more, waits_owed}
use Rattle.host_laws.proofs.api.Wishes.{is_tc, sends_of}
use Rattle.answer_laws.specs.Answered.{AreQuiet, IsLiveAs, NoCommitIsAwaited}
use Rattle.tc_block.specs.Phases.{is_committing}

-- what came along the chain
abbrev came_along : ℕ → TxId → Body → ℕ
came_along n tx (Chain (Commit other key epoch chain at)) =
    one_if (same_tx other tx && (is_good n chain && nat_lt at (length chain)))
came_along n tx _ = 0

-- a replica answers a commit or passes it on
commit_passed : (n : ℕ) (tx : TxId) (s : LqhState) (other : TxId) (key : List ℕ) (epoch : ℕ) (chain : List Member)
    (at : ℕ)
    → one_if (same_tx other tx && (is_good n chain && nat_lt at (length chain)))
    ≤ sends_of (is_commit n tx) (commit.commit_row s other key epoch chain at).effects.sends
commit_passed n tx s other key epoch chain at =
    by (same_tx other tx && (is_good n chain && nat_lt at (length chain))) refl
  where
    under : nat_lt at (length chain) ≡ true → at < length chain
    under q = grind (arith, nat_tests, q)

    less : at < length chain → nat_lt (at - 1) (length chain) ≡ true
    less q =
        let r : at - 1 < length chain = omega (arith, q) in grind (arith, nat_tests, r)

    by : (m : Bool) → (same_tx other tx && (is_good n chain && nat_lt at (length chain))) ≡ m
        → one_if m ≤ sends_of (is_commit n tx) (commit.commit_row s other key epoch chain at).effects.sends
    by false e = omega arith
    by true e =
        commit_forms (λ step. 1 ≤ sends_of (is_commit n tx) step.effects.sends) s other key epoch chain at (record {
          last = λ had st markers applies first. omega (
            arith,
            ap one_if (true_and (other.tc == tx.tc) (same_tx other tx)
                (subst (λ (t : TxId). (t.tc == tx.tc) ≡ true) (sym (same_tx-is other tx same)) (eqb-self tx.tc)) same),
          );
          passes = λ had st markers applies behind. omega (
            arith,
            ap one_if (true_and (is_node n (node_at chain (at - 1)))
                (same_tx other tx && (is_good n chain && nat_lt (at - 1) (length chain)))
                (chain_at n chain (at - 1) good (omega (arith, low)))
                (true_and (same_tx other tx) (is_good n chain && nat_lt (at - 1) (length chain)) same
                (true_and (is_good n chain) (nat_lt (at - 1) (length chain)) good (less low)))),
          );
        })
      where
        same : same_tx other tx ≡ true
        same = left_of (same_tx other tx) (is_good n chain && nat_lt at (length chain)) e

        rest : (is_good n chain && nat_lt at (length chain)) ≡ true
        rest = right_of (same_tx other tx) (is_good n chain && nat_lt at (length chain)) e

        good : is_good n chain ≡ true
        good = left_of (is_good n chain) (nat_lt at (length chain)) rest

        low : at < length chain
        low = under (right_of (is_good n chain) (nat_lt at (length chain)) rest)

lqh_commits : (n : ℕ) (tx : TxId) (s : LqhState) (body : Body)
    → came_along n tx body ≤ sends_of (is_commit n tx) (lqh_table s body).effects.sends
lqh_commits n tx s (Chain (Commit other key epoch chain at)) = commit_passed n tx s other key epoch chain at
lqh_commits n tx s _ = omega arith

few_along : (n : ℕ) (tx : TxId) (to : Place) (body : Body) → is_tc to.block ≡ false
    → one_if (is_commit n tx to body) ≤ came_along n tx body
few_along n tx to (Chain (Commit other key epoch chain at)) e = and_few (is_lqh to.block && is_node n to.node) _
few_along n tx to (Chain (Committed other key)) e =
    omega (arith, ap (λ b. one_if ((b && (to.node == tx.tc)) && same_tx other tx)) e)
few_along n tx to _ e = omega arith

few_answers : (n : ℕ) (tx : TxId) (to : Place) (body : Body) → is_lqh to.block ≡ false
    → one_if (is_commit n tx to body) ≤ came_in tx body
few_answers n tx to (Chain (Commit other key epoch chain at)) e =
    omega (
      arith,
      ap (λ b. one_if ((b && is_node n to.node)
          && (same_tx other tx && (is_good n chain && nat_lt at (length chain))))) e,
    )
few_answers n tx to (Chain (Committed other key)) e = and_few (is_tc to.block && (to.node == tx.tc)) _
few_answers n tx to _ e = omega arith

-- it is for rows of a node, or for the transaction's coordinator
none_at : (n : ℕ) (tx : TxId) (to : Place) (body : Body) → (is_lqh to.block && is_node n to.node) ≡ false
    → (is_tc to.block && (to.node == tx.tc)) ≡ false → one_if (is_commit n tx to body) ≡ 0
none_at n tx to (Chain (Commit other key epoch chain at)) p q =
    ap (λ b. one_if (b && (same_tx other tx && (is_good n chain && nat_lt at (length chain))))) p
none_at n tx to (Chain (Committed other key)) p q = ap (λ b. one_if (b && same_tx other tx)) q
none_at n tx to _ p q = refl

commit_low : (start : Start) (tx : TxId) → tx.tc ≤ start.shape.nodes → (to : Place) (body : Body)
    → is_commit (start.shape.nodes + 1) tx to body ≡ true → host_for start to < first_hosts start
commit_low start tx low to (Chain (Commit other key epoch chain at)) e =
    let node = right_of (is_lqh to.block) (is_node (start.shape.nodes + 1) to.node)
    (left_of (is_lqh to.block && is_node (start.shape.nodes + 1) to.node) _ e) in
    let under : to.node < start.shape.nodes + 1 =
    grind (arith, nat_tests, right_of (nat_lt 0 to.node) (nat_lt to.node (start.shape.nodes + 1)) node) in
    reaches start to (omega (arith, under))
commit_low start tx low to (Chain (Committed other key)) e =
    reaches start to
    (omega (
      arith,
      low,
      eqb-true to.node tx.tc
          (right_of (is_tc to.block) (to.node == tx.tc) (left_of (is_tc to.block && (to.node == tx.tc)) _ e)),
    ))
commit_low start tx low to _ e = cc

-- what goes on goes on at a place
cont_is : (n : ℕ) (tx : TxId) (a : ℕ) (to : Place) (body : Body) → is_cont tx a to body ≡ true
    → cont_in tx body ≡ Some a
cont_is n tx a to (Host (Continue (work.Transaction other) at)) e =
    let rest = right_of (is_tc to.block && (to.node == tx.tc)) (same_tx other tx && (at == a)) e in
    ap (λ b. at_if b at) (left_of (same_tx other tx) (at == a) rest)
    ∙ ap (λ k. Some k) (eqb-true at a (right_of (same_tx other tx) (at == a) rest))
cont_is n tx a to _ e = cc

module _ (start : Start) (shape : IsShape start.shape) (tx : TxId) where
  -- the first number behind those of the nodes, and the host of the transaction's coordinator
  abbrev nodes : ℕ
  nodes = start.shape.nodes + 1

  abbrev at : ℕ
  at = home start tx

  good : (key : List ℕ) → is_chain nodes (chain_of (first_layout start.shape) key) ≡ true
  good key =
      let some = chain_some start.shape shape key in
      true_and (is_good nodes (chain_of (first_layout start.shape) key))
      (nat_lt 0 (length (chain_of (first_layout start.shape) key))) (good_chain start.shape shape key)
      (grind (arith, nat_tests, some))

  -- what is known of the transactions of a coordinator, and what a step makes of them
  abbrev AreKnown : TcState → Type 0
  AreKnown s = Each (λ (e : TxId × Transaction). IsKnown nodes e.1) s.live

  owes : (h : ℕ) (log : List HostStep) (body : Body) → has_tc (after start h log) ≡ true
      → AreKnown (tc_of (after start h log))
      → StepOwes nodes tx (tc_of (after start h log)) (tc_table (tc_of (after start h log)) body).state
      (tc_table (tc_of (after start h log)) body).effects.sends (came_in tx body) (cont_in tx body)
  owes h log body on known =
      let x = at_tc start tx h log in
      tc_owes nodes tx (tc_of (after start h log)) body known x.once x.own
      (subst (λ (l : Layout). (key : List ℕ) → is_chain nodes (chain_of l key) ≡ true)
      (sym (tc_layout start h log on)) good)

  known_after : (h : ℕ) (log : List HostStep) → AreKnown (tc_of (after start h log))
  known_after h [] =
      subst (λ live. Each (λ (e : TxId × Transaction). IsKnown nodes e.1) live) (sym (first_live start h)) tt
  known_after h (e ∷ log) = by (known_after h log) (tc_step (after start h log) e.step.taken)
    where
      by : AreKnown (tc_of (after start h log))
          → IsTcStep (after start h log) e.step.taken (step_after start h log e)
          ⊎ (tc_of (step_after start h log e).state ≡ tc_of (after start h log))
          → AreKnown (tc_of (step_after start h log e).state)
      by known (inl step) = subst AreKnown (sym step.state) (owes h log e.step.taken.body step.runs known).known
      by known (inr same) = subst AreKnown (sym same) known

  abbrev IsAwaited : (ℕ → List HostStep) → ℕ → ℕ → Type 0
  IsAwaited logs l k = IsOwed start tx (is_commit nodes tx) logs l 0 k

  abbrev AllOwed : (ℕ → List HostStep) → Type 0
  AllOwed logs =
      (u : Transaction) (epoch k : ℕ) → IsLiveAs tx u
      (after start at (logs at)) → u.phase ≡ Committing epoch k → IsAwaited logs (length u.touched) k

  -- a step at the transaction's home is as the coordinator's row says, or leaves its transactions
  data AtHome (s now : TcState) (u : Transaction) (sends : List Outgoing) (k : ℕ) (to : Place)
      (body : Body) : Type 0 where
    owed : (at : Option ℕ) (came : ℕ) → one_if (is_commit nodes tx to body) ≤ came
        → ((a : ℕ) → is_cont tx a to body ≡ true → at ≡ Some a) → OwesOf nodes tx s u sends k came at
        → AtHome s now u sends k to body
    kept : IsIn (tx, u) s.live → one_if (is_commit nodes tx to body) ≤ sends_of (is_commit nodes tx) sends
        → ((a : ℕ) → is_cont tx a to body ≡ false) → AtHome s now u sends k to body

  home_next : (logs now : ℕ → List HostStep) (x next : TcState) (u : Transaction) (epoch k : ℕ) (sends : List Outgoing)
      (to : Place) (body : Body)
      → HomeStep start tx (is_commit nodes tx) logs now sends to body
      → Each (λ (e : TxId × Transaction). IsKnown nodes e.1) x.live
      → ((t : Transaction) (f m : ℕ) → IsIn (tx, t) x.live → t.phase ≡ Committing f m
      → IsAwaited logs (length t.touched) m)
      → u.phase ≡ Committing epoch k → AtHome x next u sends k to body → IsAwaited now (length u.touched) k
  home_next logs now x next u epoch k sends to body f known all is (kept i less none) =
      waits_owed start tx (is_commit nodes tx) logs now sends to body f (length u.touched) 0 k 0 k (omega (arith, less))
      (λ b low. none b) (all u epoch k i is)
  home_next logs now x next u epoch k sends to body f known all is (owed at came less cont of) = go of.owes
    where
      not_cont : (a : ℕ) → (at ≡ Some a → ⊥) → is_cont tx a to body ≡ false
      not_cont a fails = by (is_cont tx a to body) refl
        where
          by : (b : Bool) → is_cont tx a to body ≡ b → is_cont tx a to body ≡ false
          by false e = e
          by true e = absurd (fails (cont a e))

      no_some : at ≡ None → (a : ℕ) → at ≡ Some a → ⊥
      no_some none a some = absurd (other (sym none ∙ some))
        where
          other : None ≡ Some a → ⊥
          other q = cc

      go : Owes nodes tx of.before u sends k came at → IsAwaited now (length u.touched) k
      go (begins none_came none l parts) =
          begun_owed start tx (is_commit nodes tx) logs now sends to body f (length u.touched) 0 k
          (omega (arith, less, none_came)) (not_cont PORTION (no_some none PORTION)) (omega (arith, l))
          (first_part parts)
        where
          first_part : ((PORTION < length u.touched) × (PORTION ≤ sends_of (is_commit nodes tx) sends)
              × (1 ≤ sends_of (is_cont tx PORTION) sends)) ⊎ (length u.touched ≤ sends_of (is_commit nodes tx) sends)
              → IsPart (is_commit nodes tx) tx (length u.touched) 0 sends
          first_part (inl p) = inl p
          first_part (inr p) = inr (omega (arith, p))
      go (waits other before was none le same) =
          subst (λ n. IsAwaited now n k) (sym (ap length same))
          (waits_owed start tx (is_commit nodes tx) logs now sends to body f (length of.before.touched) 0 before 0 k
          (omega (arith, le, less)) (λ b low. not_cont b (no_some none b))
          (all of.before other before of.inside was))
      go (goes_on other a some none_came was same parts) =
          continued_owed start tx (is_commit nodes tx) logs now sends to body f (length u.touched) 0 k a few_touched
          (omega (arith, less, none_came))
          (λ b differs. not_cont b (differs_some b differs)) parts
          (subst (λ n. IsAwaited logs n k) (sym (ap length same)) (all of.before other k of.inside was))
        where
          few_touched : length u.touched ≤ SENDS
          few_touched =
              omega (
                arith,
                (each_in (λ (e : TxId × Transaction). IsKnown nodes e.1)
                    (tx, of.before) x.live known of.inside).few,
                ap length same,
              )

          differs_some : (b : ℕ) → b ≢ a → at ≡ Some b → ⊥
          differs_some b differs q = differs (the_a (sym q ∙ some))
            where
              the_a : Some b ≡ Some a → b ≡ a
              the_a r = cc

  module _ (some_node : 1 ≤ tx.tc) (few_nodes : tx.tc ≤ start.shape.nodes) where
    low : at < first_hosts start
    low = host_below start (coordinator_of tx) some_node few_nodes

    -- a step of a host
    module _ (logs now : ℕ → List HostStep) (h : ℕ) (e : HostStep) (g : Goes start logs now h e) where
      abbrev x : Signal
      x = e.step.taken

      abbrev came : ℕ
      came = one_if (is_commit nodes tx x.to x.body)

      abbrev sends : List Outgoing
      sends = (step_after start h (logs h) e).effects.sends

      -- what isn't for the coordinator is passed on
      passed : (is_tc x.to.block && (x.to.node == tx.tc)) ≡ false → came ≤ sends_of (is_commit nodes tx) sends
      passed away = by (is_lqh x.to.block && is_node nodes x.to.node) refl
        where
          by : (b : Bool) → (is_lqh x.to.block && is_node nodes x.to.node) ≡ b
              → came ≤ sends_of (is_commit nodes tx) sends
          by false none = omega (arith, none_at nodes tx x.to x.body none away)
          by true on =
              rows
              (rows_turn (after start h (logs h)) x
              (heard_rows start h (logs h) x.to (addressed start logs now h e g) on))
            where
              rows : IsRowsStep (after start h (logs h)) x (step_after start h (logs h) e)
                  ⊎
                  ((lqh_of (step_after start h (logs h) e).state ≡ lqh_of (after start h (logs h)))
                  × (is_lqh x.to.block ≡ false)) → came ≤ sends_of
                  (is_commit nodes tx) sends
              rows (inr other) =
                  absurd (true≢false (sym (left_of (is_lqh x.to.block) (is_node nodes x.to.node) on) ∙ other.1))
              rows (inl step) =
                  omega (
                    arith,
                    few_along nodes tx x.to x.body (ap is_tc step.at),
                    lqh_commits nodes tx (lqh_of (after start h (logs h))) x.body,
                    ap (λ f. sends_of (is_commit nodes tx) f.sends) step.effects,
                  )

    own_step : (logs now : ℕ → List HostStep) (e : HostStep) → Goes start logs now at e → AllOwed logs → AllOwed now
    own_step logs now e g all u epoch k live is =
        home_next logs now (tc_of (after start at (logs at))) (tc_of (step_after start at (logs at) e).state) u epoch k
        (step_after start at (logs at) e).effects.sends e.step.taken.to e.step.taken.body
        (home_step start tx (is_commit nodes tx) (commit_low start tx few_nodes) logs now e g)
        (known_after at (logs at)) all is
        (by (tc_turn (after start at (logs at)) e.step.taken (tc_runs start tx.tc (logs at) some_node few_nodes)))
      where
        live_now : IsLiveAs tx u (step_after start at (logs at) e).state
        live_now = subst (λ log. IsLiveAs tx u (after start at log)) g.own live

        by : IsTcStep (after start at (logs at)) e.step.taken (step_after start at (logs at) e)
            ⊎
            ((tc_of (step_after start at (logs at) e).state ≡ tc_of (after start at (logs at)))
            × (is_tc e.step.taken.to.block ≡ false))
            → AtHome (tc_of (after start at (logs at))) (tc_of (step_after start at (logs at) e).state) u
            (step_after start at (logs at) e).effects.sends k e.step.taken.to e.step.taken.body
        by (inl step) =
            owed (cont_in tx e.step.taken.body) (came_in tx e.step.taken.body)
            (few_answers nodes tx e.step.taken.to e.step.taken.body (ap is_lqh step.at))
            (λ a c. cont_is nodes tx a e.step.taken.to e.step.taken.body c)
            (subst (λ f. OwesOf nodes tx (tc_of (after start at (logs at))) u f.sends k
            (came_in tx e.step.taken.body) (cont_in tx e.step.taken.body)) (sym step.effects)
            ((owes at (logs at) e.step.taken.body step.runs (known_after at (logs at))).owes u epoch k
            (subst (λ (t : TcState). IsIn (tx, u) t.live) step.state live_now) is))
        by (inr other) =
            kept (subst (λ (t : TcState). IsIn (tx, u) t.live) other.0 live_now)
            (passed logs now at e g (ap (λ b. b && (e.step.taken.to.node == tx.tc)) other.1))
            (λ a. cont_block tx a e.step.taken.to e.step.taken.body other.1)

    step : (logs now : ℕ → List HostStep) (h : ℕ) (e : HostStep) → Goes start logs now h e → AllOwed logs → AllOwed now
    step logs now h e g all = goes_cases start logs now h e g at (λ own. own_step logs now e own all) other
      where
        other : h ≢ at → now at ≡ logs at → AllOwed now
        other differs log_is = λ u epoch k live is.
            stays_owed start tx (is_commit nodes tx) logs now (length u.touched) 0 k
            (omega (
              arith,
              s_more start tx (is_commit nodes tx)
                  (commit_low start tx few_nodes) logs now h e g,
              t_more start tx (is_commit nodes tx)
                  (commit_low start tx few_nodes) logs now h e g,
              passed logs now h e g (away _ refl),
            ))
            (λ b low. omega (
              arith,
              ap (λ log. signals (is_cont tx b) (taken (machine start) at log)) log_is,
              ap (λ log. signals (is_cont tx b) (sent (machine start) at at log)) log_is,
            ))
            (all u epoch k (subst (λ log. IsLiveAs tx u (after start at log)) log_is live) is)
          where
            away : (b : Bool) → (is_tc e.step.taken.to.block && (e.step.taken.to.node == tx.tc)) ≡ b
                → (is_tc e.step.taken.to.block && (e.step.taken.to.node == tx.tc)) ≡ false
            away false q = q
            away true q =
                absurd (differs (sym (addressed start logs now h e g) ∙ home_place start tx e.step.taken.to q))

    first : AllOwed (log_of (machine start) [])
    first u epoch k live is = absurd (subst (λ l. IsIn (tx, u) l) (first_live start at) live)

    -- at quiet
    none_commits : (logs : ℕ → List HostStep) → AreQuiet start logs → (t : Transaction) (epoch k : ℕ)
        → IsLiveAs tx t (after start at (logs at)) → t.phase ≡ Committing epoch k → ⊥
    none_commits logs quiet t epoch k live is =
        none_owed start tx (is_commit nodes tx) logs (length t.touched) k quiet low some
        (along start AllOwed first step logs quiet.within quiet.right t epoch k live is)
      where
        some : 1 ≤ k
        some = (each_in (λ (e : TxId × Transaction). IsKnown nodes e.1) (tx, t) (tc_of (after start at (logs at))).live
            (known_after at (logs at)) live).some epoch k is

-- at quiet no coordinator waits for a commit
pub no_commit : NoCommitIsAwaited
no_commit start logs h tx t quiet low live = go t.phase refl
  where
    there : tx_at tx (after start h (logs h)) ≡ Some t
    there = live_tx start tx h (logs h) t live

    of : IsHome start tx h
    of = at_home start tx h (logs h) t low there

    go : (phase : Phase) → t.phase ≡ phase → is_committing t.phase ≡ false
    go (Committing epoch k) p =
        absurd
        (none_commits start quiet.shape tx of.some of.low logs quiet t epoch k
        (subst (λ j. IsLiveAs tx t (after start j (logs j))) of.is live) p)
    go Open p = ap is_committing p
    go Verifying p = ap is_committing p
    go (Completing epoch k) p = ap is_committing p
    go (Aborting why verifying k) p = ap is_committing p
