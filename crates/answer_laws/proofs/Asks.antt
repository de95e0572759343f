-- Where a coordinator's transaction has an operation unanswered, the API has sent one.
use Rattle.std.proofs.Common.{◌≡◌, ◌≢◌, ◌⊎◌, ℕ, zero, suc, ◌+◌, ◌<◌, ◌≤◌, List, [], ◌∷◌, Bool, true, false, refl, ap}
use Rattle.std.proofs.Common.{sym, ◌∙◌, arith, inl, inr}
use Rattle.std.specs.Prelude.{◌==◌, ◌&&◌, is_some, Some}
use Rattle.std.proofs.lemmas.Bool.{cases_lt, false≢true}
use Rattle.std.proofs.lemmas.Bool.Decides.{nat_tests}
use Rattle.run_theory.specs.Links.{is_from, sent, taken}
use Rattle.run_theory.specs.Lists.{IsIn}
use Rattle.sig_core.specs.declared.member.TxId.{TxId}
use Rattle.sig_core.specs.declared.outs.Outgoing.{Outgoing}
use Rattle.sig_core.specs.declared.place.BlockId.{BlockId}
use Rattle.sig_core.specs.declared.place.BlockId.TheVariants as block
use Rattle.sig_core.specs.declared.signal.Body.{Body}
use Rattle.sig_core.specs.declared.signal.Body.TheVariants.{Client}
use Rattle.sig_core.specs.declared.signal.Signal.{Signal}
use Rattle.sig_core.specs.declared.signal.client.ClientSignal.TheVariants.{TcKeyReq, TcKeyConf}
use Rattle.sig_core.specs.declared.view.View.{View}
use Rattle.sig_core.specs.Step.{Step}
use Rattle.api_block.specs.declared.opened.OpenTransaction.{OpenTransaction}
use Rattle.api_block.specs.Opened.{has_tx, is_tx}
use Rattle.api_block.specs.State.{ApiState}
use Rattle.lqh_block.specs.Lqh.{lqh_table}
use Rattle.node_core.specs.declared.host.Host as host
use Rattle.node_core.proofs.HostCases.{BlockCase, api_takes, block_case, dih_takes, none_takes, of_effects, rows_take}
use Rattle.node_core.proofs.HostCases.{tc_takes}
use Rattle.node_core.specs.Blocks.{api_of, dih_of, has_api, lqh_of, tc_of}
use Rattle.node_core.specs.Dih.{dih_table}
use Rattle.node_core.specs.Requests.{is_request}
use Rattle.node_core.specs.Row.{row, shell_row}
use Rattle.tc_block.specs.State.{TcState}
use Rattle.tc_block.specs.Tc.{tc_table}
use Rattle.world_core.specs.Hosts.{home, first_hosts}
use Rattle.world_core.specs.Machine.{after, machine, step_after}
use Rattle.world_core.specs.Start.{Start}
use Rattle.world_core.specs.Steps.{HostStep}
use Rattle.sig_core.proofs.Keys.{same_tx-self}
use Rattle.host_laws.proofs.rows.Operations.{right_of}
use Rattle.run_laws.proofs.hosts.AlongSteps.{few_taken}
use Rattle.answer_laws.proofs.ApiKeys.{api_keys, keys_in, operates}
use Rattle.host_laws.proofs.api.Moves.{ApiMove, api_moves, begun_as, ends, goes, is_api_kind, opens, refuses, rests}
use Rattle.host_laws.proofs.hosts.DihSends.{dih_kinds}
use Rattle.host_laws.proofs.hosts.ShellHost.{opened_next, shell_after, shell_sends}
use Rattle.host_laws.proofs.hosts.BlocksAlong.{first_live, no_api}
use Rattle.host_laws.proofs.hosts.LinkCounts.{all_three, few_sends, sent_signals, shell_signals, signals, steps}
use Rattle.host_laws.proofs.hosts.LinkCounts.{steps_from, taken_signals, to_host}
use Rattle.answer_laws.proofs.Lives.{holds_at, once_started}
use Rattle.host_laws.proofs.rows.Sends.{lqh_kinds}
use Rattle.host_laws.proofs.hosts.SendKinds.{are_of, is_dih_kind, is_lqh_kind, is_tc_kind, none_of}
use Rattle.run_theory.proofs.Tally.{Counted, counted, none_if, only_one, tally_in}
use Rattle.run_theory.specs.Counts.{one_if, tally}
use Rattle.host_laws.proofs.coordinator.Keys.{answer_of, answers_in, is_answer, is_asked, is_key, key_of_tx, tc_fair}
use Rattle.host_laws.proofs.coordinator.Moves.{end_of, is_end}
use Rattle.answer_laws.proofs.Totals.{spread_few}
use Rattle.host_laws.proofs.hosts.Sums.{total_add, total_at, total_le, total_same}
use Rattle.run_theory.specs.Counts.{total}
use Rattle.host_laws.proofs.api.Wishes.{and_false, is_api, is_tc, second_fails, sends_of, to_node, tc_none}
use Rattle.answer_laws.specs.Answered.{AreQuiet, EachAsksWhereOperating, is_operating}
use Rattle.host_laws.specs.OpenedAfter.{opened_after, opened_in}

no_answer_dih : (tx : TxId) (body : Body) → is_dih_kind body ≡ true → answer_of tx body ≡ false
no_answer_dih tx (Client (TcKeyConf other answer)) e = cc
no_answer_dih tx _ e = refl

no_answer_lqh : (tx : TxId) (body : Body) → is_lqh_kind body ≡ true → answer_of tx body ≡ false
no_answer_lqh tx (Client (TcKeyConf other answer)) e = cc
no_answer_lqh tx _ e = refl

no_answer_api : (tx : TxId) (body : Body) → is_api_kind body ≡ true → answer_of tx body ≡ false
no_answer_api tx (Client (TcKeyConf other answer)) e = cc
no_answer_api tx _ e = refl

no_key_dih : (tx : TxId) (body : Body) → is_dih_kind body ≡ true → key_of_tx tx body ≡ false
no_key_dih tx (Client (TcKeyReq other op)) e = cc
no_key_dih tx _ e = refl

no_key_lqh : (tx : TxId) (body : Body) → is_lqh_kind body ≡ true → key_of_tx tx body ≡ false
no_key_lqh tx (Client (TcKeyReq other op)) e = cc
no_key_lqh tx _ e = refl

no_key_tc : (tx one : TxId) (body : Body) → is_tc_kind one body ≡ true → key_of_tx tx body ≡ false
no_key_tc tx one (Client (TcKeyReq other op)) e = cc
no_key_tc tx one _ e = refl

pub plain_key : (tx : TxId) (body : Body) → key_of_tx tx body ≡ true → is_request body ≡ false
plain_key tx (Client (TcKeyReq other op)) e = refl
plain_key tx _ e = cc

pub plain_answer : (tx : TxId) (body : Body) → answer_of tx body ≡ true → is_request body ≡ false
plain_answer tx (Client (TcKeyConf other answer)) e = refl
plain_answer tx _ e = cc

-- a host that doesn't run the API sends no operation to a coordinator
tc_no_key : (tx : TxId) (s : TcState) (body : Body) → sends_of (is_key tx) (tc_table s body).effects.sends ≡ 0
tc_no_key tx =
    tc_none (is_key tx) (λ one to b k. second_fails (is_tc to.block) (no_key_tc tx one b k)) (λ name. refl)
    (λ name other. refl)

host_no_key : (tx : TxId) (s : host.Host) (x : Signal) → has_api s ≡ false
    → sends_of (is_key tx) (row s x).effects.sends ≡ 0
host_no_key tx s x other =
    of_effects (λ f. sends_of (is_key tx) f.sends ≡ 0) s x refl
    (record {
      api = λ runs at. absurd (false≢true (sym other ∙ runs));
      tc = λ runs at. tc_no_key tx (tc_of s) x.body;
      dih = λ runs at. none_of is_dih_kind (is_key tx) (λ to b k. second_fails (is_tc to.block) (no_key_dih tx b k))
          (dih_table (dih_of s) x.body).effects.sends (dih_kinds (dih_of s) x.body);
      rows = λ runs at. none_of is_lqh_kind (is_key tx) (λ to b k. second_fails (is_tc to.block) (no_key_lqh tx b k))
          (lqh_table (lqh_of s) x.body).effects.sends (lqh_kinds (lqh_of s) x.body);
    })

-- the API answers nothing
no_answers_api : (tx : TxId) (sends : List Outgoing) → are_of is_api_kind sends ≡ true → answers_in tx sends ≡ 0
no_answers_api tx sends kind =
    none_of is_api_kind (to_node 0 (is_answer tx))
    (λ to b k. and_false (to.node == 0) (is_api to.block) (no_answer_api tx b k)) sends kind

move_answers : (tx : TxId) (s : ApiState) (body : Body) (after : View × List OpenTransaction) (sends : List Outgoing)
    → ApiMove s body after sends → answers_in tx sends ≡ 0
move_answers tx s body after sends (rests is kind void) = no_answers_api tx sends kind
move_answers tx s body after sends (opens other at op new request is told) = ap (answers_in tx) told ∙ none_if (at == 0)
move_answers tx s body after sends (begun_as other one front t u back about passes begun was is kind) =
    no_answers_api tx sends kind
move_answers tx s body after sends (goes front t u back go void was is kind) = no_answers_api tx sends kind
move_answers tx s body after sends (ends one front t back about passes was is kind) = no_answers_api tx sends kind
move_answers tx s body after sends (refuses other front t back about passes was is kind) = no_answers_api tx sends kind

-- what a host has unanswered, or answers, it had unanswered, or it came
host_fair : (tx : TxId) (s : host.Host) (x : Signal)
    → tally (is_asked tx) (tc_of (row s x).state).live + answers_in tx (row s x).effects.sends ≤ tally (is_asked tx)
    (tc_of s).live + one_if (is_key tx x.to x.body)
host_fair tx s x = go (row s x) (block_case s x)
  where
    still : (t : Step host.Host) → tc_of t.state ≡ tc_of s → answers_in tx t.effects.sends ≡ 0
        → tally (is_asked tx) (tc_of t.state).live + answers_in tx t.effects.sends ≤ tally (is_asked tx)
        (tc_of s).live + one_if (is_key tx x.to x.body)
    still t same none = omega (arith, none, ap (λ (u : TcState). tally (is_asked tx) u.live) same)

    go : (t : Step host.Host) → BlockCase s x t
        → tally (is_asked tx) (tc_of t.state).live + answers_in tx t.effects.sends ≤ tally (is_asked tx)
        (tc_of s).live + one_if (is_key tx x.to x.body)
    go t (tc_takes step) =
        omega (
          arith,
          tc_fair tx (tc_of s) x.body,
          ap (λ (u : TcState). tally (is_asked tx) u.live) step.state,
          ap (λ f. answers_in tx f.sends) step.effects,
          ap (λ b. one_if (is_tc b && key_of_tx tx x.body)) step.at,
        )
    go t (api_takes step) =
        still t step.tc (ap (λ f. answers_in tx f.sends) step.effects
        ∙ move_answers tx (api_of s) x.body _ _ (api_moves (api_of s) x.body))
    go t (dih_takes step) =
        still t step.tc
        (ap (λ f. answers_in tx f.sends) step.effects
        ∙ none_of is_dih_kind (to_node 0 (is_answer tx))
        (λ to b k. and_false (to.node == 0) (is_api to.block) (no_answer_dih tx b k))
        (dih_table (dih_of s) x.body).effects.sends (dih_kinds (dih_of s) x.body))
    go t (rows_take step) =
        still t step.tc
        (ap (λ f. answers_in tx f.sends) step.effects
        ∙ none_of is_lqh_kind (to_node 0 (is_answer tx))
        (λ to b k. and_false (to.node == 0) (is_api to.block) (no_answer_lqh tx b k))
        (lqh_table (lqh_of s) x.body).effects.sends (lqh_kinds (lqh_of s) x.body))
    go t (none_takes step) =
        still t (ap (λ (u : Step host.Host). tc_of u.state) step.is)
        (ap (λ (u : Step host.Host). answers_in tx u.effects.sends) step.is)

shell_fair : (tx : TxId) (s : ApiState) (at : BlockId) (x : Signal)
    → tally (operates tx) s.opened + keys_in tx (shell_row s at x).effects.sends ≤ tally (operates tx)
    (shell_row s at x).state.opened +
    (one_if (is_api at && answer_of tx x.body) + one_if (is_api at && end_of tx x.body))
unfolding shell_row
shell_fair tx s block.Api x = api_keys tx s x.body
shell_fair tx s _ x = omega arith

module _ (start : Start) (tx : TxId) where
  -- how many operations of the transaction a host's coordinator has unanswered
  abbrev asked_at : host.Host → ℕ
  asked_at s = tally (is_asked tx) (tc_of s).live

  -- what is asked or answered was asked for
  pub host_asked : (h : ℕ) (log : List HostStep)
      → asked_at (after start h log) + signals (is_answer tx) (sent (machine start) h 0 log) ≤ steps (is_key tx) log
  host_asked h [] = omega (arith, ap (tally (is_asked tx)) (first_live start h))
  host_asked h (e ∷ log) =
      omega (
        arith,
        host_asked h log,
        host_fair tx (after start h log) e.step.taken,
        shell_signals start (is_answer tx) h e log,
      )

  pub host_silent : (h j : ℕ) (log : List HostStep) → h ≢ 0 → signals (is_key tx) (sent (machine start) h j log) ≡ 0
  host_silent h j [] other = refl
  host_silent h j (e ∷ log) other =
      omega (
        arith,
        host_silent h j log other,
        sent_signals start (is_key tx) h j e log,
        few_sends start j (is_key tx) (step_after start h log e).effects.sends,
        host_no_key tx (after start h log) e.step.taken (no_api start h log other),
      )

  -- what the API has sent is answered or over, or operates
  shell_operates : (n : ℕ) (log : List HostStep)
      → total n (λ j. signals (is_key tx) (sent (machine start) 0 j log)) ≤ tally (operates tx)
      (opened_in (after start 0 log)) + (steps (is_answer tx) log + steps (is_end tx) log)
  shell_operates n [] = zeros n
    where
      zeros : (m : ℕ) → total m (λ j. 0) ≤ tally (operates tx) (opened_in (after start 0 [])) + (0 + 0)
      zeros zero = omega arith
      zeros (suc m) = omega (arith, zeros m)
  shell_operates n (e ∷ log) =
      omega (
        arith,
        shell_operates n log,
        shell_fair tx s e.step.taken.to.block e.step.taken,
        spread_few start n (is_key tx) (shell_row s e.step.taken.to.block e.step.taken).effects.sends,
        total_now,
        ap (λ g. tally (operates tx) (opened_in g)) (shell_after start log).is,
        ap (tally (operates tx)) (opened_next start e log),
      )
    where
      s : ApiState
      s = (shell_after start log).state

      total_now : total n (λ j. signals (is_key tx) (sent (machine start) 0 j (e ∷ log)))
          ≡ total n (λ j. sends_of (to_host start j (is_key tx))
          (shell_row s e.step.taken.to.block e.step.taken).effects.sends) + total n
          (λ j. signals (is_key tx) (sent (machine start) 0 j log))
      total_now =
          total_same n (λ j. signals (is_key tx) (sent (machine start) 0 j (e ∷ log)))
          (λ j. sends_of (to_host start j (is_key tx))
          (shell_row s e.step.taken.to.block e.step.taken).effects.sends + signals (is_key tx)
          (sent (machine start) 0 j log))
          (λ j low. sent_signals start (is_key tx) 0 j e log
          ∙ ap (λ xs. sends_of (to_host start j (is_key tx)) xs + signals (is_key tx)
          (sent (machine start) 0 j log)) (shell_sends start e log))
          ∙ total_add n (λ j. sends_of (to_host start j (is_key tx))
          (shell_row s e.step.taken.to.block e.step.taken).effects.sends)
          (λ j. signals (is_key tx) (sent (machine start) 0 j log))

  -- steps that took an answer took it from some host
  steps_total : (n : ℕ) (log : List HostStep)
      → ((k : ℕ) → n ≤ k → signals (is_answer tx) (taken (machine start) k log) ≡ 0)
      → steps (is_answer tx) log ≤ total n (λ i. signals (is_answer tx) (taken (machine start) i log))
  steps_total n [] none = omega arith
  steps_total n (e ∷ log) none =
      go (is_answer tx e.step.taken.to e.step.taken.body) refl
      (steps_total n log (λ k high. omega (arith, none k high, taken_signals start (is_answer tx) k e log)))
    where
      from : is_answer tx e.step.taken.to e.step.taken.body ≡ true
          → (is_from (machine start) e.step.taken.from.0 e && is_answer tx e.step.taken.to e.step.taken.body) ≡ true
      from is =
          all_three (is_request e.step.taken.body) (e.step.taken.from.0 == e.step.taken.from.0)
          (is_answer tx e.step.taken.to e.step.taken.body)
          (plain_answer tx e.step.taken.body
          (right_of (is_api e.step.taken.to.block) (answer_of tx e.step.taken.body) is))
          (grind (arith, nat_tests)) is

      more : total n (λ i. signals (is_answer tx) (taken (machine start) i log)) + total n
          (λ i. one_if (is_from (machine start) i e && is_answer tx e.step.taken.to e.step.taken.body))
          ≡ total n (λ i. signals (is_answer tx) (taken (machine start) i (e ∷ log)))
      more =
          sym (total_same n (λ i. signals (is_answer tx) (taken (machine start) i (e ∷ log)))
          (λ i. signals (is_answer tx) (taken (machine start) i log) + one_if
          (is_from (machine start) i e && is_answer tx e.step.taken.to e.step.taken.body))
          (λ i low. omega (arith, taken_signals start (is_answer tx) i e log))
          ∙ total_add n (λ i. signals (is_answer tx) (taken (machine start) i log))
          (λ i. one_if (is_from (machine start) i e && is_answer tx e.step.taken.to e.step.taken.body)))

      go : (b : Bool) → is_answer tx e.step.taken.to e.step.taken.body ≡ b
          → steps (is_answer tx) log ≤ total n (λ i. signals (is_answer tx) (taken (machine start) i log))
          → one_if b + steps (is_answer tx) log ≤ total n
          (λ i. signals (is_answer tx) (taken (machine start) i (e ∷ log)))
      go false is less = omega (arith, less, more)
      go true is less = at (cases_lt e.step.taken.from.0 n)
        where
          at : (e.step.taken.from.0 < n) ⊎ (n ≤ e.step.taken.from.0)
              → one_if true + steps (is_answer tx) log ≤ total n
              (λ i. signals (is_answer tx) (taken (machine start) i (e ∷ log)))
          at (inl low) = omega (
            arith,
            less,
            more,
            total_at n
                (λ i. one_if (is_from
                (machine start) i e && is_answer tx e.step.taken.to e.step.taken.body)) e.step.taken.from.0 low,
            ap one_if (from is),
          )
          at (inr high) = absurd
              (omega (
                arith,
                none e.step.taken.from.0 high,
                taken_signals start (is_answer tx) e.step.taken.from.0 e log,
                ap one_if (from is),
              ))

  -- at quiet
  module _ (logs : ℕ → List HostStep) (quiet : AreQuiet start logs) where
    each_asked : (i : ℕ)
        → asked_at (after start i (logs i)) + signals (is_answer tx) (sent (machine start) i 0 (logs i)) ≤ signals
        (is_key tx) (sent (machine start) 0 i (logs 0))
    each_asked i =
        omega (
          arith,
          host_asked i (logs i),
          few_taken start logs quiet.right (is_key tx) 0 i,
          steps_from start (is_key tx) 0
              (λ to body e. plain_key tx body (right_of (is_tc to.block) (key_of_tx tx body) e)) (logs i)
              (λ k other. omega (
                arith,
                host_silent k i (logs k) other,
                few_taken start logs quiet.right (is_key tx) k i,
              )),
        )

    all_asked : total (first_hosts start) (λ i. asked_at (after start i (logs i))) + total (first_hosts start)
        (λ i. signals (is_answer tx) (sent (machine start) i 0 (logs i)))
        ≤ total (first_hosts start) (λ i. signals (is_key tx) (sent (machine start) 0 i (logs 0)))
    all_asked =
        omega (
          arith,
          total_add (first_hosts start) (λ i. asked_at (after start i (logs i)))
              (λ i. signals (is_answer tx) (sent (machine start) i 0 (logs i))),
          total_le (first_hosts start)
              (λ i. asked_at (after start i (logs i)) + signals (is_answer tx) (sent (machine start) i 0 (logs i)))
              (λ i. signals (is_key tx) (sent (machine start) 0 i (logs 0))) (λ i low. each_asked i),
        )

    answers_few : steps (is_answer tx) (logs 0) ≤ total (first_hosts start)
        (λ i. signals (is_answer tx) (sent (machine start) i 0 (logs i)))
    answers_few =
        omega (
          arith,
          steps_total (first_hosts start) (logs 0) beyond,
          total_le (first_hosts start) (λ i. signals (is_answer tx) (taken (machine start) i (logs 0)))
              (λ i. signals (is_answer tx) (sent (machine start) i 0 (logs i)))
              (λ i low. few_taken start logs quiet.right (is_answer tx) i 0),
        )
      where
        beyond : (k : ℕ) → first_hosts start ≤ k → signals (is_answer tx) (taken (machine start) k (logs 0)) ≡ 0
        beyond k high = omega (
          arith,
          few_taken start logs quiet.right (is_answer tx) k 0,
          ap (λ log. signals (is_answer tx) (sent (machine start) k 0 log)) (quiet.within k high),
        )

    asks_where : (t : OpenTransaction) → IsIn t (opened_after start logs) → t.tx ≡ Some tx
        → 1 ≤ asked_at (after start (home start tx) (logs (home start tx))) → is_operating t.doing ≡ true
    asks_where t inside is asks = at_low (cases_lt (home start tx) (first_hosts start))
      where
        passes : has_tx tx t ≡ true
        passes = ap (is_tx tx) is ∙ same_tx-self tx

        held : 1 ≤ tally (has_tx tx) (opened_in (after start 0 (logs 0)))
        held = tally_in (has_tx tx) t (opened_in (after start 0 (logs 0))) inside passes

        not_ended : (0 < steps (is_end tx) (logs 0)) ⊎ (steps (is_end tx) (logs 0) ≤ 0) → steps (is_end tx) (logs 0) ≡ 0
        not_ended (inl some) = absurd (omega (arith, held, (holds_at start tx logs quiet).none (omega (arith, some))))
        not_ended (inr few) = omega (arith, few)

        the_one : 1 ≤ tally (operates tx) (opened_in (after start 0 (logs 0))) → is_operating t.doing ≡ true
        the_one some = here (counted (operates tx) (opened_in (after start 0 (logs 0))) some)
          where
            here : Counted (operates tx) (opened_in (after start 0 (logs 0))) → is_operating t.doing ≡ true
            here c =
                let has : has_tx tx c.item ≡ true = first (is_tx tx c.item.tx) (is_operating c.item.doing) c.passes in
                let same : t ≡ c.item =
                only_one (has_tx tx) (opened_in (after start 0 (logs 0))) t c.item
                (omega (
                  arith,
                  (holds_at start tx logs quiet).few,
                  once_started start tx logs quiet,
                )) inside c.inside passes has in
                ap (λ (u : OpenTransaction). is_operating u.doing) same
                ∙ right_of (is_tx tx c.item.tx) (is_operating c.item.doing) c.passes
              where
                first : (a b : Bool) → (a && b) ≡ true → a ≡ true
                first true b e = refl
                first false b e = e

        at_low : (home start tx < first_hosts start) ⊎ (first_hosts start ≤ home start tx) → is_operating t.doing ≡ true
        at_low (inl low) =
            the_one (omega (
              arith,
              asks,
              all_asked,
              answers_few,
              shell_operates (first_hosts start) (logs 0),
              not_ended (cases_lt 0 (steps (is_end tx) (logs 0))),
              total_at (first_hosts start) (λ i. asked_at (after start i (logs i))) (home start tx) low,
            ))
        at_low (inr high) = absurd
            (omega (
              arith,
              asks,
              ap (λ log. asked_at (after start (home start tx) log)) (quiet.within (home start tx) high),
              ap (tally (is_asked tx)) (first_live start (home start tx)),
            ))

pub each_asks_where_operating : EachAsksWhereOperating
each_asks_where_operating start logs t quiet inside tx u asked is live asks =
    asks_where start tx logs quiet t inside is
    (tally_in (is_asked tx) (tx, u) (tc_of (after start (home start tx) (logs (home start tx)))).live live
    (ap (λ b. b && is_some u.asked) (same_tx-self tx) ∙ ap is_some asks))
