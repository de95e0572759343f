-- Which hosts tell of a transaction: its coordinator alone answers its operations, and the API alone asks for its
-- commit.
use Rattle.std.proofs.Common.{◌≡◌, ◌≢◌, ℕ, ◌≤◌, ◌<◌, List, [], ◌∷◌, Bool, true, false, refl, ap, sym, ◌∙◌, arith}
use Rattle.std.specs.Prelude.{◌==◌, not}
use Rattle.std.proofs.lemmas.Bool.{false≢true}
use Rattle.lqh_block.specs.Lqh.{lqh_table}
use Rattle.node_core.proofs.HostCases.{of_effects}
use Rattle.node_core.specs.Blocks.{dih_of, has_api, lqh_of, tc_of}
use Rattle.node_core.specs.declared.host.Host as host
use Rattle.node_core.specs.Dih.{dih_table}
use Rattle.node_core.specs.Requests.{is_request}
use Rattle.node_core.specs.Row.{row}
use Rattle.run_theory.specs.Links.{sent}
use Rattle.run_theory.specs.Runs.{AreLogs, IsWithin}
use Rattle.sig_core.specs.declared.member.TxId.{TxId}
use Rattle.sig_core.specs.declared.outs.Outgoing.{Outgoing}
use Rattle.sig_core.specs.declared.place.Place.{Place}
use Rattle.sig_core.specs.declared.signal.Body.{Body}
use Rattle.sig_core.specs.declared.signal.Body.TheVariants.{Client}
use Rattle.sig_core.specs.declared.signal.Signal.{Signal}
use Rattle.sig_core.specs.declared.signal.client.ClientSignal.TheVariants.{TcKeyConf, TcCommitReq}
use Rattle.sig_core.specs.Same.{same_tx}
use Rattle.tc_block.specs.State.{TcState}
use Rattle.tc_block.specs.Tc.{tc_table}
use Rattle.world_core.specs.Hosts.{home, first_hosts, tc_host}
use Rattle.world_core.specs.Machine.{after, machine, step_after}
use Rattle.world_core.specs.Start.{Start}
use Rattle.world_core.specs.Steps.{HostStep}
use Rattle.run_laws.proofs.hosts.AlongSteps.{at_home, few_taken, none_else, turn_at}
use Rattle.answer_laws.proofs.ApiEntries.{is_commit_req}
use Rattle.answer_laws.proofs.Asks.{host_asked, host_silent, plain_answer, plain_key}
use Rattle.host_laws.proofs.hosts.DihSends.{dih_kinds}
use Rattle.host_laws.proofs.hosts.BlocksAlong.{at_own_node, no_api}
use Rattle.host_laws.proofs.coordinator.HostTurns.{HostTurn, aside, in_rows, is_aside, starting, turning}
use Rattle.host_laws.proofs.hosts.LinkCounts.{few_sends, sent_signals, shell_signals, signals, steps, steps_from}
use Rattle.run_laws.proofs.causes.Begun.{keeps, plain_start, silent_start}
use Rattle.host_laws.proofs.rows.Operations.{right_of}
use Rattle.host_laws.proofs.rows.Sends.{lqh_kinds}
use Rattle.host_laws.proofs.hosts.SendKinds.{are_of, is_dih_kind, is_lqh_kind, is_tc_kind, none_of}
use Rattle.host_laws.proofs.coordinator.Keys.{answer_of, answers_in, is_answer, is_key, key_of_tx}
use Rattle.host_laws.proofs.coordinator.Lives.{is_start, start_of}
use Rattle.host_laws.proofs.api.Wishes.{and_false, is_api, is_tc, sends_of, to_node, tc_none}

-- what isn't said of the transaction answers none of its operations
pub aside_answers : (tx : TxId) (sends : List Outgoing) → are_of (is_aside tx) sends ≡ true → answers_in tx sends ≡ 0
aside_answers tx sends kind =
    none_of (is_aside tx) (to_node 0 (is_answer tx))
    (λ to b k. and_false (to.node == 0) (is_api to.block) (fails b k)) sends kind
  where
    fails : (b : Body) → is_aside tx b ≡ true → answer_of tx b ≡ false
    fails (Client (TcKeyConf other answer)) e = by (same_tx other tx) e
      where
        by : (b : Bool) → not b ≡ true → b ≡ false
        by true q = absurd (false≢true q)
        by false q = refl
    fails _ e = refl

pub lqh_answers : (tx : TxId) (sends : List Outgoing) → are_of is_lqh_kind sends ≡ true → answers_in tx sends ≡ 0
lqh_answers tx sends kind =
    none_of is_lqh_kind (to_node 0 (is_answer tx))
    (λ to b k. and_false (to.node == 0) (is_api to.block) (fails b k)) sends kind
  where
    fails : (b : Body) → is_lqh_kind b ≡ true → answer_of tx b ≡ false
    fails (Client (TcKeyConf other answer)) e = absurd (false≢true e)
    fails _ e = refl

-- the commit of a transaction is asked for by the API alone
commitless : (tx : TxId) (kind : Body → Bool) → ((other : TxId) → kind (Client (TcCommitReq other)) ≡ false)
    → (sends : List Outgoing) → are_of kind sends ≡ true → sends_of (is_commit_req tx) sends ≡ 0
commitless tx kind none sends all = none_of kind (is_commit_req tx) fails sends all
  where
    fails : (to : Place) (b : Body) → kind b ≡ true → is_commit_req tx to b ≡ false
    fails to (Client (TcCommitReq other)) e = absurd (false≢true (sym (none other) ∙ e))
    fails to _ e = refl

tc_commitless : (tx : TxId) (s : TcState) (body : Body)
    → sends_of (is_commit_req tx) (tc_table s body).effects.sends ≡ 0
tc_commitless tx = tc_none (is_commit_req tx) fails (λ name. refl) (λ name other. refl)
  where
    fails : (one : TxId) (to : Place) (b : Body) → is_tc_kind one b ≡ true → is_commit_req tx to b ≡ false
    fails one to (Client (TcCommitReq other)) e = cc
    fails one to _ e = refl

host_commitless : (tx : TxId) (s : host.Host) (x : Signal) → has_api s ≡ false
    → sends_of (is_commit_req tx) (row s x).effects.sends ≡ 0
host_commitless tx s x other =
    of_effects (λ f. sends_of (is_commit_req tx) f.sends ≡ 0) s x refl
    (record {
      api = λ runs at. absurd (false≢true (sym other ∙ runs));
      tc = λ runs at. tc_commitless tx (tc_of s) x.body;
      dih = λ runs at. commitless tx is_dih_kind (λ one. refl) (dih_table (dih_of s) x.body).effects.sends
          (dih_kinds (dih_of s) x.body);
      rows = λ runs at. commitless tx is_lqh_kind (λ one. refl) (lqh_table (lqh_of s) x.body).effects.sends
          (lqh_kinds (lqh_of s) x.body);
    })

plain_commit : (tx : TxId) (to : Place) (body : Body) → is_commit_req tx to body ≡ true → is_request body ≡ false
plain_commit tx to (Client (TcCommitReq other)) e = refl
plain_commit tx to _ e = cc

module _ (start : Start) (tx : TxId) where
  never_commits : (h j : ℕ) (log : List HostStep) → h ≢ 0
      → signals (is_commit_req tx) (sent (machine start) h j log) ≡ 0
  never_commits h j [] other = refl
  never_commits h j (e ∷ log) other =
      omega (
        arith,
        never_commits h j log other,
        sent_signals start (is_commit_req tx) h j e log,
        few_sends start j (is_commit_req tx) (step_after start h log e).effects.sends,
        host_commitless tx (after start h log) e.step.taken (no_api start h log other),
      )

  -- no other host answers its operations
  pub never_answers : (h : ℕ) (log : List HostStep) → h < first_hosts start → h ≢ home start tx
      → signals (is_answer tx) (sent (machine start) h 0 log) ≡ 0
  never_answers h [] low differs = refl
  never_answers h (e ∷ log) low differs =
      omega (
        arith,
        never_answers h log low differs,
        shell_signals start (is_answer tx) h e log,
        by (turn_at start tx h log e),
      )
    where
      by : HostTurn tx (after start h log) e.step.taken (step_after start h log e)
          → answers_in tx (step_after start h log e).effects.sends ≡ 0
      by (in_rows step) = ap (λ f. answers_in tx f.sends) step.effects
          ∙ lqh_answers tx (lqh_table (lqh_of (after start h log)) e.step.taken.body).effects.sends
          (lqh_kinds (lqh_of (after start h log)) e.step.taken.body)
      by (aside step) = aside_answers tx (step_after start h log e).effects.sends step.kind
      by (starting step) =
          absurd (differs ((at_own_node start h log low step.runs).is
          ∙ ap (tc_host start) (sym (ap (λ (v : TxId). v.tc) step.one))))
      by (turning step) = absurd (differs (at_home start tx h log step.was low step.there).is)

  module _ (logs : ℕ → List HostStep) (right : AreLogs (machine start) logs)
      (in_n : IsWithin (first_hosts start) logs) where
    -- what the coordinator took of it the API has sent
    pub keys_few : steps (is_key tx) (logs (home start tx)) ≤ signals (is_key tx)
        (sent (machine start) 0 (home start tx) (logs 0))
    keys_few =
        omega (
          arith,
          steps_from start (is_key tx) 0
              (λ to body e. plain_key tx body (right_of (is_tc to.block) (key_of_tx tx body) e)) (logs (home start tx))
              (λ k other. omega (
                arith,
                host_silent start tx k (home start tx) (logs k) other,
                few_taken start logs right (is_key tx) k (home start tx),
              )),
          few_taken start logs right (is_key tx) 0 (home start tx),
        )

    pub commits_few : steps (is_commit_req tx) (logs (home start tx)) ≤ signals (is_commit_req tx)
        (sent (machine start) 0 (home start tx) (logs 0))
    commits_few =
        omega (
          arith,
          steps_from start (is_commit_req tx) 0 (plain_commit tx) (logs (home start tx))
              (λ k other. omega (
                arith,
                never_commits k (home start tx) (logs k) other,
                few_taken start logs right (is_commit_req tx) k (home start tx),
              )),
          few_taken start logs right (is_commit_req tx) 0 (home start tx),
        )

    -- what the API took of it the coordinator has sent
    pub answers_few : steps (is_answer tx) (logs 0) ≤ signals (is_answer tx)
        (sent (machine start) (home start tx) 0 (logs (home start tx)))
    answers_few =
        omega (
          arith,
          steps_from start (is_answer tx) (home start tx)
              (λ to body e. plain_answer tx body (right_of (is_api to.block) (answer_of tx body) e)) (logs 0)
              (none_else start logs right in_n (is_answer tx) (home start tx) never_answers),
          few_taken start logs right (is_answer tx) (home start tx) 0,
        )

    pub starts_few : steps (is_start tx) (logs 0) ≤ signals (is_start tx)
        (sent (machine start) (home start tx) 0 (logs (home start tx)))
    starts_few =
        omega (
          arith,
          steps_from start (is_start tx) (home start tx)
              (λ to body e. plain_start tx body (right_of (is_api to.block) (start_of tx body) e)) (logs 0)
              (none_else start logs right in_n (is_start tx) (home start tx) (silent_start start tx)),
          few_taken start logs right (is_start tx) (home start tx) 0,
        )

    pub starts_once : steps (is_start tx) (logs 0) ≤ 1
    starts_once = omega (arith, starts_few, (keeps start tx (home start tx) (logs (home start tx))).keeps.once)

    -- what was answered was asked for
    pub answers_asked : signals (is_answer tx) (sent (machine start) (home start tx) 0 (logs (home start tx))) ≤ steps
        (is_key tx) (logs (home start tx))
    answers_asked = omega (arith, host_asked start tx (home start tx) (logs (home start tx)))
