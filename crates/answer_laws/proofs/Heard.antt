-- What the API has asked of a transaction its coordinator has heard, or it is on its way.
use Rattle.std.proofs.Common.{◌≡◌, ◌≢◌, ◌⊎◌, ℕ, ◌+◌, ◌≤◌, ◌<◌, List, [], length, Bool, true, false, refl, ap, sym, ◌∙◌}
use Rattle.std.proofs.Common.{subst, arith, inl, inr}
use Rattle.std.specs.Prelude.{◌&&◌, is_some, if◌then◌else◌, Option, None, Some}
use Rattle.api_block.specs.declared.operate.TheConstants.{OPERATIONS}
use Rattle.api_block.specs.declared.opened.OpenTransaction.{OpenTransaction}
use Rattle.api_block.specs.Opened.{has_tx}
use Rattle.api_block.specs.State.{ApiState}
use Rattle.lqh_block.specs.Lqh.{lqh_table}
use Rattle.node_core.proofs.HostCases.{IsRowsStep}
use Rattle.node_core.specs.Blocks.{lqh_of, tc_of}
use Rattle.node_core.specs.declared.host.Host as host
use Rattle.node_core.specs.Row.{shell_row}
use Rattle.run_theory.specs.Links.{sent}
use Rattle.run_theory.specs.Lists.{Each}
use Rattle.run_theory.specs.Runs.{AreLogs, IsWithin, log_of}
use Rattle.sig_core.specs.declared.member.TxId.{TxId}
use Rattle.sig_core.specs.declared.outs.Outgoing.{Outgoing}
use Rattle.sig_core.specs.declared.place.Part.TheVariants as part
use Rattle.sig_core.specs.declared.place.Place.{Place}
use Rattle.sig_core.specs.declared.signal.Body.{Body}
use Rattle.sig_core.specs.declared.signal.Signal.{Signal}
use Rattle.sig_core.specs.Part.{part_of}
use Rattle.sig_core.specs.Place.{coordinator_of}
use Rattle.sig_core.specs.Step.{Step, stay}
use Rattle.tc_block.specs.declared.phase.Phase.TheVariants.{Open}
use Rattle.tc_block.specs.declared.transaction.Transaction.{Transaction}
use Rattle.tc_block.specs.Operate.{fresh}
use Rattle.tc_block.specs.State.{TcState}
use Rattle.world_core.proofs.HostNumbers.{host_some}
use Rattle.world_core.specs.Hosts.{home, first_hosts}
use Rattle.world_core.specs.Machine.{after, machine, step_after}
use Rattle.world_core.specs.Start.{Start}
use Rattle.world_core.specs.Steps.{HostStep}
use Rattle.run_laws.proofs.hosts.AlongSteps.{Goes, along, at_tc, first_none, no_transaction, the_transaction, turn_at}
use Rattle.run_laws.proofs.hosts.AlongSteps.{tx_at, goes_cases}
use Rattle.run_laws.proofs.hosts.Always.{Touches, turn_touches}
use Rattle.answer_laws.proofs.ApiEntries.{IsEntryRight, is_commit_req, of_opened, shell_entry}
use Rattle.answer_laws.proofs.Begins.{wish_part}
use Rattle.host_laws.proofs.hosts.ShellHost.{opened_first, opened_next, shell_after, shell_sends}
use Rattle.host_laws.proofs.hosts.BlocksAlong.{sent_to_tc}
use Rattle.host_laws.proofs.coordinator.HostTurns.{HostTurn, IsAside, IsBorn, IsTurned, aside, in_rows, starting}
use Rattle.host_laws.proofs.coordinator.HostTurns.{turning}
use Rattle.host_laws.proofs.hosts.LinkCounts.{sent_signals, shell_signals, signals, steps}
use Rattle.run_laws.proofs.causes.Begun.{keeps}
use Rattle.host_laws.proofs.rows.Sends.{lqh_kinds}
use Rattle.answer_laws.proofs.Missed.{api_is, commit_at, commit_turn, key_turn, missed_commit, missed_key, none_asked}
use Rattle.answer_laws.proofs.Missed.{shell_stays, some_held}
use Rattle.answer_laws.proofs.OpenTurns.{OpenTurn, commit_body, is_asked, is_told, open_turn, stays_open}
use Rattle.answer_laws.proofs.Strangers.{answers_asked, answers_few, aside_answers, commits_few, keys_few, lqh_answers}
use Rattle.answer_laws.proofs.Strangers.{starts_few, starts_once}
use Rattle.host_laws.proofs.coordinator.Keys.{answer_of, answers_in, is_answer, is_key, key_of_tx}
use Rattle.host_laws.proofs.coordinator.Lives.{is_start, start_of}
use Rattle.host_laws.specs.Live.{of_live}
use Rattle.host_laws.proofs.coordinator.Steps.{live_early}
use Rattle.tc_block.proofs.EachTurn.{IsMissed}
use Rattle.tc_block.proofs.TurnRows.{tx_in, is_turn}
use Rattle.answer_laws.proofs.Wants.{IsAsking, all_right, entry_next, held_few}
use Rattle.host_laws.proofs.api.Wishes.{is_api, is_tc, second_fails, sends_of, to_node}
use Rattle.host_laws.specs.OpenedAfter.{opened_in}
use Rattle.run_theory.specs.Counts.{one_if, tally}

-- the commit of a transaction is asked for at a coordinator
commit_part : (tx : TxId) (to : Place) (body : Body) → is_commit_req tx to body ≡ true → part_of to.block ≡ part.Tc
commit_part tx to body e = wish_part to (commit_body tx body) (sym (commit_at tx to body) ∙ e)

module _ (start : Start) (tx : TxId) (some : 1 ≤ tx.tc) (low : tx.tc ≤ start.shape.nodes) where
  -- the host of its coordinator
  abbrev pub h : ℕ
  h = home start tx

  home_some : 1 ≤ h
  home_some = host_some start (coordinator_of tx) some low

  -- what the API has asked for, and was answered; what the coordinator has heard, and has answered
  abbrev pub keys_sent : (ℕ → List HostStep) → ℕ
  keys_sent logs = signals (is_key tx) (sent (machine start) 0 h (logs 0))

  abbrev pub commits_sent : (ℕ → List HostStep) → ℕ
  commits_sent logs = signals (is_commit_req tx) (sent (machine start) 0 h (logs 0))

  abbrev pub answers_taken : (ℕ → List HostStep) → ℕ
  answers_taken logs = steps (is_answer tx) (logs 0)

  abbrev pub starts_taken : (ℕ → List HostStep) → ℕ
  starts_taken logs = steps (is_start tx) (logs 0)

  abbrev pub keys_taken : List HostStep → ℕ
  keys_taken log = steps (is_key tx) log

  abbrev pub commits_taken : List HostStep → ℕ
  commits_taken log = steps (is_commit_req tx) log

  abbrev pub answers_sent : List HostStep → ℕ
  answers_sent log = signals (is_answer tx) (sent (machine start) h 0 log)

  -- What the coordinator of an open transaction has heard: as many operations as it has answered or has unanswered, no
  -- fewer than it touches keys, and no commit.
  pub record IsHeard (log : List HostStep) (t : Transaction) : Type 0 where
    pub keys : keys_taken log ≡ one_if (is_some t.asked) + answers_sent log
    pub touched : length t.touched ≤ keys_taken log
    pub commits : commits_taken log ≡ 0

  -- and so for both sides
  pub record AllHeard (logs : ℕ → List HostStep) : Type 0 where
    pub asking : IsAsking (of_opened tx (opened_in (after start 0 (logs 0)))) (keys_sent logs) (commits_sent logs)
        (answers_taken logs) (starts_taken logs)
    pub heard : (t : Transaction) → tx_at tx (after start h (logs h)) ≡ Some t → t.phase ≡ Open → IsHeard (logs h) t
    pub unborn : (tc_of (after start h (logs h))).next_seq ≤ tx.seq → answers_sent (logs h) ≡ 0

  -- no more was taken than was sent, nor answered than asked
  few_answers : (logs : ℕ → List HostStep) → AreLogs (machine start) logs → IsWithin (first_hosts start) logs
      → answers_taken logs ≤ keys_sent logs
  few_answers logs right within = omega (
    arith,
    answers_few start tx logs right within,
    answers_asked start tx logs right within,
    keys_few start tx logs right within,
  )

  before_within : (logs now : ℕ → List HostStep) (i : ℕ) (e : HostStep) → Goes start logs now i e
      → IsWithin (first_hosts start) logs
  before_within logs now i e g k high = sym (g.others k (λ same. omega (arith, same, high, g.low))) ∙ g.within k high

  -- a step of the API
  api_next : (logs now : ℕ → List HostStep) (e : HostStep) → Goes start logs now 0 e → AllHeard logs
      → IsAsking (of_opened tx (opened_in (after start 0 (now 0)))) (keys_sent now) (commits_sent now)
      (answers_taken now) (starts_taken now)
  api_next logs now e g q = by (is_api e.step.taken.to.block) refl
    where
      s : ApiState
      s = (shell_after start (logs 0)).state

      opened_was : opened_in (after start 0 (logs 0)) ≡ s.opened
      opened_was = ap opened_in (shell_after start (logs 0)).is

      opened_now : opened_in (after start 0 (now 0)) ≡ (shell_row s e.step.taken.to.block e.step.taken).state.opened
      opened_now = ap (λ log. opened_in (after start 0 log)) g.own ∙ opened_next start e (logs 0)

      sends : List Outgoing
      sends = (shell_row s e.step.taken.to.block e.step.taken).effects.sends

      keys_now : keys_sent now ≡ sends_of (to_node tx.tc (is_key tx)) sends + keys_sent logs
      keys_now =
          ap (λ log. signals (is_key tx) (sent (machine start) 0 h log)) g.own
          ∙ omega (
            arith,
            sent_signals start (is_key tx) 0 h e (logs 0),
            sent_to_tc start tx.tc some low (is_key tx) (λ to body q. wish_part to (key_of_tx tx body) q)
                (step_after start 0 (logs 0) e).effects.sends,
            ap (sends_of (to_node tx.tc (is_key tx))) (shell_sends start e (logs 0)),
          )

      commits_now : commits_sent now ≡ sends_of (to_node tx.tc (is_commit_req tx)) sends + commits_sent logs
      commits_now =
          ap (λ log. signals (is_commit_req tx) (sent (machine start) 0 h log)) g.own
          ∙ omega (
            arith,
            sent_signals start (is_commit_req tx) 0 h e (logs 0),
            sent_to_tc start tx.tc some low (is_commit_req tx) (commit_part tx)
                (step_after start 0 (logs 0) e).effects.sends,
            ap (sends_of (to_node tx.tc (is_commit_req tx))) (shell_sends start e (logs 0)),
          )

      answers_now : answers_taken now ≡ one_if
          (is_api e.step.taken.to.block && answer_of tx e.step.taken.body) + answers_taken logs
      answers_now = ap (steps (is_answer tx)) g.own

      starts_now : starts_taken now ≡ one_if
          (is_api e.step.taken.to.block && start_of tx e.step.taken.body) + starts_taken logs
      starts_now = ap (steps (is_start tx)) g.own

      once : starts_taken now ≤ 1
      once = starts_once start tx now g.right g.within

      few : tally (has_tx tx) s.opened ≤ starts_taken logs
      few = subst (λ os. tally (has_tx tx) os ≤ starts_taken logs) opened_was (held_few start tx (logs 0))

      moved : (o p : Option OpenTransaction) (k c a b : ℕ) → o ≡ p → (k ≡ keys_sent now) → (c ≡ commits_sent now)
          → (a ≡ answers_taken now) → (b ≡ starts_taken now) → IsAsking o k c a b
          → IsAsking p (keys_sent now) (commits_sent now) (answers_taken now) (starts_taken now)
      moved o p k c a b o_is k_is c_is a_is b_is q =
          subst (λ x. IsAsking x (keys_sent now) (commits_sent now) (answers_taken now) (starts_taken now)) o_is
          (subst (λ m. IsAsking o m (commits_sent now) (answers_taken now) (starts_taken now)) k_is
          (subst (λ m. IsAsking o k m (answers_taken now) (starts_taken now)) c_is
          (subst (λ m. IsAsking o k c m (starts_taken now)) a_is (subst (IsAsking o k c a) b_is q))))

      by : (b : Bool) → is_api e.step.taken.to.block ≡ b
          → IsAsking (of_opened tx (opened_in (after start 0 (now 0)))) (keys_sent now) (commits_sent now)
          (answers_taken now) (starts_taken now)
      by true at =
          let next = entry_next tx e.step.taken.body (of_opened tx s.opened)
          (of_opened tx (shell_row s e.step.taken.to.block e.step.taken).state.opened) sends (keys_sent logs)
          (commits_sent logs) (answers_taken logs) (starts_taken logs)
          (shell_entry tx s e.step.taken.body (shell_after start (logs 0)).good
          (subst (Each IsEntryRight) opened_was (all_right start (logs 0))) (omega (arith, few, once, starts_now))
          (λ st. omega (arith, few, fresh_start st)) e.step.taken.to.block e.step.taken
          (api_is e.step.taken.to.block at) refl)
          (subst (λ os. IsAsking (of_opened tx os) (keys_sent logs) (commits_sent logs) (answers_taken logs)
          (starts_taken logs)) opened_was q.asking)
          (few_answers logs g.before (before_within logs now 0 e g)) fresh_start held_some in
          moved (of_opened tx (shell_row s e.step.taken.to.block e.step.taken).state.opened)
          (of_opened tx (opened_in (after start 0 (now 0)))) _ _ _ _ (ap (of_opened tx) (sym opened_now))
          (sym keys_now)
          (sym commits_now)
          (omega (arith, answers_now, ap (λ b. one_if (b && answer_of tx e.step.taken.body)) at))
          (omega (arith, starts_now, ap (λ b. one_if (b && start_of tx e.step.taken.body)) at)) next
        where
          fresh_start : start_of tx e.step.taken.body ≡ true → starts_taken logs ≡ 0
          fresh_start st =
              omega (arith, once, starts_now, ap (λ b. one_if (b && start_of tx e.step.taken.body)) at, ap one_if st)

          held_some : (t : OpenTransaction) → of_opened tx s.opened ≡ Some t → 1 ≤ starts_taken logs
          held_some t there = omega (arith, few, some_held tx s.opened t there)
      by false at =
          moved (of_opened tx s.opened) (of_opened tx (opened_in (after start 0 (now 0)))) (keys_sent logs)
          (commits_sent logs) (answers_taken logs) (starts_taken logs)
          (ap (of_opened tx) (sym (opened_now ∙ ap (λ (st : Step ApiState). st.state.opened) quiet)))
          (omega (
            arith,
            keys_now,
            ap (λ (st : Step ApiState). sends_of (to_node tx.tc (is_key tx)) st.effects.sends) quiet,
          ))
          (omega (
            arith,
            commits_now,
            ap (λ (st : Step ApiState). sends_of (to_node tx.tc (is_commit_req tx)) st.effects.sends) quiet,
          ))
          (omega (arith, answers_now, ap (λ b. one_if (b && answer_of tx e.step.taken.body)) at))
          (omega (arith, starts_now, ap (λ b. one_if (b && start_of tx e.step.taken.body)) at))
          (subst (λ os. IsAsking (of_opened tx os) (keys_sent logs) (commits_sent logs) (answers_taken logs)
          (starts_taken logs)) opened_was q.asking)
        where
          quiet : shell_row s e.step.taken.to.block e.step.taken ≡ stay s
          quiet = shell_stays s e.step.taken.to.block e.step.taken at

  -- what is so of a coordinator's side
  abbrev CoordinatorHeard : (ℕ → List HostStep) → Type 0
  CoordinatorHeard logs =
      ((t : Transaction) → tx_at tx (after start h (logs h)) ≡ Some t → t.phase ≡ Open → IsHeard (logs h) t)
      × ((tc_of (after start h (logs h))).next_seq ≤ tx.seq → answers_sent (logs h) ≡ 0)

  -- a step of the coordinator's host
  module _ (logs now : ℕ → List HostStep) (e : HostStep) (g : Goes start logs now h e) (q : AllHeard logs) where
    abbrev x : Signal
    x = e.step.taken

    abbrev t_now : Step host.Host
    t_now = step_after start h (logs h) e

    now_at : (t : Transaction) → tx_at tx (after start h (now h)) ≡ Some t → tx_at tx t_now.state ≡ Some t
    now_at t at = sym (ap (λ log. tx_at tx (after start h log)) g.own) ∙ at

    now_seq : (tc_of (after start h (now h))).next_seq ≡ (tc_of t_now.state).next_seq
    now_seq = ap (λ log. (tc_of (after start h log)).next_seq) g.own

    sent_now : answers_sent (now h) ≡ answers_in tx t_now.effects.sends + answers_sent (logs h)
    sent_now = ap answers_sent g.own ∙ shell_signals start (is_answer tx) h e (logs h)

    keys_now : keys_taken (now h) ≡ one_if (is_tc x.to.block && key_of_tx tx x.body) + keys_taken (logs h)
    keys_now = ap keys_taken g.own

    commits_now : commits_taken (now h) ≡ one_if (is_tc x.to.block && commit_body tx x.body) + commits_taken (logs h)
    commits_now = ap commits_taken g.own ∙ ap (λ b. one_if b + commits_taken (logs h)) (commit_at tx x.to x.body)

    -- nothing was asked of it with this step, and it is as it was
    kept : tx_at tx t_now.state ≡ tx_at tx (after start h (logs h))
        → (tc_of (after start h (logs h))).next_seq ≤ (tc_of t_now.state).next_seq
        → answers_in tx t_now.effects.sends ≡ 0
        → ((t : Transaction) → tx_at tx (after start h (logs h)) ≡ Some t
        → ((is_tc x.to.block && key_of_tx tx x.body) ≡ false) × ((is_tc x.to.block && commit_body tx x.body) ≡ false))
        → CoordinatorHeard now
    kept same more none off =
        (heard_now, λ early. omega (arith, sent_now, none, q.unborn (omega (arith, early, more, now_seq))))
      where
        heard_now : (t : Transaction) → tx_at tx (after start h (now h)) ≡ Some t → t.phase ≡ Open → IsHeard (now h) t
        heard_now t at p =
            let was = sym same ∙ now_at t at in
            let o = q.heard t was p in
            let f = off t was in
            record {
              keys = omega (arith, o.keys, keys_now, ap one_if f.0, sent_now, none);
              touched = omega (arith, o.touched, keys_now);
              commits = omega (arith, o.commits, commits_now, ap one_if f.1);
            }

    of_rows : IsRowsStep (after start h (logs h)) x t_now → CoordinatorHeard now
    of_rows step =
        kept (ap (λ (s : TcState). tx_in_state s) step.tc) (omega (arith, ap (λ (s : TcState). s.next_seq) step.tc))
        (ap (λ f. answers_in tx f.sends) step.effects ∙ lqh_answers tx
        (lqh_table (lqh_of (after start h (logs h))) x.body).effects.sends
        (lqh_kinds (lqh_of (after start h (logs h))) x.body))
        (λ t at. (ap (λ b. is_tc b && key_of_tx tx x.body) step.at, ap (λ b. is_tc b && commit_body tx x.body) step.at))
      where
        tx_in_state : TcState → Option Transaction
        tx_in_state s = of_live tx s.live

    of_aside : IsAside tx (after start h (logs h)) x t_now → CoordinatorHeard now
    of_aside step =
        kept step.same step.grows (aside_answers tx t_now.effects.sends step.kind)
        (λ t there. (
          off t there (key_of_tx tx x.body) (λ c. key_turn tx x.body c),
          off t there (commit_body tx x.body) (λ c. commit_turn tx x.body c),
        ))
      where
        off : (t : Transaction) → tx_at tx (after start h (logs h)) ≡ Some t → (c : Bool)
            → (c ≡ true → (is_turn x.body ≡ true) × (tx_in x.body ≡ tx)) → (is_tc x.to.block && c) ≡ false
        off t there c about = by (is_tc x.to.block) c refl about
          where
            by : (a c : Bool) → is_tc x.to.block ≡ a → (c ≡ true → (is_turn x.body ≡ true) × (tx_in x.body ≡ tx))
                → (a && c) ≡ false
            by false c on about = refl
            by true false on about = refl
            by true true on about =
                let turn = about refl in absurd (no_transaction t (sym (step.absent on turn.0 turn.1) ∙ there))

    of_born : IsBorn tx (after start h (logs h)) x t_now → CoordinatorHeard now
    of_born step = (heard_now, λ early. omega (arith, none_sent, sent_now, none_told))
      where
        seq_is : tx.seq ≡ (tc_of (after start h (logs h))).next_seq
        seq_is = ap (λ (v : TxId). v.seq) step.one

        within : IsWithin (first_hosts start) logs
        within = before_within logs now h e g

        none_told : answers_in tx t_now.effects.sends ≡ 0
        none_told = ap (answers_in tx) step.told

        none_sent : answers_sent (logs h) ≡ 0
        none_sent = q.unborn (omega (arith, seq_is))

        -- it hasn't begun, and so nothing was asked of it
        none_started : starts_taken logs ≡ 0
        none_started = omega (
          arith,
          starts_few start tx logs g.before within,
          (keeps start tx h (logs h)).keeps.unborn (omega (arith, seq_is)),
        )

        none_asked_for : (keys_sent logs ≡ 0) × (commits_sent logs ≡ 0)
        none_asked_for = q.asking.new none_started

        heard_now : (t : Transaction) → tx_at tx (after start h (now h)) ≡ Some t → t.phase ≡ Open → IsHeard (now h) t
        heard_now t at p =
            subst (IsHeard (now h)) (the_transaction fresh t (sym step.there ∙ now_at t at)) (record {
              keys = omega (
                arith,
                keys_now,
                ap one_if (second_fails (is_tc x.to.block) (ap (key_of_tx tx) step.about)),
                keys_few start tx logs g.before within,
                none_asked_for.0,
                sent_now,
                none_told,
                none_sent,
              );
              touched = omega arith;
              commits = omega (
                arith,
                commits_now,
                ap one_if (second_fails (is_tc x.to.block) (ap (commit_body tx) step.about)),
                commits_few start tx logs g.before within,
                none_asked_for.1,
              );
            })

    of_turned : IsTurned tx (after start h (logs h)) x t_now → CoordinatorHeard now
    of_turned step = (heard_now, late)
      where
        within : IsWithin (first_hosts start) logs
        within = before_within logs now h e g

        zero_home : 0 ≢ h
        zero_home z = omega (arith, z, home_some)

        late : (tc_of (after start h (now h))).next_seq ≤ tx.seq → answers_sent (now h) ≡ 0
        late early = absurd (omega (
          arith,
          early,
          now_seq,
          step.grows,
          live_early tx (tc_of (after start h (logs h))) step.was step.there (at_tc start tx h (logs h)).own,
        ))

        told_is : answers_in tx t_now.effects.sends ≡ answers_in tx step.turn.step.effects.sends
        told_is = ap (answers_in tx) step.told

        keys_here : keys_taken (now h) ≡ one_if (key_of_tx tx x.body) + keys_taken (logs h)
        keys_here = keys_now ∙ ap (λ b. one_if (is_tc b && key_of_tx tx x.body) + keys_taken (logs h)) step.at

        commits_here : commits_taken (now h) ≡ one_if (commit_body tx x.body) + commits_taken (logs h)
        commits_here =
            commits_now ∙ ap (λ b. one_if (is_tc b && commit_body tx x.body) + commits_taken (logs h)) step.at

        heard_now : (u : Transaction) → tx_at tx (after start h (now h)) ≡ Some u → u.phase ≡ Open → IsHeard (now h) u
        heard_now u u_at p = which step.turn.over refl
          where
            which : (b : Bool) → step.turn.over ≡ b → IsHeard (now h) u
            which true over = absurd
                (no_transaction u (sym (step.left ∙ ap (λ b. if b then None else Some step.turn.step.state) over)
                ∙ now_at u u_at))
            which false over = subst (IsHeard (now h)) same
                (result (open_turn (tc_of (after start h (logs h))) tx step.was x.body step.turn step.move over
                (ap (λ (v : Transaction). v.phase) same ∙ p)))
              where
                same : step.turn.step.state ≡ u
                same =
                    the_transaction step.turn.step.state u
                    (sym (step.left ∙ ap (λ b. if b then None else Some step.turn.step.state) over) ∙ now_at u u_at)

                touches : Touches tx step.was x.body step.turn.step.state
                touches = turn_touches (tc_of (after start h (logs h))) tx step.was x.body step.turn step.move

                result : (step.was.phase ≡ Open)
                    × OpenTurn tx step.was x.body step.turn.step.state step.turn.step.effects.sends
                    → IsHeard (now h) step.turn.step.state
                result (was_open, move) = go move
                  where
                    o : IsHeard (logs h) step.was
                    o = q.heard step.was step.there was_open

                    -- one more has come, so all before was answered
                    answered_all : key_of_tx tx x.body ≡ true
                        → (one_if (is_some step.was.asked) ≡ 0) × (keys_taken (logs h) < OPERATIONS)
                    answered_all key =
                        let few = keys_few start tx now g.right g.within in
                        let sent_same : keys_sent now ≡ keys_sent logs = ap
                        (λ log. signals (is_key tx) (sent (machine start) 0 h log)) (g.others 0 zero_home) in (
                          omega (
                            arith,
                            o.keys,
                            few,
                            sent_same,
                            keys_here,
                            ap one_if key,
                            q.asking.ahead,
                            answers_few start tx logs g.before within,
                          ),
                          omega (arith, few, sent_same, keys_here, ap one_if key, q.asking.few),
                        )

                    committed_all : commit_body tx x.body ≡ true → one_if (is_some step.was.asked) ≡ 0
                    committed_all commit =
                        let few = commits_few start tx now g.right g.within in
                        let sent_same : commits_sent now ≡ commits_sent logs = ap
                        (λ log. signals (is_commit_req tx) (sent (machine start) 0 h log)) (g.others 0 zero_home) in
                        omega (
                          arith,
                          o.keys,
                          keys_few start tx logs g.before within,
                          q.asking.done (omega (arith, few, sent_same, commits_here, ap one_if commit)),
                          answers_few start tx logs g.before within,
                        )

                    go : OpenTurn tx step.was x.body step.turn.step.state step.turn.step.effects.sends
                        → IsHeard (now h) step.turn.step.state
                    go (stays_open asked none missed) = record {
                      keys = omega (
                        arith,
                        o.keys,
                        keys_here,
                        ap one_if off.0,
                        sent_now,
                        told_is,
                        none,
                        ap (λ a. one_if (is_some a)) asked,
                      );
                      touched = omega (arith, o.touched, touches.more, keys_here);
                      commits = omega (arith, o.commits, commits_here, ap one_if off.1);
                    }
                      where
                        off_key : (b : Bool) → key_of_tx tx x.body ≡ b → IsMissed step.was x.body
                            → key_of_tx tx x.body ≡ false
                        off_key false e m = e
                        off_key true e m = let a = answered_all e in absurd
                            (missed_key tx step.was _ m e was_open (none_asked step.was.asked a.0)
                            (omega (arith, a.1, o.touched)))

                        off_commit : (b : Bool) → commit_body tx x.body ≡ b → IsMissed step.was x.body
                            → commit_body tx x.body ≡ false
                        off_commit false e m = e
                        off_commit true e m =
                            absurd
                            (missed_commit tx step.was _ m e was_open (none_asked step.was.asked (committed_all e)))

                        off_of : IsMissed step.was x.body
                            ⊎ ((key_of_tx tx x.body ≡ false) × (commit_body tx x.body ≡ false))
                            → (key_of_tx tx x.body ≡ false) × (commit_body tx x.body ≡ false)
                        off_of (inl m) =
                            (off_key (key_of_tx tx x.body) refl m, off_commit (commit_body tx x.body) refl m)
                        off_of (inr f) = f

                        off : (key_of_tx tx x.body ≡ false) × (commit_body tx x.body ≡ false)
                        off = off_of missed
                    go (is_asked key commit none some quiet) = record {
                      keys = omega (
                        arith,
                        o.keys,
                        keys_here,
                        ap one_if key,
                        sent_now,
                        told_is,
                        quiet,
                        ap (λ a. one_if (is_some a)) none,
                        ap one_if some,
                      );
                      touched = omega (arith, o.touched, touches.more, keys_here);
                      commits = omega (arith, o.commits, commits_here, ap one_if commit);
                    }
                    go (is_told key commit some none one) = record {
                      keys = omega (
                        arith,
                        o.keys,
                        keys_here,
                        ap one_if key,
                        sent_now,
                        told_is,
                        one,
                        ap (λ a. one_if (is_some a)) none,
                        ap one_if some,
                      );
                      touched = omega (arith, o.touched, touches.more, keys_here);
                      commits = omega (arith, o.commits, commits_here, ap one_if commit);
                    }

    coordinator_next : CoordinatorHeard now
    coordinator_next = by (turn_at start tx h (logs h) e)
      where
        by : HostTurn tx (after start h (logs h)) x t_now → CoordinatorHeard now
        by (in_rows step) = of_rows step
        by (aside step) = of_aside step
        by (starting step) = of_born step
        by (turning step) = of_turned step

  step : (logs now : ℕ → List HostStep) (i : ℕ) (e : HostStep) → Goes start logs now i e → AllHeard logs → AllHeard now
  step logs now i e g q =
      goes_cases start logs now i e g 0
      (λ own. let same = home_same (own.others h not_zero) in
      record { asking = api_next logs now e own q; heard = same.0; unborn = same.1 })
      (λ other none. goes_cases start logs now i e g h
      (λ own. let next = coordinator_next logs now e own q in
      record { asking = api_same none; heard = next.0; unborn = next.1 })
      (λ differs is. let same = home_same is in
      record { asking = api_same none; heard = same.0; unborn = same.1 }))
    where
      -- where neither log is longer
      home_same : now h ≡ logs h → CoordinatorHeard now
      home_same is = (
        λ t at p. subst (λ log. IsHeard log t) (sym is)
            (q.heard t (ap (λ log. tx_at tx (after start h log)) (sym is) ∙ at) p),
        λ early. ap answers_sent is
            ∙ q.unborn (omega (arith, early, ap (λ log. (tc_of (after start h log)).next_seq) is)),
      )

      api_same : now 0 ≡ logs 0
          → IsAsking (of_opened tx (opened_in (after start 0 (now 0)))) (keys_sent now) (commits_sent now)
          (answers_taken now) (starts_taken now)
      api_same is =
          subst (λ log. IsAsking (of_opened tx (opened_in (after start 0 log)))
          (signals (is_key tx) (sent (machine start) 0 h log))
          (signals (is_commit_req tx) (sent (machine start) 0 h log)) (steps (is_answer tx) log)
          (steps (is_start tx) log)) (sym is) q.asking

      not_zero : h ≡ 0 → ⊥
      not_zero z = omega (arith, z, home_some)

  first : AllHeard (log_of (machine start) [])
  first = record {
    asking = record {
      held = λ t at. no_open t (sym (ap (of_opened tx) (opened_first start)) ∙ at);
      few = omega arith;
      ahead = omega arith;
      done = λ some. omega arith;
      new = λ none. (refl, refl);
    };
    heard = λ t at p. absurd (no_transaction t (sym (first_none start tx h) ∙ at));
    unborn = λ early. refl;
  }
    where
      no_open : {A : Type 0} (t : OpenTransaction) → None ≡ Some t → A
      no_open t e = absurd cc

  pub all_heard : (logs : ℕ → List HostStep) → IsWithin (first_hosts start) logs → AreLogs (machine start) logs
      → AllHeard logs
  all_heard logs within right = along start AllHeard first step logs within right
