-- What a transaction that aborts waits for is on its way, or it has an operation unanswered.
use Rattle.std.proofs.Common.{◌≡◌, ◌≢◌, ◌⊎◌, ℕ, ◌+◌, ◌*◌, ◌≤◌, ◌<◌, List, [], ◌∷◌, length, Bool, true, false, refl, ap}
use Rattle.std.proofs.Common.{sym, ◌∙◌, subst, arith, inl, inr}
use Rattle.std.specs.Prelude.{◌==◌, ◌&&◌, if◌then◌else◌, None, Some}
use Rattle.std.proofs.lemmas.Bool.{true≢false}
use Rattle.frag_map.proofs.FirstReplicas.{few_replicas}
use Rattle.frag_map.specs.Layout.{Layout, chain_of, first_layout}
use Rattle.frag_map.specs.Shape.{IsShape}
use Rattle.node_core.proofs.HostCases.{IsRowsStep}
use Rattle.node_core.specs.Blocks.{lqh_of, tc_of}
use Rattle.node_core.specs.declared.host.Host.{Host}
use Rattle.run_theory.specs.Links.{sent, taken}
use Rattle.run_theory.specs.Runs.{log_of}
use Rattle.sig_core.specs.declared.portion.TheConstants.{PORTION}
use Rattle.sig_core.specs.declared.member.TxId.{TxId}
use Rattle.sig_core.specs.declared.outcome.AbortCause.{AbortCause}
use Rattle.sig_core.specs.declared.outs.Outgoing.{Outgoing}
use Rattle.sig_core.specs.declared.signal.Signal.{Signal}
use Rattle.sig_core.specs.Place.{coordinator_of}
use Rattle.tc_block.specs.declared.sends.TheConstants.{SENDS}
use Rattle.tc_block.specs.declared.touched.TheConstants.{KEYS}
use Rattle.tc_block.specs.declared.phase.Phase.{Phase}
use Rattle.tc_block.specs.declared.phase.Phase.TheVariants.{Open, Verifying, Committing, Completing, Aborting}
use Rattle.tc_block.specs.declared.touched.Touched.{Touched}
use Rattle.tc_block.specs.declared.transaction.Transaction.{Transaction}
use Rattle.tc_block.specs.Abort.{asked_count, replica_count}
use Rattle.tc_block.specs.Operate.{fresh}
use Rattle.world_core.proofs.HostNumbers.{host_below}
use Rattle.world_core.specs.Hosts.{home, first_hosts}
use Rattle.world_core.specs.Machine.{after, machine, step_after}
use Rattle.world_core.specs.Start.{Start}
use Rattle.world_core.specs.Steps.{HostStep}
use Rattle.run_theory.specs.Counts.{one_if}
use Rattle.answer_laws.proofs.AbortCounts.{abort_low, answer_turn, cont_place, cont_turn, few_answers, few_rows}
use Rattle.answer_laws.proofs.AbortCounts.{lqh_aborts, none_at}
use Rattle.run_laws.proofs.hosts.AlongSteps.{Goes, addressed, along, at_home, at_tc, first_none, heard_rows, home_place}
use Rattle.run_laws.proofs.hosts.AlongSteps.{goes_cases}
use Rattle.run_laws.proofs.hosts.AlongSteps.{live_tx, no_transaction, other_turn, the_transaction, turn_at, tx_at}
use Rattle.run_laws.proofs.hosts.Always.{few_touched}
use Rattle.answer_laws.proofs.FirstChains.{good_chain}
use Rattle.host_laws.proofs.hosts.BlocksAlong.{IsHome, tc_layout}
use Rattle.host_laws.proofs.coordinator.HostTurns.{HostTurn, IsAside, aside, in_rows, starting, turning}
use Rattle.host_laws.proofs.hosts.LinkCounts.{signals}
use Rattle.host_laws.proofs.rows.Operations.{is_good, is_lqh, is_node, left_of}
use Rattle.host_laws.proofs.hosts.PartCounts.{cont_block, is_cont}
use Rattle.answer_laws.proofs.TcAborts.{AbortMove, abort_move, aborted_body, begins, continues, is_abort, waits}
use Rattle.host_laws.specs.Live.{of_live}
use Rattle.host_laws.proofs.coordinator.Steps.{live_home}
use Rattle.tc_block.proofs.TurnRows.{tx_in, is_turn}
use Rattle.answer_laws.proofs.SentInParts.{HomeStep, IsOwed, begun_owed, continued_owed, home_step, none_owed, s_more}
use Rattle.answer_laws.proofs.SentInParts.{stays_owed, t_more, waits_owed}
use Rattle.host_laws.proofs.api.Wishes.{is_tc, sends_of}
use Rattle.answer_laws.specs.Answered.{AreQuiet, NoAbortIsAwaited}
use Rattle.tc_block.specs.Phases.{is_aborting}

module _ (start : Start) (shape : IsShape start.shape) (tx : TxId) (some_node : 1 ≤ tx.tc)
    (few_nodes : tx.tc ≤ start.shape.nodes) where
  -- the first number behind those of the nodes, and the host of the transaction's coordinator
  abbrev nodes : ℕ
  nodes = start.shape.nodes + 1

  abbrev at : ℕ
  at = home start tx

  low : at < first_hosts start
  low = host_below start (coordinator_of tx) some_node few_nodes

  good : (key : List ℕ) → is_good nodes (chain_of (first_layout start.shape) key) ≡ true
  good key = good_chain start.shape shape key

  abbrev OwedBy : (ℕ → List HostStep) → Transaction → ℕ → Type 0
  OwedBy logs t k =
      IsOwed start tx (is_abort nodes tx) logs (replica_count (first_layout start.shape) t.touched)
      (asked_count (first_layout start.shape) t.asked) k

  -- what its abort waits for is at most that
  record IsDue (logs : ℕ → List HostStep) (t : Transaction) (k : ℕ) : Type 0 where
    some : 1 ≤ k
    owed : OwedBy logs t k

  abbrev AllDue : (ℕ → List HostStep) → Type 0
  AllDue logs =
      (t : Transaction) (why : AbortCause) (v : Bool) (k : ℕ) → tx_at tx
      (after start at (logs at)) ≡ Some t → t.phase ≡ Aborting why v k → IsDue logs t k

  few_all : (touched : List Touched) → length touched ≤ KEYS → replica_count (first_layout start.shape) touched ≤ SENDS
  few_all touched low = omega (arith, low, each_few touched)
    where
      each_few : (xs : List Touched) → replica_count (first_layout start.shape) xs ≤ 8 * length xs
      each_few [] = omega arith
      each_few (x ∷ xs) = omega (arith, each_few xs, few_replicas (first_layout start.shape) x.key)

  -- a step of a host
  module _ (logs now : ℕ → List HostStep) (h : ℕ) (e : HostStep) (g : Goes start logs now h e) where
    abbrev x : Signal
    x = e.step.taken

    abbrev came : ℕ
    came = one_if (is_abort nodes tx x.to x.body)

    abbrev sends : List Outgoing
    sends = (step_after start h (logs h) e).effects.sends

    -- rows pass on what came
    rows_pass : IsRowsStep (after start h (logs h)) x (step_after start h (logs h) e)
        → came ≤ sends_of (is_abort nodes tx) sends
    rows_pass step =
        omega (
          arith,
          few_rows nodes tx x.to x.body (ap is_tc step.at),
          lqh_aborts nodes tx (lqh_of (after start h (logs h))) x.body,
          ap (λ f. sends_of (is_abort nodes tx) f.sends) step.effects,
        )

    -- where nothing is said of the transaction none came
    aside_none : IsAside tx (after start h (logs h)) x (step_after start h (logs h) e)
        → ((is_tc x.to.block && (x.to.node == tx.tc)) ≡ true → aborted_body tx x.body ≡ true → ⊥) → came ≡ 0
    aside_none step away = ap one_if (none_at nodes tx x.to x.body rows away)
      where
        rows : (is_lqh x.to.block && is_node nodes x.to.node) ≡ true → ⊥
        rows q =
            true≢false
            (sym (heard_rows start h (logs h) x.to (addressed start logs now h e g) q) ∙ step.unheard
            (left_of (is_lqh x.to.block) (is_node nodes x.to.node) q))

  own_step : (logs now : ℕ → List HostStep) (e : HostStep) → Goes start logs now at e → AllDue logs → AllDue now
  own_step logs now e g all u why v k u_at u_is = by (turn_at start tx at (logs at) e)
    where
      s : Host
      s = after start at (logs at)

      c : ℕ
      c = one_if (is_abort nodes tx e.step.taken.to e.step.taken.body)

      own_sends : List Outgoing
      own_sends = (step_after start at (logs at) e).effects.sends

      f : HomeStep start tx (is_abort nodes tx) logs now own_sends e.step.taken.to e.step.taken.body
      f = home_step start tx (is_abort nodes tx) (abort_low start tx few_nodes) logs now e g

      now_at : tx_at tx (step_after start at (logs at) e).state ≡ Some u
      now_at = ap (λ log. tx_at tx (after start at log)) (sym g.own) ∙ u_at

      -- where the transaction stays as it is, and what came is passed on
      kept : tx_at tx (step_after start at (logs at) e).state ≡ tx_at tx s → c ≤ sends_of (is_abort nodes tx) own_sends
          → ((a : ℕ) → is_cont tx a e.step.taken.to e.step.taken.body ≡ false) → IsDue now u k
      kept same passed off =
          let due = all u why v k (sym same ∙ now_at) u_is in
          record {
            some = due.some;
            owed =
                let l = replica_count (first_layout start.shape) u.touched in
                let more = asked_count (first_layout start.shape) u.asked in
                waits_owed start tx (is_abort nodes tx) logs now own_sends e.step.taken.to e.step.taken.body
                f l more k more k (omega (arith, passed)) (λ b low. off b) due.owed;
          }

      by : HostTurn tx s e.step.taken (step_after start at (logs at) e) → IsDue now u k
      by (in_rows step) =
          kept (ap (λ t. of_live tx t.live) step.tc) (rows_pass logs now at e g step)
          (λ a. cont_block tx a e.step.taken.to e.step.taken.body (ap is_tc step.at))
      by (aside step) =
          kept step.same
          (omega (
            arith,
            aside_none logs now at e g step (λ tc said. let turn = answer_turn tx e.step.taken.body said in gone
                (left_of (is_tc e.step.taken.to.block) (e.step.taken.to.node == tx.tc) tc) turn.0 turn.1),
          ))
          (λ a. off_cont a (is_cont tx a e.step.taken.to e.step.taken.body) refl)
        where
          gone : is_tc e.step.taken.to.block ≡ true → is_turn e.step.taken.body ≡ true → tx_in e.step.taken.body ≡ tx
              → ⊥
          gone tc turn one = no_transaction u (sym (step.absent tc turn one) ∙ (sym step.same ∙ now_at))

          off_cont : (a : ℕ) (b : Bool) → is_cont tx a e.step.taken.to e.step.taken.body ≡ b
              → is_cont tx a e.step.taken.to e.step.taken.body ≡ false
          off_cont a false q = q
          off_cont a true q = by_block (is_tc e.step.taken.to.block) refl
            where
              by_block : (b : Bool) → is_tc e.step.taken.to.block ≡ b
                  → is_cont tx a e.step.taken.to e.step.taken.body ≡ false
              by_block false off = cont_block tx a e.step.taken.to e.step.taken.body off
              by_block true on =
                  let turn = cont_turn tx a e.step.taken.to e.step.taken.body q in absurd (gone on turn.0 turn.1)
      by (starting step) =
          absurd
          (open_not (ap (λ (t : Transaction). t.phase) (the_transaction fresh u (sym step.there ∙ now_at)) ∙ u_is))
        where
          open_not : Open ≡ Aborting why v k → ⊥
          open_not q = cc
      by (turning step) = which step.turn.over refl
        where
          came : c ≤ one_if (aborted_body tx e.step.taken.body)
          came = few_answers nodes tx e.step.taken.to e.step.taken.body (ap is_lqh step.at)

          told : HomeStep start tx
              (is_abort nodes tx) logs now step.turn.step.effects.sends e.step.taken.to e.step.taken.body
          told =
              subst
              (λ xs. HomeStep start tx (is_abort nodes tx) logs now xs e.step.taken.to e.step.taken.body) step.told f

          number : (tc_of s).node ≡ tx.tc
          number = sym (live_home tx (tc_of s) step.was step.there (at_tc start tx at (logs at)).own)

          which : (b : Bool) → step.turn.over ≡ b → IsDue now u k
          which true over =
              no_transaction u (sym (step.left ∙ ap (λ b. if b then None else Some step.turn.step.state) over) ∙ now_at)
          which false over =
              subst (λ w. IsDue now w k) same
              (moved (abort_move nodes tx (first_layout start.shape) good (tc_of s) number
              (tc_layout start at (logs at) step.runs) step.was e.step.taken.body step.turn step.move over why v k
              (ap (λ (w : Transaction). w.phase) same ∙ u_is)))
            where
              same : step.turn.step.state ≡ u
              same =
                  the_transaction step.turn.step.state u
                  (sym (step.left ∙ ap (λ b. if b then None else Some step.turn.step.state) over) ∙ now_at)

              before : (other : AbortCause) (z : Bool) (m : ℕ) → step.was.phase ≡ Aborting other z m
                  → IsDue logs step.was m
              before other z m p = all step.was other z m step.there p

              moved : AbortMove nodes tx (first_layout start.shape) good step.was e.step.taken.body
                  step.turn.step.state step.turn.step.effects.sends k
                  → IsDue now step.turn.step.state k
              moved (begins none off some k_is part) = record {
                some = some;
                owed = begun_owed start tx (is_abort nodes tx) logs now _ e.step.taken.to e.step.taken.body told _ _ k
                    (omega (arith, came, ap one_if none)) (off PORTION e.step.taken.to) k_is part;
              }
              moved (waits other z m p some off touched le) =
                  record {
                    some = some d.some;
                    owed = subst
                        (λ xs. IsOwed start tx (is_abort nodes tx) now (replica_count (first_layout start.shape) xs)
                        (asked_count (first_layout start.shape) step.turn.step.state.asked) k) (sym touched) by_owed;
                  }
                where
                  d : IsDue logs step.was m
                  d = before other z m p

                  by_owed : IsOwed start tx (is_abort nodes tx) now
                      (replica_count (first_layout start.shape) step.was.touched)
                      (asked_count (first_layout start.shape) step.turn.step.state.asked) k
                  by_owed =
                      waits_owed start tx (is_abort nodes tx) logs now _ e.step.taken.to e.step.taken.body told
                      (replica_count (first_layout start.shape) step.was.touched)
                      (asked_count (first_layout start.shape) step.was.asked) m
                      (asked_count (first_layout start.shape) step.turn.step.state.asked) k (omega (arith, le, came))
                      (λ b low. off b e.step.taken.to low) d.owed
              moved (continues other z place p about low w_is part) =
                  subst (λ w. IsDue now w k) (sym w_is) (record { some = d.some; owed = goes_on d.owed })
                where
                  d : IsDue logs step.was k
                  d = before other z k p

                  goes_on : OwedBy logs step.was k → OwedBy now step.was k
                  goes_on =
                      continued_owed start tx
                      (is_abort nodes tx) logs now _ e.step.taken.to e.step.taken.body told _ _ k place
                      (few_all step.was.touched (few_touched start tx at (logs at) step.was step.there))
                      (omega (arith, came, ap (λ b. one_if (aborted_body tx b)) about))
                      (λ b differs. ap (is_cont tx b e.step.taken.to) about
                      ∙ cont_place tx b place e.step.taken.to differs)
                      (inr part)

  -- the step of another host
  other_step : (logs now : ℕ → List HostStep) (h : ℕ) (e : HostStep) → Goes start logs now h e → h ≢ at → AllDue logs
      → AllDue now
  other_step logs now h e g differs all u why v k u_at u_is =
      let log_is = g.others at (λ z. differs (sym z)) in
      let due = all u why v k (ap (λ log. tx_at tx (after start at log)) (sym log_is) ∙ u_at) u_is in
      record {
        some = due.some;
        owed =
            stays_owed start tx (is_abort nodes tx) logs now (replica_count (first_layout start.shape) u.touched)
            (asked_count (first_layout start.shape) u.asked) k
            (omega (
              arith,
              passed (other_turn start tx h (logs h) e g.low differs),
              s_more start tx (is_abort nodes tx) (abort_low start tx few_nodes) logs now h e g,
              t_more start tx (is_abort nodes tx) (abort_low start tx few_nodes) logs now h e g,
            ))
            (λ b low. omega (
              arith,
              ap (λ log. signals (is_cont tx b) (taken (machine start) at log)) log_is,
              ap (λ log. signals (is_cont tx b) (sent (machine start) at at log)) log_is,
            )) due.owed;
      }
    where
      passed : IsRowsStep (after start h (logs h)) e.step.taken (step_after start h (logs h) e)
          ⊎ IsAside tx (after start h (logs h)) e.step.taken (step_after start h (logs h) e)
          → one_if (is_abort nodes tx e.step.taken.to e.step.taken.body) ≤ sends_of (is_abort nodes tx)
          (step_after start h (logs h) e).effects.sends
      passed (inl rows) = rows_pass logs now h e g rows
      passed (inr other) =
          omega (
            arith,
            aside_none logs now h e g other
                (λ tc said. differs (sym (addressed start logs now h e g) ∙ home_place start tx e.step.taken.to tc)),
          )

  step : (logs now : ℕ → List HostStep) (h : ℕ) (e : HostStep) → Goes start logs now h e → AllDue logs → AllDue now
  step logs now h e g all =
      goes_cases start logs now h e g at (λ own. own_step logs now e own all)
      (λ differs same. other_step logs now h e g differs all)

  first : AllDue (log_of (machine start) [])
  first t why v k there is = no_transaction t (sym (first_none start tx at) ∙ there)

  none_aborts : (logs : ℕ → List HostStep) → AreQuiet start logs
      → (t : Transaction) (why : AbortCause) (v : Bool) (k : ℕ) → tx_at tx (after start at (logs at)) ≡ Some t
      → t.asked ≡ None → t.phase ≡ Aborting why v k → ⊥
  none_aborts logs quiet t why v k there none is =
      none_owed start tx (is_abort nodes tx) logs
      (replica_count (first_layout start.shape) t.touched) k quiet low due.some
      (subst (λ asked. IsOwed start tx (is_abort nodes tx) logs (replica_count (first_layout start.shape) t.touched)
      (asked_count (first_layout start.shape) asked) k) none due.owed)
    where
      due : IsDue logs t k
      due = along start AllDue first step logs quiet.within quiet.right t why v k there is

-- at quiet a transaction that aborts has an operation unanswered
pub no_abort : NoAbortIsAwaited
no_abort start logs h tx t quiet low live none = go t.phase refl
  where
    there : tx_at tx (after start h (logs h)) ≡ Some t
    there = live_tx start tx h (logs h) t live

    of : IsHome start tx h
    of = at_home start tx h (logs h) t low there

    go : (phase : Phase) → t.phase ≡ phase → is_aborting t.phase ≡ false
    go (Aborting why v k) p =
        absurd
        (none_aborts start quiet.shape tx of.some of.low logs quiet t why v k
        (subst (λ j. tx_at tx (after start j (logs j)) ≡ Some t) of.is there) none p)
    go Open p = ap is_aborting p
    go Verifying p = ap is_aborting p
    go (Committing epoch k) p = ap is_aborting p
    go (Completing epoch k) p = ap is_aborting p
