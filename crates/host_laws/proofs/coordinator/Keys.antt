-- A coordinator answers each operation that it takes once: what it has unanswered and what it has answered it was asked
-- for.
use Rattle.std.proofs.Common.{◌≡◌, ℕ, ◌+◌, ◌≤◌, List, [], ◌∷◌, ◌++◌, Bool, true, false, refl, ap, sym, subst, arith}
use Rattle.std.specs.Prelude.{◌==◌, ◌&&◌, is_some, None, if◌then◌else◌}
use Rattle.indexmap.specs.IndexMap.{insert_entry}
use Rattle.sig_core.specs.declared.member.TxId.{TxId}
use Rattle.sig_core.specs.declared.outcome.AbortCause.{AbortCause}
use Rattle.sig_core.specs.declared.outs.Outgoing.{Outgoing}
use Rattle.sig_core.specs.declared.place.Place.{Place}
use Rattle.sig_core.specs.declared.signal.Body.{Body}
use Rattle.sig_core.specs.declared.signal.Body.TheVariants.{Client}
use Rattle.sig_core.specs.declared.signal.client.ClientSignal.TheVariants.{TcKeyReq, TcKeyConf}
use Rattle.frag_map.specs.Layout.{Layout, chain_of}
use Rattle.sig_core.specs.Op.{key_of}
use Rattle.sig_core.specs.Same.{same_tx}
use Rattle.sig_core.specs.Step.{Step}
use Rattle.tc_block.specs.declared.transaction.Transaction.{Transaction}
use Rattle.tc_block.specs.Operate as operate
use Rattle.tc_block.specs.Sends.{entering}
use Rattle.tc_block.specs.State.{TcState}
use Rattle.tc_block.specs.Tc.{next_tx, tc_table}
use Rattle.tc_block.specs.Turn.{Turn, asking}
use Rattle.sig_core.proofs.Keys.{same_tx-self}
use Rattle.tc_block.proofs.EachTurn.{AbortForms, CommittedForms, TurnForms, TurnFormsAt, rows_at}
use Rattle.tc_block.proofs.TurnRows.{TcStep, begins, left_in, misses, passes, refuses, rests, takes, tc_step, turn_by}
use Rattle.tc_block.proofs.TurnRows.{turn_row, tx_in, left_step}
use Rattle.host_laws.proofs.hosts.SendKinds.{are_of, is_keyless, is_tc_kind, none_of}
use Rattle.run_theory.proofs.Tally.{tally_between}
use Rattle.run_theory.specs.Counts.{one_if, tally}
use Rattle.host_laws.proofs.coordinator.Keyless.{is_answered, keyless_forms, late_keyless}
use Rattle.host_laws.proofs.coordinator.Lives.{apart}
use Rattle.host_laws.proofs.coordinator.Moves.{same_tx-is}
use Rattle.host_laws.proofs.coordinator.Sends.{turn_sends}
use Rattle.host_laws.proofs.coordinator.TurnKinds.{TurnOnly}
use Rattle.host_laws.proofs.api.Wishes.{and_false, is_api, is_tc, sends_of, to_node}
use Rattle.host_laws.proofs.hosts.Sums.{one_most}

-- an operation of the transaction is asked for at its coordinator
abbrev pub key_of_tx : TxId → Body → Bool
key_of_tx tx (Client (TcKeyReq other op)) = same_tx other tx
key_of_tx tx _ = false

abbrev pub is_key : TxId → Place → Body → Bool
is_key tx to body = is_tc to.block && key_of_tx tx body

-- and is answered to the API
abbrev pub answer_of : TxId → Body → Bool
answer_of tx (Client (TcKeyConf other answer)) = same_tx other tx
answer_of tx _ = false

abbrev pub is_answer : TxId → Place → Body → Bool
is_answer tx to body = is_api to.block && answer_of tx body

abbrev pub answers_in : TxId → List Outgoing → ℕ
answers_in tx sends = sends_of (to_node 0 (is_answer tx)) sends

abbrev pub has_asked : Transaction → ℕ
has_asked t = one_if (is_some t.asked)

abbrev pub is_asked : TxId → TxId × Transaction → Bool
is_asked tx e = same_tx e.0 tx && is_some e.1.asked

no_answer_keyless : (tx : TxId) (body : Body) → is_keyless body ≡ true → answer_of tx body ≡ false
no_answer_keyless tx (Client (TcKeyConf other answer)) e = cc
no_answer_keyless tx _ e = refl

pub no_answers : (tx : TxId) (sends : List Outgoing) → are_of is_keyless sends ≡ true → answers_in tx sends ≡ 0
no_answers tx sends kind =
    none_of is_keyless (to_node 0 (is_answer tx))
    (λ to b k. and_false (to.node == 0) (is_api to.block) (no_answer_keyless tx b k)) sends kind

no_answer_other : (tx one : TxId) → same_tx one tx ≡ false → (body : Body) → is_tc_kind one body ≡ true
    → answer_of tx body ≡ false
no_answer_other tx one differs (Client (TcKeyConf other answer)) e = apart tx one other differs e
no_answer_other tx one differs _ e = refl

no_answers_other : (tx one : TxId) (sends : List Outgoing) → same_tx one tx ≡ false
    → are_of (is_tc_kind one) sends ≡ true → answers_in tx sends ≡ 0
no_answers_other tx one sends differs kind =
    none_of (is_tc_kind one) (to_node 0 (is_answer tx))
    (λ to b k. and_false (to.node == 0) (is_api to.block) (no_answer_other tx one differs b k)) sends kind

-- what is unanswered after a turn, or was answered with it, was unanswered before, or came with it
record IsFair (tx : TxId) (t : Transaction) (turn : Turn) (came : ℕ) : Type 0 where
  fair : has_asked turn.step.state + answers_in tx turn.step.effects.sends ≤ has_asked t + came

module _ (node : ℕ) (layout : Layout) (tx : TxId) (t : Transaction) (body : Body) where
  abbrev Fairly : Turn → Type 0
  Fairly turn = IsFair tx t turn (one_if (key_of_tx tx body))

  -- a turn that answers nothing
  still : (turn : Turn) → are_of is_keyless turn.step.effects.sends ≡ true → has_asked turn.step.state ≤ has_asked t
      → Fairly turn
  still turn kind less = record { fair = omega (arith, no_answers tx turn.step.effects.sends kind, less) }

  abort_fair : (u : Transaction) (why : AbortCause) → has_asked u ≤ has_asked t
      → AbortForms node layout tx u why (TurnOnly is_keyless)
      → AbortForms node layout tx u why Fairly
  unfolding entering
  abort_fair u why less kinds = record {
    enters = λ some. still _ (kinds.enters some) less;
    ends = λ none. still _ (kinds.ends none) less;
  }

  commit_fair : (epoch : ℕ) → CommittedForms node layout tx t epoch (TurnOnly is_keyless)
      → CommittedForms node layout tx t epoch Fairly
  unfolding entering
  commit_fair epoch kinds = record {
    enters = λ some. still _ (kinds.enters some) (omega arith);
    ends = λ none. still _ (kinds.ends none) (omega arith);
  }

  fair_forms : TurnFormsAt node layout tx t body Fairly
  unfolding entering
  fair_forms = record {
    stays = λ other missed. still _ refl (omega arith);
    stops = λ at is high. still _ refl (omega arith);
    goes_on = λ at is low. still _ ((kinds (ap is_answered is)).goes_on at) (omega arith);
    operates = λ op is can.
        record {
          fair = omega (
            arith,
            no_answers tx (operate.operating tx t op (chain_of layout (key_of op))).effects.sends
                ((kinds (ap is_answered is)).operates op is can),
            ap (λ b. one_if (key_of_tx tx b)) is,
            ap one_if (same_tx-self tx),
          );
        };
    answers = λ key answer asked is own at.
        record { fair = omega (arith, ap (λ o. one_if (is_some o)) own.is, one_most (same_tx tx tx)) };
    late = λ key asked why verifying awaited is own at. still _ (late_keyless layout tx t key) (omega arith);
    waits = λ asked is on. still _ ((kinds (ap is_answered is)).waits asked on) (omega arith);
    decides = λ is ready. still _ ((kinds (ap is_answered is)).decides is ready) (omega arith);
    commits = λ epoch is at some. still _ ((kinds (ap is_answered is)).commits epoch is at some) (omega arith);
    commits_none = λ epoch is at none. commit_fair epoch ((kinds (ap is_answered is)).commits_none epoch is at);
    committed = λ key epoch awaited is at more. still _ refl (omega arith);
    committed_all = λ key epoch awaited is at last.
        commit_fair epoch ((kinds (ap is_answered is)).committed_all epoch awaited at);
    completed = λ key epoch awaited is at more. still _ refl (omega arith);
    completed_all = λ key epoch awaited is at last.
        still _ ((kinds (ap is_answered is)).completed_all epoch awaited at last) (omega arith);
    rolls_back = λ is undecided unaborted.
        abort_fair t _ (omega arith) ((kinds (ap is_answered is)).rolls_back is undecided unaborted);
    refuses = λ key why asked is own at.
        abort_fair (asking t None) why (omega arith) ((kinds (ap is_answered is)).refuses key why asked is own.is at);
    aborted = λ key why verifying awaited is at more. still _ refl (omega arith);
    aborted_all = λ key why verifying awaited is at last.
        still _ ((kinds (ap is_answered is)).aborted_all why verifying awaited at last) (omega arith);
  }
    where
      kinds : is_answered body ≡ false → TurnForms node layout tx t body (TurnOnly is_keyless)
      kinds = keyless_forms node layout tx t body

turn_fair : (s : TcState) (body : Body) (t : Transaction)
    → IsFair (tx_in body) t (turn_row s body t) (one_if (key_of_tx (tx_in body) body))
turn_fair s body t =
    let tx = tx_in body in
    turn_by s t (Fairly s.node s.layout tx t body) body
    (rows_at s.node s.layout tx t body (Fairly s.node s.layout tx t body) (fair_forms s.node s.layout tx t body))
    (λ off. record { fair = omega arith })

module _ (tx : TxId) (s : TcState) where
  abbrev Fair : Step TcState → ℕ → Type 0
  Fair step came = tally (is_asked tx) step.state.live + answers_in tx step.effects.sends ≤ tally
      (is_asked tx) s.live + came

  fresh_few : (live : List (TxId × Transaction)) (one : TxId)
      → tally (is_asked tx) (insert_entry same_tx live one operate.fresh) ≤ tally (is_asked tx) live
  fresh_few [] one = none (same_tx one tx)
    where
      none : (b : Bool) → one_if (b && false) + 0 ≤ 0
      none true = omega arith
      none false = omega arith
  fresh_few (e ∷ live) one = go (same_tx one e.0) (fresh_few live one)
    where
      none : (b c : Bool) → one_if (b && false) ≤ one_if (b && c)
      none true c = omega arith
      none false c = omega arith

      go : (b : Bool) → tally (is_asked tx) (insert_entry same_tx live one operate.fresh) ≤ tally (is_asked tx) live
          → tally (is_asked tx)
          (if b then (e.0, operate.fresh) ∷ live else e ∷ insert_entry same_tx live one operate.fresh) ≤ tally
          (is_asked tx) (e ∷ live)
      go true rest = omega (arith, none (same_tx e.0 tx) (is_some e.1.asked))
      go false rest = omega (arith, rest)

  -- what is left of the transaction whose turn it was
  left_few : (one : TxId) (front back : List (TxId × Transaction)) (turn : Turn)
      → tally (is_asked tx) (left_in one front back turn) ≤ tally (is_asked tx) (front ++ back) + one_if
      (is_asked tx (one, turn.step.state))
  left_few one front back turn = by turn.over
    where
      by : (b : Bool) → tally (is_asked tx) (if b then front ++ back else front ++ (one, turn.step.state) ∷ back)
          ≤ tally (is_asked tx) (front ++ back) + one_if (is_asked tx (one, turn.step.state))
      by true = omega arith
      by false = omega (
        arith,
        tally_between (is_asked tx) front (one, turn.step.state) back (front ++ (one, turn.step.state) ∷ back) refl,
      )

  pub tc_fair : (body : Body) → Fair (tc_table s body) (one_if (key_of_tx tx body))
  tc_fair body = by (tc_table s body) (tc_step s body)
    where
      came : ℕ
      came = one_if (key_of_tx tx body)

      by : (step : Step TcState) → TcStep s body step → Fair step came
      by step (rests off is) = subst (λ st. Fair st came) (sym is) (omega arith)
      by step (refuses name about is) = subst (λ st. Fair st came) (sym is) (omega arith)
      by step (begins name about room is) =
          subst (λ st. Fair st came) (sym is) (omega (arith, fresh_few s.live (next_tx s)))
      by step (passes one ahead about is) = subst (λ st. Fair st came) (sym is) (omega arith)
      by step (misses turns none is) = subst (λ st. Fair st came) (sym is) (omega arith)
      by step (takes turns t front back was is) = subst (λ st. Fair st came) (sym is) (which (same_tx one tx) refl)
        where
          one : TxId
          one = tx_in body

          turn : Turn
          turn = turn_row s body t

          had : tally (is_asked tx) s.live
              ≡ tally (is_asked tx) (front ++ back) + one_if (same_tx one tx && is_some t.asked)
          had = tally_between (is_asked tx) front (one, t) back s.live was

          which : (m : Bool) → same_tx one tx ≡ m
              → Fair (left_step s one front back turn) came
          which false differs =
              omega (
                arith,
                had,
                left_few one front back turn,
                no_answers_other tx one turn.step.effects.sends differs (turn_sends s body t),
                ap (λ b. one_if (b && is_some turn.step.state.asked)) differs,
                ap (λ b. one_if (b && is_some t.asked)) differs,
              )
          which true same =
              omega (
                arith,
                had,
                left_few one front back turn,
                (subst (λ x. IsFair x t turn (one_if (key_of_tx x body))) (same_tx-is one tx same)
                    (turn_fair s body t)).fair,
                ap (λ b. one_if (b && is_some turn.step.state.asked)) same,
                ap (λ b. one_if (b && is_some t.asked)) same,
              )
