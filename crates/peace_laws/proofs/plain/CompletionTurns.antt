-- Turn by turn: what a transaction that completes awaits is sent, or still to be sent.
use Rattle.std.proofs.Common.{◌≡◌, ◌≤◌, ◌+◌, ◌-◌, ℕ, Bool, true, false, List, length, refl, sym, ap, ◌∙◌, arith}
use Rattle.std.proofs.lemmas.Bool.{and_parts, false≢true, ltb-true, true≢false}
use Rattle.std.proofs.lemmas.Bool.Decides.{nat_tests}
use Rattle.std.specs.Prelude.{◌==◌, ◌&&◌, Some}
use Rattle.sig_core.specs.declared.member.TxId.{TxId}
use Rattle.sig_core.specs.declared.outs.Outgoing.{Outgoing}
use Rattle.sig_core.specs.declared.place.Place.{Place}
use Rattle.sig_core.specs.declared.signal.Body.{Body}
use Rattle.sig_core.specs.declared.signal.Body.TheVariants.{Chain, Host}
use Rattle.sig_core.specs.declared.signal.chain.ChainSignal.TheVariants.{Complete, Completed}
use Rattle.sig_core.specs.declared.signal.host.HostSignal.TheVariants.{Continue}
use Rattle.sig_core.specs.declared.signal.host.Work.TheVariants as work
use Rattle.sig_core.specs.Op.{key_of}
use Rattle.sig_core.specs.Same.{same_tx}
use Rattle.sig_core.specs.Step.{stay}
use Rattle.frag_map.specs.Layout.{Layout}
use Rattle.tc_block.proofs.EachTurn.{CommittedForms, IsMissed, TurnFormsAt, is_onward, ready_is, rows_at}
use Rattle.tc_block.proofs.TurnRows.{is_turn, tx_in, turn_for}
use Rattle.tc_block.specs.Complete as complete
use Rattle.tc_block.specs.declared.phase.Phase.TheVariants.{Completing}
use Rattle.tc_block.specs.declared.sends.TheConstants.{SENDS}
use Rattle.tc_block.specs.declared.transaction.Transaction.{Transaction}
use Rattle.tc_block.specs.Operate.{is_ready, wait_by}
use Rattle.tc_block.specs.Phases.{is_completing}
use Rattle.tc_block.specs.Sends.{entering, go_on_if, phase_sends}
use Rattle.tc_block.specs.Touched.{fits}
use Rattle.tc_block.specs.Turn.{Turn, going}
use Rattle.host_laws.proofs.hosts.Sums.{one_most}
use Rattle.run_laws.proofs.hosts.TxTurns.{is_for, turn_each}
use Rattle.run_laws.proofs.transit.Weighing.{in_sends}
use Rattle.order_laws.proofs.CompletingTurns.{completions_same}
use Rattle.order_laws.specs.Awaited.{awaited_in}
use Rattle.peace_laws.proofs.plain.Completions.{is_home, late_stands, list_completions, next_stands, part_stands}
use Rattle.peace_laws.proofs.plain.Completions.{stands}

module _ (node : ℕ) (layout : Layout) (tx : TxId) (home : node ≡ tx.tc) where
  abbrev pub list_of : Transaction → List Outgoing
  list_of t = phase_sends layout tx t.phase t.touched

  -- A turn ends the transaction, or leaves it in another phase; or it begins to complete, and sends as much as it
  -- awaits then, or goes on with that.
  pub data Completes (t : Transaction) (to : Place) (body : Body) (turn : Turn) : Type 0 where
    ends : turn.over ≡ true → Completes t to body turn
    elsewhere : turn.over ≡ false → is_completing turn.step.state.phase ≡ false → Completes t to body turn
    begins : turn.over ≡ false → 1 ≤ awaited_in turn.step.state.phase
        → awaited_in turn.step.state.phase ≤ in_sends (stands tx (list_of turn.step.state)) turn.step.effects.sends
        → Completes t to body turn
    goes : turn.over ≡ false → is_completing t.phase ≡ true → list_of turn.step.state ≡ list_of t
        → (1 ≤ awaited_in t.phase → 1 ≤ awaited_in turn.step.state.phase)
        → awaited_in turn.step.state.phase + stands tx (list_of t) to body
        ≤ awaited_in t.phase + in_sends (stands tx (list_of t)) turn.step.effects.sends
        → Completes t to body turn

  module _ (t : Transaction) (to : Place) (body : Body) (own : is_for tx body ≡ true)
      (short : is_completing t.phase ≡ true → length (list_of t) ≤ SENDS) where
    abbrev R : Turn → Type 0
    R turn = Completes t to body turn

    a_turn : is_turn body ≡ true
    a_turn = (and_parts (is_turn body) (same_tx (tx_in body) tx) own).0

    -- where it stays as it is
    same_state : (turn : Turn) → turn.over ≡ false → turn.step.state ≡ t
        → (is_completing t.phase ≡ true
        → stands tx (list_of t) to body ≤ in_sends (stands tx (list_of t)) turn.step.effects.sends) → R turn
    same_state turn over is less = by (is_completing t.phase) refl
      where
        by : (b : Bool) → is_completing t.phase ≡ b → R turn
        by true on =
            goes over on (ap list_of is) (λ some. omega (arith, some, ap (λ (u : Transaction). awaited_in u.phase) is))
            (omega (arith, less on, ap (λ (u : Transaction). awaited_in u.phase) is))
        by false off = elsewhere over (ap (λ (u : Transaction). is_completing u.phase) is ∙ off)

    -- what is missed by one that completes stands for nothing
    missed_none : (b : Body) → is_turn b ≡ true → is_onward b ≡ false → IsMissed t b → is_completing t.phase ≡ true
        → stands tx (list_of t) to b ≡ 0
    missed_none (Host (Continue (work.Transaction one) at)) is off missed on = absurd (true≢false off)
    missed_none (Chain (Complete one key chain at)) is off missed on = absurd (false≢true is)
    missed_none (Chain (Completed one key)) is off missed on = absurd (false≢true (sym missed ∙ on))
    missed_none _ is off missed on = refl

    -- all keys are committed
    all_committed : (epoch : ℕ) → CommittedForms node layout tx t epoch R
    unfolding entering
    all_committed epoch = record {
      enters = λ some.
          begins refl (at_least (complete.written_count t.touched) some)
          (omega (
            arith,
            part_stands tx (phase_sends layout tx (Completing epoch (complete.written_count t.touched)) t.touched)
                node 0 home,
            list_completions layout tx epoch (complete.written_count t.touched) t.touched,
          ));
      ends = λ none. ends refl;
    }
      where
        at_least : (n : ℕ) → (n == 0) ≡ false → 1 ≤ n
        at_least n e = grind (arith, nat_tests, e)

    completes_forms : TurnFormsAt node layout tx t body R
    unfolding entering
    completes_forms = record {
      stays = λ off missed.
          same_state (going (stay t)) refl refl (λ on. omega (arith, missed_none body a_turn off missed on));
      stops = λ at is high.
          same_state (going (stay t)) refl refl
          (λ on. omega (
            arith,
            ap (stands tx (list_of t) to) is,
            late_stands tx (list_of t) at to tx (omega (arith, short on, high)),
          ));
      goes_on = λ at is low.
          same_state (going (go_on_if node layout tx t at true)) refl refl
          (λ on. omega (arith, ap (stands tx (list_of t) to) is, next_stands tx (list_of t) node at to home));
      operates = λ op is can.
          elsewhere refl
          (ap is_completing (ready_is t.phase t.asked (and_parts (is_ready t.phase t.asked)
          (fits t.touched (key_of op)) can).0).0);
      answers = λ key answer asked is on at. elsewhere refl (ap is_completing at);
      late = λ key asked why verifying awaited is on at. elsewhere refl (ap is_completing at);
      waits = λ asked is on.
          same_state (going (wait_by tx t (Some asked))) refl refl
          (λ on. omega (arith, ap (stands tx (list_of t) to) is));
      decides = λ is ready. elsewhere refl refl;
      commits = λ epoch is at some. elsewhere refl refl;
      commits_none = λ epoch is at none. all_committed epoch;
      committed = λ key epoch awaited is at more. elsewhere refl refl;
      committed_all = λ key epoch awaited is at last. all_committed epoch;
      completed = λ key epoch awaited is at more.
          goes refl (ap is_completing at)
          (completions_same layout tx epoch (awaited - 1) awaited t.touched
          ∙ sym (ap (λ p. phase_sends layout tx p t.touched) at))
          (λ some. omega (arith, ltb-true 1 awaited more))
          (omega (
            arith,
            ltb-true 1 awaited more,
            ap awaited_in at,
            ap (stands tx (list_of t) to) is,
            one_most (is_home tx to && same_tx tx tx),
          ));
      completed_all = λ key epoch awaited is at last. ends refl;
      rolls_back = λ is off unaborted. record { enters = λ some. elsewhere refl refl; ends = λ none. ends refl };
      refuses = λ key why asked is on at. record { enters = λ some. elsewhere refl refl; ends = λ none. ends refl };
      aborted = λ key why verifying awaited is at more. elsewhere refl refl;
      aborted_all = λ key why verifying awaited is at last. ends refl;
    }

    pub turn_completes : Completes t to body (turn_for node layout tx body t)
    turn_completes = turn_each node layout tx body t R (rows_at node layout tx t body R completes_forms) own
