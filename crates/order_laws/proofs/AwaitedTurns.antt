-- Turn by turn, what a coordinator awaits of a transaction against what is under way.
use Rattle.std.proofs.Common.{◌≡◌, ◌≤◌, ◌<◌, ◌+◌, ◌-◌, ℕ, suc, Bool, true, false, List, length, refl, sym, ap, ◌∙◌}
use Rattle.std.proofs.Common.{arith}
use Rattle.std.proofs.lemmas.Bool.{ltb-true, true≢false}
use Rattle.std.proofs.lemmas.Bool.Decides.{nat_tests}
use Rattle.std.proofs.lemmas.List.{length-map}
use Rattle.std.specs.Prelude.{if◌then◌else◌, nat_lt, None, Some}
use Rattle.std.proofs.lemmas.Bool.{and_parts}
use Rattle.run_theory.proofs.EachSent.{each_mapped}
use Rattle.run_theory.specs.Counts.{one_if}
use Rattle.sig_core.proofs.Keys.{same_tx-self}
use Rattle.sig_core.specs.declared.member.TxId.{TxId}
use Rattle.sig_core.specs.declared.outcome.AbortCause.{AbortCause}
use Rattle.sig_core.specs.declared.outs.Outgoing.{Outgoing}
use Rattle.sig_core.specs.declared.signal.Body.{Body}
use Rattle.sig_core.specs.declared.signal.Body.TheVariants.{Client, Host}
use Rattle.sig_core.specs.declared.signal.client.ClientSignal.TheVariants.{TcKeyConf}
use Rattle.sig_core.specs.declared.signal.host.HostSignal.TheVariants.{Continue}
use Rattle.sig_core.specs.declared.signal.host.Work.TheVariants as work
use Rattle.sig_core.specs.declared.op.Answer.{Answer}
use Rattle.sig_core.specs.declared.op.Op.{Op}
use Rattle.sig_core.specs.Place.{client}
use Rattle.sig_core.specs.Step.{sending, stay}
use Rattle.sig_core.specs.Op.{key_of}
use Rattle.sig_core.specs.Same.{same_tx}
use Rattle.frag_map.specs.Layout.{Layout, chain_of}
use Rattle.row_records.proofs.KeyLemmas as keys
use Rattle.tc_block.specs.Abort as abort
use Rattle.tc_block.specs.Complete as complete
use Rattle.tc_block.specs.declared.phase.Asked.{Asked}
use Rattle.tc_block.specs.declared.phase.Phase.{Phase}
use Rattle.tc_block.specs.declared.phase.Phase.TheVariants.{Open, Verifying, Committing, Completing, Aborting}
use Rattle.tc_block.specs.declared.transaction.Transaction.{Transaction}
use Rattle.tc_block.specs.Commit.{verify_if}
use Rattle.tc_block.specs.Operate.{answered, can_operate, is_ready, late_answer, operating, touched_after, wait_by}
use Rattle.tc_block.specs.Touched.{fits, touch}
use Rattle.tc_block.specs.Phases.{is_aborting, is_decided}
use Rattle.tc_block.specs.Sends.{abort_of, aborts_of, entering, go_on_if, phase_sends, wait_of, waits_of}
use Rattle.tc_block.specs.Turn.{Turn, asking, at_phase, going}
use Rattle.tc_block.proofs.EachTurn.{AbortForms, CommittedForms, IsAnswered, TurnFormsAt, ready_is, rows_at}
use Rattle.tc_block.proofs.TurnRows.{turn_for}
use Rattle.run_laws.proofs.hosts.TxTurns.{is_for, turn_each}
use Rattle.order_laws.specs.Awaited.{awaited_in, due, list_length, owed_in}
use Rattle.order_laws.proofs.AwaitedSends.{aborts_one, completions_weigh, is_due, off_weighs, part_weighs, phase_long}
use Rattle.order_laws.proofs.AwaitedSends.{phase_one, weigh_ones, weighs}

module _ (node : ℕ) (layout : Layout) (tx : TxId) where
  -- how long its list is, and what it still sends
  abbrev pub long : Transaction → ℕ
  long t = list_length layout t.phase t.touched

  abbrev pub owes : Transaction → ℕ
  owes t = owed_in layout t.phase t.asked

  abbrev sent : ℕ → Turn → ℕ
  sent count turn = weighs tx count turn.step.effects.sends

  -- A turn goes on with what is awaited; or that has come, and the transaction begins something new, or is over.
  pub data Awaits (t : Transaction) (body : Body) (turn : Turn) : Type 0 where
    goes : turn.over ≡ false → long turn.step.state ≡ long t
        → sent (long t) turn + awaited_in t.phase + owes turn.step.state
        ≤ due tx (long t) body + awaited_in turn.step.state.phase + owes t → Awaits t body turn
    enters : turn.over ≡ false → awaited_in t.phase ≤ due tx (long t) body + owes t
        → sent (long turn.step.state) turn + owes turn.step.state ≤ awaited_in turn.step.state.phase
        → Awaits t body turn
    ends : turn.over ≡ true → awaited_in t.phase ≤ due tx (long t) body + owes t → sent 0 turn ≡ 0
        → Awaits t body turn

  long_at : (t : Transaction) (phase : Phase) → t.phase ≡ phase → long t ≡ list_length layout phase t.touched
  long_at t phase at = ap (λ p. list_length layout p t.touched) at

  awaits_at : (t : Transaction) (phase : Phase) → t.phase ≡ phase → awaited_in t.phase ≡ awaited_in phase
  awaits_at t phase at = ap awaited_in at

  owes_at : (t : Transaction) (phase : Phase) → t.phase ≡ phase → owes t ≡ owed_in layout phase t.asked
  owes_at t phase at = ap (λ p. owed_in layout p t.asked) at

  own_one : one_if (same_tx tx tx) ≡ 1
  own_one = ap one_if (same_tx-self tx)

  end_none : (why : AbortCause) (b : Bool) → weighs tx 0 (abort.abort_end node tx why b) ≡ 0
  end_none why true = refl
  end_none why false = refl

  -- an abort begins, or is over at once
  enters_abort : (t u : Transaction) (body : Body) (why : AbortCause) → awaited_in t.phase ≡ 0
      → AbortForms node layout tx u why (Awaits t body)
  unfolding entering
  enters_abort t u body why none = record {
    enters = λ some.
        let phase : Phase = Aborting why (abort.is_verifying u.phase) (abort.aborts_awaited layout u) in
        enters refl (omega (arith, none))
        (omega (
          arith,
          part_weighs tx node (abort.replica_count layout u.touched) (phase_sends layout tx phase u.touched) 0
              (phase_long tx layout phase u.touched)
              (phase_one tx layout (abort.replica_count layout u.touched) phase u.touched),
        ));
    ends = λ zero. ends refl (omega (arith, none)) (end_none why (abort.is_verifying u.phase));
  }

  -- all keys are committed
  enters_completing : (t : Transaction) (body : Body) (epoch : ℕ)
      → awaited_in t.phase ≤ due tx (long t) body + owes t → CommittedForms node layout tx t epoch (Awaits t body)
  unfolding entering
  enters_completing t body epoch come = record {
    enters = λ some.
        enters refl come
        (omega (arith, completions_weigh tx layout node epoch (complete.written_count t.touched) t.touched));
    ends = λ none. ends refl come refl;
  }

  aborts_weigh : (count : ℕ) (key : List ℕ)
      → weighs tx count (aborts_of tx key (chain_of layout key)) ≤ length (chain_of layout key)
  aborts_weigh count key =
      omega (
        arith,
        weigh_ones (λ (o : Outgoing). due tx count o.body) (aborts_of tx key (chain_of layout key))
            (aborts_one tx layout count key (chain_of layout key)),
        length-map (chain_of layout key) (abort_of tx key),
      )

  undecided_none : (phase : Phase) → is_decided phase ≡ false → is_aborting phase ≡ false → awaited_in phase ≡ 0
  undecided_none Open undecided unaborted = refl
  undecided_none Verifying undecided unaborted = refl
  undecided_none (Committing epoch awaited) undecided unaborted = absurd (true≢false undecided)
  undecided_none (Completing epoch awaited) undecided unaborted = absurd (true≢false undecided)
  undecided_none (Aborting why verifying awaited) undecided unaborted = absurd (true≢false unaborted)

  pub last_is : (awaited : ℕ) → nat_lt 1 awaited ≡ false → awaited ≤ 1
  last_is awaited e = grind (arith, nat_tests, e)

  module _ (t : Transaction) (body : Body) where
    -- where nothing that is awaited comes or is sent
    stays_so : Awaits t body (going (stay t))
    stays_so = goes refl refl (omega arith)

    -- an answer comes, and isn't the last one
    one_less : (phase next : Phase) (n : ℕ) → t.phase ≡ phase → awaited_in phase ≡ n → awaited_in next ≡ n - 1
        → 1 < n → list_length layout next t.touched ≡ list_length layout phase t.touched
        → owed_in layout next t.asked ≡ owed_in layout phase t.asked → due tx (long t) body ≡ 1
        → Awaits t body (going (stay (at_phase t next)))
    one_less phase next n at was now more same owed one =
        goes refl (same ∙ sym (long_at t phase at))
        (omega (arith, awaits_at t phase at, was, now, more, owes_at t phase at, owed, one))

    -- and the last one
    last_comes : (phase : Phase) (n : ℕ) → t.phase ≡ phase → awaited_in phase ≡ n → n ≤ 1
        → due tx (long t) body ≡ 1 → awaited_in t.phase ≤ due tx (long t) body + owes t
    last_comes phase n at was last one = omega (arith, awaits_at t phase at, was, last, one)

    goes_on : (at : ℕ) → body ≡ Host (Continue (work.Transaction tx) at)
        → Awaits t body (going (go_on_if node layout tx t at true))
    goes_on at is =
        goes refl refl
        (omega (
          arith,
          part_weighs tx node (long t) (phase_sends layout tx t.phase t.touched) at
              (phase_long tx layout t.phase t.touched) (phase_one tx layout (long t) t.phase t.touched),
          ap (due tx (long t)) is,
          ap (λ b. if b then suc (long t - suc at) else 0) (same_tx-self tx),
        ))

    operates : (op : Op) → can_operate t op ≡ true
        → Awaits t body (going (operating tx t op (chain_of layout (key_of op))))
    operates op can =
        let at : t.phase ≡ Open = (ready_is t.phase t.asked (and_parts (is_ready t.phase t.asked)
        (fits t.touched (key_of op)) can).0).0 in
        goes refl
        (ap (λ p. list_length layout p (touch t.touched (key_of op) (chain_of layout (key_of op)))) at
        ∙ sym (long_at t Open at))
        (omega (
          arith,
          awaits_at t Open at,
          ap (λ p. owed_in layout p (Some (record { op = op; chain = chain_of layout (key_of op) }))) at,
        ))

    answers : (asked : Asked) (answer : Answer) → t.phase ≡ Open
        → Awaits t body (going (sending (answered t asked answer) client (Client (TcKeyConf tx answer))))
    answers asked answer at =
        goes refl
        (ap (λ p. list_length layout p (touched_after answer t.touched asked.op asked.chain)) at
        ∙ sym (long_at t Open at))
        (omega (arith, awaits_at t Open at, ap (λ p. owed_in layout p None) at))

    late : (key : List ℕ) (asked : Asked) (why : AbortCause) (verifying : Bool) (awaited : ℕ)
        → IsAnswered t key asked → t.phase ≡ Aborting why verifying awaited
        → Awaits t body (going (late_answer layout tx t key))
    late key asked why verifying awaited on at =
        goes refl refl
        (omega (
          arith,
          aborts_weigh (long t) key,
          owes_at t (Aborting why verifying awaited) at,
          ap (λ p. owed_in layout p None) at,
          ap (abort.asked_count layout) on.is,
          ap (λ k. length (chain_of layout k)) (keys.same (key_of asked.op) key on.on),
        ))

    waits : (asked : Asked) → Awaits t body (going (wait_by tx t (Some asked)))
    waits asked =
        goes refl refl
        (omega (
          arith,
          off_weighs tx (long t) (waits_of tx (key_of asked.op) asked.chain)
              (each_mapped (λ (o : Outgoing). is_due tx o.body ≡ false) (wait_of tx (key_of asked.op)) asked.chain
              (λ r. refl)),
        ))

    decides : is_ready t.phase t.asked ≡ true → Awaits t body (going (verify_if node tx t true))
    decides ready =
        let at : t.phase ≡ Open = (ready_is t.phase t.asked ready).0 in
        goes refl (sym (long_at t Open at)) (omega (arith, awaits_at t Open at))

    commits : (epoch : ℕ) → t.phase ≡ Verifying
        → Awaits t body (going (entering node layout tx t (Committing epoch (length t.touched))))
    unfolding entering
    commits epoch at =
        enters refl (omega (arith, awaits_at t Verifying at))
        (omega (
          arith,
          part_weighs tx node (length t.touched)
              (phase_sends layout tx (Committing epoch (length t.touched)) t.touched) 0
              (phase_long tx layout (Committing epoch (length t.touched)) t.touched)
              (phase_one tx layout (length t.touched) (Committing epoch (length t.touched)) t.touched),
        ))

  awaits_forms : (t : Transaction) (body : Body) → TurnFormsAt node layout tx t body (Awaits t body)
  awaits_forms t body = record {
    stays = λ other missed. stays_so t body;
    stops = λ at is high. stays_so t body;
    goes_on = λ at is low. goes_on t body at is;
    operates = λ op is can. operates t body op can;
    answers = λ key answer asked is on at. answers t body asked answer at;
    late = λ key asked why verifying awaited is on at. late t body key asked why verifying awaited on at;
    waits = λ asked is on. waits t body asked;
    decides = λ is ready. decides t body ready;
    commits = λ epoch is at some. commits t body epoch at;
    commits_none = λ epoch is at none. enters_completing t body epoch (omega (arith, awaits_at t Verifying at));
    committed = λ key epoch awaited is at more.
        one_less t body (Committing epoch awaited) (Committing epoch (awaited - 1)) awaited at refl refl
        (ltb-true 1 awaited more) refl refl (ap (due tx (long t)) is ∙ own_one);
    committed_all = λ key epoch awaited is at last.
        enters_completing t body epoch
        (last_comes t body (Committing epoch awaited) awaited at refl (last_is awaited last)
        (ap (due tx (long t)) is ∙ own_one));
    completed = λ key epoch awaited is at more.
        one_less t body (Completing epoch awaited) (Completing epoch (awaited - 1)) awaited at refl refl
        (ltb-true 1 awaited more) refl refl (ap (due tx (long t)) is ∙ own_one);
    completed_all = λ key epoch awaited is at last.
        ends refl
        (last_comes t body (Completing epoch awaited) awaited at refl (last_is awaited last)
        (ap (due tx (long t)) is ∙ own_one)) refl;
    rolls_back = λ is undecided unaborted.
        enters_abort t t body _ (undecided_none t.phase undecided unaborted);
    refuses = λ key why asked is on at. enters_abort t (asking t None) body why (awaits_at t Open at);
    aborted = λ key why verifying awaited is at more.
        one_less t body (Aborting why verifying awaited) (Aborting why verifying (awaited - 1)) awaited at refl refl
        (ltb-true 1 awaited more) refl refl (ap (due tx (long t)) is ∙ own_one);
    aborted_all = λ key why verifying awaited is at last.
        ends refl
        (last_comes t body (Aborting why verifying awaited) awaited at refl (last_is awaited last)
        (ap (due tx (long t)) is ∙ own_one)) (end_none why verifying);
  }

  pub turn_awaits : (t : Transaction) (body : Body) → is_for tx body ≡ true
      → Awaits t body (turn_for node layout tx body t)
  turn_awaits t body own =
      turn_each node layout tx body t (Awaits t body)
      (rows_at node layout tx t body (Awaits t body) (awaits_forms t body)) own
