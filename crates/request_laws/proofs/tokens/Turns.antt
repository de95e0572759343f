-- What a coordinator does to a transaction that has an operation unanswered, and when it sends a request: an operation
-- is asked for while nothing is unanswered, and ends by an answer or as the transaction goes back.
use Rattle.std.proofs.Common.{◌≡◌, ◌||◌, ℕ, Bool, true, false, List, refl, sym, ap, ◌∙◌}
use Rattle.std.proofs.lemmas.Bool.{and_parts, true≢false}
use Rattle.std.specs.Prelude.{◌+◌, cond, is_some, map, Option, None, Some}
use Rattle.sig_core.specs.declared.member.TxId.{TxId}
use Rattle.sig_core.specs.declared.outcome.AbortCause.{AbortCause}
use Rattle.sig_core.specs.declared.outs.Outgoing.{Outgoing}
use Rattle.sig_core.specs.declared.signal.Body.{Body}
use Rattle.sig_core.specs.declared.signal.Body.TheVariants.{Client}
use Rattle.sig_core.specs.declared.signal.client.ClientSignal.TheVariants.{TcCommitReq}
use Rattle.sig_core.specs.Step.{sends_only}
use Rattle.sig_core.proofs.Keys.{same_tx-self}
use Rattle.frag_map.specs.Layout.{Layout}
use Rattle.host_laws.proofs.coordinator.Operations.{is_right}
use Rattle.run_laws.proofs.tokens.Still.{AreStill, IsStill, still_out, turns_still}
use Rattle.run_laws.specs.Tokens.{is_token}
use Rattle.tc_block.proofs.EachResume.{ResumeForms}
use Rattle.tc_block.specs.Abort.{abort_end}
use Rattle.tc_block.specs.Operate.{is_ready}
use Rattle.tc_block.specs.Phases.{is_aborting}
use Rattle.tc_block.specs.Resume.{anew_if, rechained}
use Rattle.tc_block.specs.Sends.{entering}
use Rattle.tc_block.specs.Turn.{Turn, asking, at_phase, ending, going}
use Rattle.tc_block.specs.declared.phase.Asked.{Asked}
use Rattle.tc_block.specs.declared.phase.Phase.{Phase}
use Rattle.tc_block.specs.declared.phase.Phase.TheVariants.{Aborting, Committing, Completing, Open, Verifying}
use Rattle.tc_block.specs.declared.transaction.Transaction.{Transaction}
use Rattle.tc_block.proofs.EachTurn.{AbortForms, CommittedForms, TurnForms, ready_is}
use Rattle.outcome_laws.specs.Counts.{count_sent}
use Rattle.request_laws.specs.Drives.{is_request}
use Rattle.request_laws.specs.Ways.{is_sent, tells_abort}
use Rattle.request_laws.proofs.tokens.Rows.{out_same}

-- what a turn of the transaction comes to for its tokens
pub data TokenTurn (tx : TxId) (t : Transaction) (body : Body) (turn : Turn) : Type 0 where
  -- what is unanswered stays so
  rests : count_sent (is_token tx) turn.step.effects.sends ≡ 0 → turn.over ≡ false
      → turn.step.state.asked ≡ t.asked → is_right turn.step.state.asked turn.step.state.phase ≡ true
      → (is_aborting t.phase ≡ true → is_aborting turn.step.state.phase ≡ true) → TokenTurn tx t body turn
  -- an answer comes
  hears : is_token tx body ≡ true → count_sent (is_token tx) turn.step.effects.sends ≡ 0 → turn.over ≡ false
      → turn.step.state.asked ≡ None
      → (is_aborting t.phase ≡ true → is_aborting turn.step.state.phase ≡ true) → TokenTurn tx t body turn
  -- it ends, with nothing unanswered
  ends : count_sent (is_token tx) turn.step.effects.sends ≡ 0 → turn.over ≡ true → t.asked ≡ None
      → is_aborting t.phase ≡ false → TokenTurn tx t body turn
  -- it goes back
  falls : count_sent (is_token tx) turn.step.effects.sends ≡ 0
      → (turn.over ≡ false → is_aborting turn.step.state.phase ≡ true)
      → (turn.over ≡ true → is_sent (tells_abort tx) turn.step.effects.sends ≡ true) → TokenTurn tx t body turn
  -- an operation is asked for
  asks : count_sent (is_token tx) turn.step.effects.sends ≡ 1 → is_sent (is_request tx) turn.step.effects.sends ≡ true
      → t.asked ≡ None → t.phase ≡ Open → turn.over ≡ false → is_some turn.step.state.asked ≡ true
      → turn.step.state.phase ≡ Open → TokenTurn tx t body turn

module _ (node : ℕ) (layout : Layout) (tx : TxId) where
  none_out : (sends : List Outgoing) → AreStill tx sends → count_sent (is_token tx) sends ≡ 0
  none_out sends still = sym (out_same tx sends) ∙ still_out tx sends still

  -- what a transaction sends in its phases isn't of this kind
  enters_none : (u : Transaction) (phase : Phase)
      → count_sent (is_token tx) (entering node layout tx u phase).effects.sends ≡ 0
  unfolding entering
  enters_none u phase =
      none_out _
      ((turns_still tx tx node layout (at_phase u phase) (Client (TcCommitReq tx)) (λ op is.
      absurd cc)).goes_on 0).sends

  end_none : (why : AbortCause) (verifying : Bool)
      → count_sent (is_token tx) (abort_end node tx why verifying) ≡ 0
  end_none why true = refl
  end_none why false = refl

  end_tells : (why : AbortCause) (verifying : Bool) → is_sent (tells_abort tx) (abort_end node tx why verifying) ≡ true
  end_tells why true = ap (λ b. b || false) (same_tx-self tx)
  end_tells why false = ap (λ b. b || false) (same_tx-self tx)

  right_none : (asked : Option Asked) (phase : Phase) → asked ≡ None → is_right asked phase ≡ true
  right_none asked phase none = ap (λ o. is_right o phase) none

  -- in these phases nothing is unanswered
  verifying_none : (asked : Option Asked) (phase : Phase) → is_right asked phase ≡ true → phase ≡ Verifying
      → asked ≡ None
  verifying_none None phase right at = refl
  verifying_none (Some a) phase right at =
      absurd (true≢false (sym right ∙ ap (is_right (Some a)) at))

  committing_none : (asked : Option Asked) (phase : Phase) (epoch awaited : ℕ) → is_right asked phase ≡ true
      → phase ≡ Committing epoch awaited → asked ≡ None
  committing_none None phase epoch awaited right at = refl
  committing_none (Some a) phase epoch awaited right at =
      absurd (true≢false (sym right ∙ ap (is_right (Some a)) at))

  completing_none : (asked : Option Asked) (phase : Phase) (epoch awaited : ℕ) → is_right asked phase ≡ true
      → phase ≡ Completing epoch awaited → asked ≡ None
  completing_none None phase epoch awaited right at = refl
  completing_none (Some a) phase epoch awaited right at =
      absurd (true≢false (sym right ∙ ap (is_right (Some a)) at))

  module _ (t : Transaction) (right : is_right t.asked t.phase ≡ true) (body : Body) where
    abbrev R : Turn → Type 0
    R turn = TokenTurn tx t body turn

    goes_back : (u : Transaction) (why : AbortCause) (verifying : Bool) (awaited : ℕ)
        → R (going (entering node layout tx u (Aborting why verifying awaited)))
    unfolding entering
    goes_back u why verifying awaited =
        falls (enters_none u (Aborting why verifying awaited)) (λ on. refl) (λ over. absurd (true≢false (sym over)))

    is_back : (u : Transaction) (why : AbortCause) (verifying : Bool)
        → R (ending u (sends_only (abort_end node tx why verifying)))
    is_back u why verifying =
        falls (end_none why verifying) (λ on. absurd (true≢false on)) (λ over. end_tells why verifying)

    aborts : (u : Transaction) (why : AbortCause) → AbortForms node layout tx u why R
    aborts u why = record {
      enters = λ some. goes_back u why _ _;
      ends = λ none. is_back u why _;
    }

    -- nothing is unanswered, and it isn't aborted
    calm : (phase : Phase) → t.phase ≡ phase → is_aborting phase ≡ false → t.asked ≡ None → (turn : Turn)
        → count_sent (is_token tx) turn.step.effects.sends ≡ 0 → turn.over ≡ false
        → turn.step.state.asked ≡ t.asked → R turn
    calm phase at off none turn sends on same =
        rests sends on same (right_none turn.step.state.asked turn.step.state.phase (same ∙ none))
        (λ back. absurd (true≢false (sym back ∙ (ap is_aborting at ∙ off))))

    over_calm : (phase : Phase) → t.phase ≡ phase → is_aborting phase ≡ false → t.asked ≡ None → (turn : Turn)
        → count_sent (is_token tx) turn.step.effects.sends ≡ 0 → turn.over ≡ true → R turn
    over_calm phase at off none turn sends over = ends sends over none (ap is_aborting at ∙ off)

    committed_calm : (epoch : ℕ) (phase : Phase) → t.phase ≡ phase → is_aborting phase ≡ false → t.asked ≡ None
        → CommittedForms node layout tx t epoch R
    unfolding entering
    committed_calm epoch phase at off none = record {
      enters = λ some. calm phase at off none _ (enters_none t _) refl refl;
      ends = λ last. over_calm phase at off none _ refl refl;
    }

    stays_so : (turn : Turn) → turn.over ≡ false → turn.step.state ≡ t
        → count_sent (is_token tx) turn.step.effects.sends ≡ 0 → R turn
    stays_so turn on same sends =
        rests sends on (ap (λ (u : Transaction). u.asked) same)
        (ap (λ (u : Transaction). is_right u.asked u.phase) same ∙ right)
        (λ back. ap (λ (u : Transaction). is_aborting u.phase) same ∙ back)

    still : TurnForms node layout tx t (Client (TcCommitReq tx)) (IsStill tx)
    still = turns_still tx tx node layout t (Client (TcCommitReq tx)) (λ op is. absurd cc)

    -- whatever turn it takes
    pub turns_move : TurnForms node layout tx t body R
    unfolding entering
    turns_move = record {
      stays = stays_so _ refl refl refl;
      goes_on = λ at. stays_so _ refl refl (none_out _ (still.goes_on at).sends);
      operates = λ op is can.
          let ready = ready_is t.phase t.asked (and_parts (is_ready t.phase t.asked) _ can).0 in
          asks (ap (λ b. 0 + cond {A = ℕ} b 1 0) (same_tx-self tx)) (ap (λ b. b || false) (same_tx-self tx)) ready.1
          ready.0 refl refl ready.0;
      answers = λ key answer asked is on at.
          hears (ap (is_token tx) is ∙ same_tx-self tx) refl refl refl (λ back. back);
      late = λ key asked why verifying awaited on at.
          falls (none_out _ (still.late key asked why verifying awaited on at).sends) (λ on. ap is_aborting at)
          (λ over. absurd (true≢false (sym over)));
      waits = λ asked on. stays_so _ refl refl (none_out _ (still.waits asked on).sends);
      decides = λ is ready.
          calm Open (ready_is t.phase t.asked ready).0 refl (ready_is t.phase t.asked ready).1 _ refl refl refl;
      commits = λ epoch is at some.
          calm _ at refl (verifying_none t.asked t.phase right at) _ (enters_none t _) refl refl;
      commits_none = λ epoch is at. committed_calm epoch _ at refl (verifying_none t.asked t.phase right at);
      committed = λ epoch awaited at more.
          calm _ at refl (committing_none t.asked t.phase epoch awaited right at) _ refl refl refl;
      committed_all = λ epoch awaited at.
          committed_calm epoch _ at refl (committing_none t.asked t.phase epoch awaited right at);
      completed = λ epoch awaited at more.
          calm _ at refl (completing_none t.asked t.phase epoch awaited right at) _ refl refl refl;
      completed_all = λ epoch awaited at last.
          over_calm _ at refl (completing_none t.asked t.phase epoch awaited right at) _ refl refl;
      rolls_back = λ is undecided unaborted. aborts t _;
      refuses = λ key why asked is on at. aborts (asking t None) why;
      aborted = λ why verifying awaited at more.
          falls refl (λ on. refl) (λ over. absurd (true≢false (sym over)));
      aborted_all = λ why verifying awaited at last. is_back t why verifying;
    }

    -- and where an installation left something to do
    pub resumes_move : ResumeForms node layout tx t R
    unfolding entering
    resumes_move = record {
      stays = stays_so _ refl refl refl;
      fails = λ number is. aborts (asking t None) _;
      anew = λ why verifying awaited at b. anew why verifying b;
      recommits = λ epoch awaited at.
          calm _ at refl (committing_none t.asked t.phase epoch awaited right at) _ (enters_none again _) refl refl;
      recompletes = λ epoch awaited at.
          calm _ at refl (completing_none t.asked t.phase epoch awaited right at) _ (enters_none again _) refl refl;
    }
      where
        again : Transaction
        again = record t { touched = map (rechained layout) t.touched }

        anew : (why : AbortCause) (verifying b : Bool) → R (anew_if node layout tx (asking t None) why verifying b)
        anew why verifying true = is_back (asking t None) why verifying
        anew why verifying false = goes_back (asking t None) why verifying _
