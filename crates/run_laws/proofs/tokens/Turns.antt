-- How many parts of its operations there may be after each turn of a transaction.
use Rattle.std.proofs.Common.{◌≡◌, ℕ, ◌+◌, ◌≤◌, List, [], Bool, true, false, refl, ap, sym, ◌∙◌, arith}
use Rattle.std.specs.Prelude.{if◌then◌else◌, is_some, Option, None, Some}
use Rattle.std.specs.List.{list_any}
use Rattle.std.proofs.lemmas.Bool.{and_parts, or_left}
use Rattle.sig_core.specs.declared.member.TxId.{TxId}
use Rattle.sig_core.specs.declared.op.Answer.{Answer}
use Rattle.sig_core.specs.declared.op.Op.{Op}
use Rattle.sig_core.specs.declared.outcome.AbortCause.{AbortCause}
use Rattle.sig_core.specs.declared.outs.Outgoing.{Outgoing}
use Rattle.sig_core.specs.declared.signal.Body.{Body}
use Rattle.sig_core.specs.declared.signal.Body.TheVariants.{Client, Chain, Epoch}
use Rattle.sig_core.specs.declared.signal.chain.ChainSignal.TheVariants.{LqhKeyConf, LqhKeyRef}
use Rattle.sig_core.specs.declared.signal.client.ClientSignal.TheVariants.{TcKeyReq, TcCommitReq, TcRollbackReq}
use Rattle.sig_core.specs.declared.signal.epoch.EpochSignal.TheVariants.{DiVerifyConf}
use Rattle.frag_map.specs.Layout.{Layout, chain_of}
use Rattle.sig_core.specs.Op.{key_of}
use Rattle.sig_core.specs.Same.{same_tx}
use Rattle.tc_block.specs.declared.phase.Asked.{Asked}
use Rattle.tc_block.specs.declared.phase.Phase.{Phase}
use Rattle.tc_block.specs.declared.phase.Phase.TheVariants.{Open, Verifying, Committing, Completing, Aborting}
use Rattle.tc_block.specs.declared.transaction.Transaction.{Transaction}
use Rattle.tc_block.specs.Abort as abort
use Rattle.tc_block.specs.Operate as operate
use Rattle.tc_block.specs.Sends.{entering}
use Rattle.tc_block.specs.Turn.{Turn, asking}
use Rattle.tc_block.specs.Phases.{is_aborting}
use Rattle.tc_block.proofs.EachTurn.{AbortForms, CommittedForms, may_ask, ready_is, TurnForms}
use Rattle.host_laws.specs.Ways.{back_by, put_ways}
use Rattle.sig_core.proofs.Keys.{same_tx-self}
use Rattle.run_theory.specs.Counts.{one_if}
use Rattle.host_laws.proofs.coordinator.Operations.{is_right}
use Rattle.run_laws.specs.Tokens.{budget_of}
use Rattle.run_laws.proofs.tokens.Rows.{tokens_out}
use Rattle.run_laws.proofs.tokens.Still.{IsStill, still_out, turns_still}

-- these signals give the transaction up
abbrev pub gives_up : TxId → List Outgoing → Bool
gives_up tx sends = list_any (same_tx tx) (put_ways back_by sends [])

-- how many parts there may be, by its phase and its unanswered operation
abbrev pub budget_at : Phase → Option Asked → ℕ
budget_at phase asked = if is_aborting phase then 1 else one_if (is_some asked)

-- and after a turn: where it is over, one if the transaction is given up
abbrev pub budget_after : TxId → Turn → ℕ
budget_after tx turn = if turn.over then one_if (gives_up tx turn.step.effects.sends) else budget_of turn.step.state

pub few : (phase : Phase) (asked : Option Asked) → budget_at phase asked ≤ 1
few phase asked = by (is_aborting phase) asked
  where
    by : (b : Bool) (asked : Option Asked) → (if b then 1 else one_if (is_some asked)) ≤ 1
    by true asked = omega arith
    by false None = omega arith
    by false (Some a) = omega arith

-- none where it takes neither operations nor is aborted
pub idle : (phase : Phase) (asked : Option Asked) → is_right asked phase ≡ true → may_ask phase ≡ false
    → budget_at phase asked ≡ 0
idle Open asked right off = absurd cc
idle (Aborting why verifying awaited) asked right off = absurd cc
idle Verifying None right off = refl
idle Verifying (Some a) right off = absurd cc
idle (Committing epoch awaited) None right off = refl
idle (Committing epoch awaited) (Some a) right off = absurd cc
idle (Completing epoch awaited) None right off = refl
idle (Completing epoch awaited) (Some a) right off = absurd cc

ready_none : (phase : Phase) (asked : Option Asked) → operate.is_ready phase asked ≡ true → budget_at phase asked ≡ 0
ready_none Open None e = refl
ready_none Open (Some a) e = absurd cc
ready_none Verifying asked e = absurd cc
ready_none (Committing epoch awaited) asked e = absurd cc
ready_none (Completing epoch awaited) asked e = absurd cc
ready_none (Aborting why verifying awaited) asked e = absurd cc

ready_may : (phase : Phase) (asked : Option Asked) → operate.is_ready phase asked ≡ true → may_ask phase ≡ true
ready_may Open asked e = refl
ready_may Verifying asked e = absurd cc
ready_may (Committing epoch awaited) asked e = absurd cc
ready_may (Completing epoch awaited) asked e = absurd cc
ready_may (Aborting why verifying awaited) asked e = absurd cc

one_asked : (phase : Phase) (a : Asked) → budget_at phase (Some a) ≡ 1
one_asked phase a = by (is_aborting phase)
  where
    by : (b : Bool) → ◌≡◌ {A = ℕ} (if b then 1 else 1) 1
    by true = refl
    by false = refl

-- A turn at which so many parts came. With those that came taken away, there are no more than there may be then.
pub record TurnTokens (tx : TxId) (t : Transaction) (came : ℕ) (turn : Turn) : Type 0 where
  pub right : is_right turn.step.state.asked turn.step.state.phase ≡ true
  pub own : (m : ℕ) → m + came ≤ budget_of t → m + tokens_out tx turn.step.effects.sends ≤ budget_after tx turn

-- who is told of its abort is given up
pub end_gives_up : (tx : TxId) (node : ℕ) (why : AbortCause) (b : Bool)
    → gives_up tx (abort.abort_end node tx why b) ≡ true
end_gives_up tx node why true = or_left (same_tx tx tx) false (same_tx-self tx)
end_gives_up tx node why false = or_left (same_tx tx tx) false (same_tx-self tx)

right_aborting : (asked : Option Asked) (why : AbortCause) (verifying : Bool) (awaited : ℕ)
    → is_right asked (Aborting why verifying awaited) ≡ true
right_aborting None why verifying awaited = refl
right_aborting (Some a) why verifying awaited = refl

right_none : (phase : Phase) (asked : Option Asked) → asked ≡ None → is_right asked phase ≡ true
right_none phase asked none = ap (λ a. is_right a phase) none

module _ (node : ℕ) (layout : Layout) (tx : TxId) (t : Transaction)
    (right : is_right t.asked t.phase ≡ true) (came : ℕ) where
  abbrev R : Turn → Type 0
  R turn = TurnTokens tx t came turn

  -- a turn at which nothing of it is sent
  still_turn : (turn : Turn) → is_right turn.step.state.asked turn.step.state.phase ≡ true → IsStill tx turn
      → ((m : ℕ) → m + came ≤ budget_of t → m ≤ budget_after tx turn) → R turn
  still_turn turn is still own = record {
    right = is;
    own = λ m low. omega (arith, own m low, still_out tx turn.step.effects.sends still.sends);
  }

  -- behind which it is as before, but for its phase; or there may be one
  as_before : (turn : Turn) → is_right turn.step.state.asked turn.step.state.phase ≡ true → IsStill tx turn
      → budget_after tx turn ≡ budget_of t → R turn
  as_before turn is still same = still_turn turn is still (λ m low. omega (arith, low, same))

  one_then : (turn : Turn) → is_right turn.step.state.asked turn.step.state.phase ≡ true → IsStill tx turn
      → budget_after tx turn ≡ 1 → R turn
  one_then turn is still one = still_turn turn is still (λ m low. omega (arith, low, few t.phase t.asked, one))

  -- nor is there one where it takes neither operations nor is aborted
  none_then : (phase : Phase) → t.phase ≡ phase → may_ask phase ≡ false → (turn : Turn)
      → turn.step.state.asked ≡ t.asked → IsStill tx turn → R turn
  none_then phase at off turn same still =
      still_turn turn (right_none turn.step.state.phase turn.step.state.asked (same ∙ none t.asked refl)) still
      (λ m low. omega (arith, low, idle t.phase t.asked right (ap may_ask at ∙ off)))
    where
      none : (asked : Option Asked) → t.asked ≡ asked → asked ≡ None
      none None on = refl
      none (Some a) on =
          absurd (let both : true ≡ false = sym right ∙ (ap (λ o. is_right o t.phase) on ∙ (ap may_ask at ∙ off)) in cc)

  still : (body : Body) → ((op : Op) → body ≡ Client (TcKeyReq tx op) → ⊥)
      → TurnForms node layout tx t body (IsStill tx)
  still body other = turns_still tx tx node layout t body (λ op is. absurd (other op is))

  -- whatever comes
  anyhow : TurnForms node layout tx t (Client (TcCommitReq tx)) (IsStill tx)
  anyhow = still (Client (TcCommitReq tx)) (λ op is. cc)

  committed_forms : (epoch : ℕ) (phase : Phase) → t.phase ≡ phase → may_ask phase ≡ false
      → CommittedForms node layout tx t epoch (IsStill tx) → CommittedForms node layout tx t epoch R
  unfolding entering
  committed_forms epoch phase at off each = record {
    enters = λ some. none_then phase at off _ refl (each.enters some);
    ends = λ none. none_then phase at off _ refl (each.ends none);
  }

  abort_forms : (u : Transaction) (why : AbortCause) → is_right u.asked u.phase ≡ true
      → AbortForms node layout tx u why (IsStill tx)
      → AbortForms node layout tx u why R
  unfolding entering
  abort_forms u why is each = record {
    enters = λ some. one_then _ (right_aborting u.asked why _ _) (each.enters some) refl;
    ends = λ none. one_then _ is (each.ends none)
        (ap one_if (end_gives_up tx node why (abort.is_verifying u.phase)));
  }

  pub tokens_forms : (body : Body)
      → ((key : List ℕ) (answer : Answer) → body ≡ Chain (LqhKeyConf tx key answer) → 1 ≤ came)
      → TurnForms node layout tx t body R
  unfolding entering
  tokens_forms body answered = record {
    stays = as_before _ right anyhow.stays refl;
    goes_on = λ at. as_before _ right (anyhow.goes_on at) refl;
    operates = λ op is can.
        let ready = (and_parts (operate.is_ready t.phase t.asked) _ can).0 in
        record {
          right = ready_may t.phase t.asked ready;
          own = λ m low. omega (
            arith,
            low,
            ready_none t.phase t.asked ready,
            one_asked t.phase (record { op = op; chain = chain_of layout (key_of op) }),
            ap one_if (same_tx-self tx),
          );
        };
    answers = λ key answer asked is on at.
        still_turn _ refl (record { state = tt; sends = (refl, tt) })
        (λ m low. omega (arith, low, answered key answer is, few t.phase t.asked));
    late = λ key asked why verifying awaited on at.
        one_then _ refl (anyhow.late key asked why verifying awaited on at) (ap (λ p. budget_at p None) at);
    waits = λ asked on. as_before _ right (anyhow.waits asked on) refl;
    decides = λ is ready.
        still_turn _ (right_none Verifying t.asked (ready_is t.phase t.asked ready).1)
        (record { state = tt; sends = (refl, tt) })
        (λ m low. omega (arith, low, ready_none t.phase t.asked ready));
    commits = λ epoch is at some.
        none_then _ at refl _ refl
        ((still (Epoch (DiVerifyConf tx epoch)) (λ op e. cc)).commits epoch refl at some);
    commits_none = λ epoch is at.
        committed_forms epoch _ at refl
        ((still (Epoch (DiVerifyConf tx epoch)) (λ op e. cc)).commits_none epoch refl at);
    committed = λ epoch awaited at more. none_then _ at refl _ refl (anyhow.committed epoch awaited at more);
    committed_all = λ epoch awaited at. committed_forms epoch _ at refl
        (anyhow.committed_all epoch awaited at);
    completed = λ epoch awaited at more. none_then _ at refl _ refl (anyhow.completed epoch awaited at more);
    completed_all = λ epoch awaited at last. none_then _ at refl _ refl
        (anyhow.completed_all epoch awaited at last);
    rolls_back = λ is undecided unaborted.
        abort_forms t _ right ((still (Client (TcRollbackReq tx)) (λ op e. cc)).rolls_back
        refl undecided unaborted);
    refuses = λ key why asked is on at.
        abort_forms (asking t None) why refl ((still (Chain (LqhKeyRef tx key why)) (λ op e. cc)).refuses
        key why asked refl on at);
    aborted = λ why verifying awaited at more.
        one_then _ (right_aborting t.asked why verifying _)
        (anyhow.aborted why verifying awaited at more) refl;
    aborted_all = λ why verifying awaited at last.
        one_then _ right (anyhow.aborted_all why verifying awaited at last)
        (ap one_if (end_gives_up tx node why verifying));
  }
