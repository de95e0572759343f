-- How an open transaction goes on at its coordinator: as it was, or it asks for an operation, or the one that it asked
-- for is answered.
use Rattle.std.proofs.Common.{◌≡◌, ◌++◌, ◌∙◌, ℕ, Bool, true, false, List, [], ◌∷◌, refl, sym, ap}
use Rattle.std.proofs.lemmas.Bool.{and_parts, true≢false}
use Rattle.std.specs.Prelude.{◌&&◌, None, Some}
use Rattle.frag_map.specs.Layout.{Layout, chain_of}
use Rattle.sig_core.specs.declared.member.TxId.{TxId}
use Rattle.sig_core.specs.declared.op.Answer.{Answer}
use Rattle.sig_core.specs.declared.op.Op.{Op}
use Rattle.sig_core.specs.declared.outcome.AbortCause.{AbortCause}
use Rattle.sig_core.specs.declared.outs.Outgoing.{Outgoing}
use Rattle.sig_core.specs.declared.signal.Body.{Body}
use Rattle.sig_core.specs.declared.signal.Body.TheVariants.{Chain}
use Rattle.sig_core.specs.declared.signal.chain.ChainSignal.TheVariants.{LqhKeyConf, LqhKeyReq}
use Rattle.sig_core.specs.declared.signal.chain.RowWork.TheVariants.{Operate}
use Rattle.sig_core.specs.Chain.{node_at}
use Rattle.sig_core.specs.Op.{key_of}
use Rattle.sig_core.specs.Place.{rows_of as rows_place}
use Rattle.sig_core.specs.Same.{same_key}
use Rattle.sig_core.specs.Step.{to_place}
use Rattle.tc_block.specs.declared.phase.Asked.{Asked}
use Rattle.tc_block.specs.declared.phase.Phase.TheVariants.{Open}
use Rattle.tc_block.specs.declared.task.Verdict.{Verdict}
use Rattle.tc_block.specs.declared.transaction.Transaction.{Transaction}
use Rattle.tc_block.specs.Doom.{is_undecided}
use Rattle.tc_block.specs.Operate.{is_ready}
use Rattle.tc_block.specs.Resume.{anew_if, resume_row}
use Rattle.tc_block.specs.Sends.{entering}
use Rattle.tc_block.specs.Touched.{fits}
use Rattle.tc_block.specs.Turn.{Turn}
use Rattle.tc_block.proofs.EachTurn.{AbortForms, CommittedForms, TurnFormsAt, ready_is, rows_at}
use Rattle.tc_block.proofs.TurnRows.{turn_for, turn_with, tx_in}
use Rattle.tc_block.proofs.EachResume as walk

module _ (layout : Layout) (tx : TxId) where
  -- an operation is asked for, of the primary of its key
  abbrev pub request_of : Op → Outgoing
  request_of op =
      to_place (rows_place (node_at (chain_of layout (key_of op)) 0))
      (Chain (LqhKeyReq tx (Operate op) (chain_of layout (key_of op)) 0))

  pub data PartMove (t : Transaction) (body : Body) (u : Transaction) (sends : List Outgoing) : Type 0 where
    rests : u.ops ≡ t.ops → u.asked ≡ t.asked → PartMove t body u sends
    asks : (op : Op) → t.asked ≡ None → u.ops ≡ t.ops
        → u.asked ≡ Some (record { op = op; chain = chain_of layout (key_of op) })
        → sends ≡ request_of op ∷ [] → PartMove t body u sends
    gets : (key : List ℕ) (answer : Answer) (asked : Asked) → body ≡ Chain (LqhKeyConf tx key answer)
        → t.asked ≡ Some asked → same_key (key_of asked.op) key ≡ true → u.ops ≡ t.ops ++ (asked.op, answer) ∷ []
        → u.asked ≡ None → PartMove t body u sends

  module _ (node : ℕ) (t : Transaction) (body : Body) where
    -- where it goes on undecided
    abbrev pub Moves : Turn → Type 0
    Moves turn =
        turn.over ≡ false → is_undecided turn.step.state.phase ≡ true
        → (is_undecided t.phase ≡ true) × PartMove t body turn.step.state turn.step.effects.sends

    -- it ends, or comes to a phase in which it isn't undecided
    abort_moves : (u : Transaction) (why : AbortCause) → AbortForms node layout tx u why Moves
    unfolding entering
    abort_moves u why = record {
      enters = λ some going_on undecided. absurd (true≢false (sym undecided));
      ends = λ none over undecided. absurd (true≢false over);
    }

    committed_moves : (epoch : ℕ) → CommittedForms node layout tx t epoch Moves
    unfolding entering
    committed_moves epoch = record {
      enters = λ some going_on undecided. absurd (true≢false (sym undecided));
      ends = λ none over undecided. absurd (true≢false over);
    }

    ready_asks : (op : Op) → (is_ready t.phase t.asked && fits t.touched (key_of op)) ≡ true → t.asked ≡ None
    ready_asks op can =
        let parts = and_parts (is_ready t.phase t.asked) (fits t.touched (key_of op)) can in
        (ready_is t.phase t.asked parts.0).1

    ready_open : (op : Op) → (is_ready t.phase t.asked && fits t.touched (key_of op)) ≡ true → t.phase ≡ Open
    ready_open op can =
        let parts = and_parts (is_ready t.phase t.asked) (fits t.touched (key_of op)) can in
        (ready_is t.phase t.asked parts.0).0

    forms : TurnFormsAt node layout tx t body Moves
    unfolding entering
    forms = record {
      stays = λ other missed going_on undecided. (undecided, rests refl refl);
      stops = λ at is high going_on undecided. (undecided, rests refl refl);
      goes_on = λ at is low going_on undecided. (undecided, rests refl refl);
      operates = λ op is can going_on undecided.
          (ap is_undecided (ready_open op can), asks op (ready_asks op can) refl refl refl);
      answers = λ key answer asked is own at going_on undecided.
          (ap is_undecided at, gets key answer asked is own.is own.on refl refl);
      late = λ key asked why verifying awaited is own at going_on undecided.
          absurd (true≢false (sym undecided ∙ ap is_undecided at));
      waits = λ asked is some going_on undecided. (undecided, rests refl refl);
      decides = λ is ready going_on undecided. (ap is_undecided (ready_is t.phase t.asked ready).0, rests refl refl);
      commits = λ epoch is at some going_on undecided. absurd (true≢false (sym undecided));
      commits_none = λ epoch is at none. committed_moves epoch;
      committed = λ key epoch awaited is at more going_on undecided. absurd (true≢false (sym undecided));
      committed_all = λ key epoch awaited is at none. committed_moves epoch;
      completed = λ key epoch awaited is at more going_on undecided. absurd (true≢false (sym undecided));
      completed_all = λ key epoch awaited is at none over undecided. absurd (true≢false over);
      rolls_back = λ is undecided off. abort_moves t _;
      refuses = λ key why asked is own at. abort_moves _ why;
      aborted = λ key why verifying awaited is at more going_on undecided. absurd (true≢false (sym undecided));
      aborted_all = λ key why verifying awaited is at none over undecided. absurd (true≢false over);
    }

    -- at a signal about it
    pub turn_moves : tx_in body ≡ tx → Moves (turn_for node layout tx body t)
    turn_moves same =
        turn_with node layout tx body t Moves (rows_at node layout tx t body Moves forms) same
        (λ off going_on undecided. (undecided, rests refl refl))

    again : (u : Transaction) (why : AbortCause) (verifying b : Bool) → Moves (anew_if node layout tx u why verifying b)
    unfolding entering
    again u why verifying true over undecided = absurd (true≢false over)
    again u why verifying false going_on undecided = absurd (true≢false (sym undecided))

    resume_forms : walk.ResumeForms node layout tx t Moves
    unfolding entering
    resume_forms = record {
      stays = λ going_on undecided. (undecided, rests refl refl);
      fails = λ number is. abort_moves _ _;
      anew = λ why verifying awaited at none. again _ why verifying none;
      recommits = λ epoch awaited at going_on undecided. absurd (true≢false (sym undecided));
      recompletes = λ epoch awaited at going_on undecided. absurd (true≢false (sym undecided));
    }

    -- and at what an installation left to do for it
    pub resume_moves : (verdict : Verdict) (number : ℕ) → Moves (resume_row node layout tx t verdict number)
    unfolding resume_row
    resume_moves verdict number = walk.resumes node layout tx t Moves resume_forms number verdict t.phase refl
