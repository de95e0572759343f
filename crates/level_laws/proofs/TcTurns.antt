-- What a transaction does at a signal, with all epochs made one.
use Rattle.std.proofs.Common.{◌≡◌, ◌∙◌, ◌&&◌, ◌==◌, ℕ, Bool, true, false, List, Option, None, Some, length, refl, ap}
use Rattle.std.specs.Prelude.{nat_lt}
use Rattle.frag_map.specs.Layout.{Layout, chain_of}
use Rattle.sig_core.specs.declared.member.TxId.{TxId}
use Rattle.sig_core.specs.declared.op.Answer.{Answer}
use Rattle.sig_core.specs.declared.op.Op.{Op}
use Rattle.sig_core.specs.declared.outcome.AbortCause.{AbortCause}
use Rattle.sig_core.specs.declared.outcome.AbortCause.TheVariants.{Request}
use Rattle.sig_core.specs.declared.outs.Outgoing.{Outgoing}
use Rattle.sig_core.specs.Op.{key_of}
use Rattle.sig_core.specs.Step.{Step, sends_only}
use Rattle.tc_block.specs.Abort.{abort_end, abort_if, aborted_by, aborted_for, aborted_if, aborted_row, aborts_awaited}
use Rattle.tc_block.specs.Abort.{is_verifying, refuse_by, refuse_row, rollback_by, rollback_row}
use Rattle.tc_block.specs.Commit.{commit_by, commit_if, commit_row, committed_by, committed_if, committed_row}
use Rattle.tc_block.specs.Commit.{verify_if, verify_row}
use Rattle.tc_block.specs.Complete.{all_committed, all_committed_if, completed_by, completed_if, completed_row}
use Rattle.tc_block.specs.Complete.{written_count}
use Rattle.tc_block.specs.Operate.{answer_by, answer_row, asked_on, can_operate, is_ready, late_answer, operate_if}
use Rattle.tc_block.specs.Operate.{operate_row, wait_by, wait_row}
use Rattle.tc_block.specs.Sends.{entering}
use Rattle.tc_block.specs.Touched.{fits}
use Rattle.tc_block.specs.Turn.{Turn, asking, ending, going}
use Rattle.tc_block.specs.declared.phase.Asked.{Asked}
use Rattle.tc_block.specs.declared.phase.Phase.{Phase}
use Rattle.tc_block.specs.declared.phase.Phase.TheVariants.{Open, Verifying, Committing, Completing, Aborting}
use Rattle.tc_block.specs.declared.transaction.Transaction.{Transaction}
use Rattle.level_laws.specs.Levels.{phase_at, step_at, transaction_at}
use Rattle.level_laws.proofs.TcSends.{aborts_level, entering_level, waits_level}

-- a step of a transaction, and a turn
abbrev pub taken_at : ℕ → Step Transaction → Step Transaction
taken_at epoch step = step_at (transaction_at epoch) epoch step

abbrev pub turn_at : ℕ → Turn → Turn
turn_at epoch turn = record { step = taken_at epoch turn.step; over = turn.over }

module _ (epoch : ℕ) where
  -- what is asked of a phase isn't its epoch
  ready_level : (phase : Phase) (asked : Option Asked) → is_ready (phase_at epoch phase) asked ≡ is_ready phase asked
  ready_level Open asked = refl
  ready_level Verifying asked = refl
  ready_level (Committing other awaited) asked = refl
  ready_level (Completing other awaited) asked = refl
  ready_level (Aborting cause verifying awaited) asked = refl

  verifying_level : (phase : Phase) → is_verifying (phase_at epoch phase) ≡ is_verifying phase
  verifying_level Open = refl
  verifying_level Verifying = refl
  verifying_level (Committing other awaited) = refl
  verifying_level (Completing other awaited) = refl
  verifying_level (Aborting cause verifying awaited) = refl

  module _ (layout : Layout) (tx : TxId) (t : Transaction) where
    -- an operation is asked for
    operate_if_level : (op : Op) (b : Bool)
        → operate_if layout tx (transaction_at epoch t) op b ≡ taken_at epoch (operate_if layout tx t op b)
    operate_if_level op true = refl
    operate_if_level op false = refl

    pub operate_level : (op : Op)
        → operate_row layout tx (transaction_at epoch t) op ≡ taken_at epoch (operate_row layout tx t op)
    unfolding operate_row
    operate_level op =
        ap (λ ready. operate_if layout tx (transaction_at epoch t) op (ready && fits t.touched (key_of op)))
        (ready_level t.phase t.asked)
        ∙ operate_if_level op (can_operate t op)

    -- one is answered
    late_level : (key : List ℕ)
        → late_answer layout tx (transaction_at epoch t) key ≡ taken_at epoch (late_answer layout tx t key)
    late_level key =
        ap (λ (sends : List Outgoing). record {
          state = transaction_at epoch (asking t None);
          effects = sends_only sends;
        })
        (aborts_level epoch tx key (chain_of layout key))

    answer_by_level : (key : List ℕ) (answer : Answer) (asked : Option Asked) (phase : Phase)
        → answer_by layout tx (transaction_at epoch t) key answer asked (phase_at epoch phase)
        ≡ taken_at epoch (answer_by layout tx t key answer asked phase)
    answer_by_level key answer (Some asked) (Aborting cause verifying awaited) = late_level key
    answer_by_level key answer asked phase = refl

    pub answer_level : (key : List ℕ) (answer : Answer)
        → answer_row layout tx (transaction_at epoch t) key answer
        ≡ taken_at epoch (answer_row layout tx t key answer)
    unfolding answer_row
    answer_level key answer = answer_by_level key answer (asked_on t.asked key) t.phase

  module _ (tx : TxId) (t : Transaction) where
    -- what the unanswered one waits for
    wait_by_level : (asked : Option Asked)
        → wait_by tx (transaction_at epoch t) asked ≡ taken_at epoch (wait_by tx t asked)
    wait_by_level None = refl
    wait_by_level (Some asked) =
        ap (λ (sends : List Outgoing). record { state = transaction_at epoch t; effects = sends_only sends })
        (waits_level epoch tx (key_of asked.op) asked.chain)

    pub wait_level : wait_row tx (transaction_at epoch t) ≡ taken_at epoch (wait_row tx t)
    unfolding wait_row
    wait_level = wait_by_level t.asked

  module _ (node : ℕ) (tx : TxId) (t : Transaction) where
    -- an epoch is asked for
    verify_if_level : (b : Bool)
        → verify_if node tx (transaction_at epoch t) b ≡ taken_at epoch (verify_if node tx t b)
    verify_if_level true = refl
    verify_if_level false = refl

    pub verify_level : verify_row node tx (transaction_at epoch t) ≡ taken_at epoch (verify_row node tx t)
    unfolding verify_row
    verify_level =
        ap (verify_if node tx (transaction_at epoch t)) (ready_level t.phase t.asked)
        ∙ verify_if_level (is_ready t.phase t.asked)

    -- a key is completed
    completed_if_level : (other awaited : ℕ) (b : Bool)
        → completed_if node tx (transaction_at epoch t) epoch awaited b
        ≡ turn_at epoch (completed_if node tx t other awaited b)
    completed_if_level other awaited true = refl
    completed_if_level other awaited false = refl

    completed_by_level : (phase : Phase)
        → completed_by node tx (transaction_at epoch t) (phase_at epoch phase)
        ≡ turn_at epoch (completed_by node tx t phase)
    completed_by_level (Completing other awaited) = completed_if_level other awaited (nat_lt 1 awaited)
    completed_by_level phase = refl

    pub completed_level : completed_row node tx (transaction_at epoch t) ≡ turn_at epoch (completed_row node tx t)
    unfolding completed_row
    completed_level = completed_by_level t.phase

    -- a key is aborted
    ending_level : (cause : AbortCause) (b : Bool)
        → ending (transaction_at epoch t) (sends_only (abort_end node tx cause b))
        ≡ turn_at epoch (ending t (sends_only (abort_end node tx cause b)))
    ending_level cause true = refl
    ending_level cause false = refl

    aborted_if_level : (cause : AbortCause) (verifying : Bool) (awaited : ℕ) (b : Bool)
        → aborted_if node tx (transaction_at epoch t) cause verifying awaited b
        ≡ turn_at epoch (aborted_if node tx t cause verifying awaited b)
    aborted_if_level cause verifying awaited true = refl
    aborted_if_level cause verifying awaited false = ending_level cause verifying

    aborted_by_level : (phase : Phase)
        → aborted_by node tx (transaction_at epoch t) (phase_at epoch phase)
        ≡ turn_at epoch (aborted_by node tx t phase)
    aborted_by_level (Aborting cause verifying awaited) =
        aborted_if_level cause verifying awaited (nat_lt 1 awaited)
    aborted_by_level phase = refl

    pub aborted_level : aborted_row node tx (transaction_at epoch t) ≡ turn_at epoch (aborted_row node tx t)
    unfolding aborted_row
    aborted_level = aborted_by_level t.phase

  module _ (node : ℕ) (layout : Layout) (tx : TxId) where
    -- the epoch is given
    all_committed_if_level : (t : Transaction) (other : ℕ) (b : Bool)
        → all_committed_if node layout tx (transaction_at epoch t) epoch b
        ≡ turn_at epoch (all_committed_if node layout tx t other b)
    all_committed_if_level t other true = refl
    all_committed_if_level t other false =
        ap going (entering_level epoch tx node layout t (Completing other (written_count t.touched)))

    all_committed_level : (t : Transaction) (other : ℕ)
        → all_committed node layout tx (transaction_at epoch t) epoch
        ≡ turn_at epoch (all_committed node layout tx t other)
    unfolding all_committed
    all_committed_level t other = all_committed_if_level t other (written_count t.touched == 0)

    commit_if_level : (t : Transaction) (other : ℕ) (b : Bool)
        → commit_if node layout tx (transaction_at epoch t) epoch b
        ≡ turn_at epoch (commit_if node layout tx t other b)
    commit_if_level t other true = all_committed_level t other
    commit_if_level t other false =
        ap going (entering_level epoch tx node layout t (Committing other (length t.touched)))

    commit_by_level : (t : Transaction) (other : ℕ) (phase : Phase)
        → commit_by node layout tx (transaction_at epoch t) epoch (phase_at epoch phase)
        ≡ turn_at epoch (commit_by node layout tx t other phase)
    commit_by_level t other Verifying = commit_if_level t other (length t.touched == 0)
    commit_by_level t other phase = refl

    pub commit_level : (t : Transaction) (other : ℕ)
        → commit_row node layout tx (transaction_at epoch t) epoch
        ≡ turn_at epoch (commit_row node layout tx t other)
    unfolding commit_row
    commit_level t other = commit_by_level t other t.phase

    -- a key is committed
    committed_if_level : (t : Transaction) (other awaited : ℕ) (b : Bool)
        → committed_if node layout tx (transaction_at epoch t) epoch awaited b
        ≡ turn_at epoch (committed_if node layout tx t other awaited b)
    committed_if_level t other awaited true = refl
    committed_if_level t other awaited false = all_committed_level t other

    committed_by_level : (t : Transaction) (phase : Phase)
        → committed_by node layout tx (transaction_at epoch t) (phase_at epoch phase)
        ≡ turn_at epoch (committed_by node layout tx t phase)
    committed_by_level t (Committing other awaited) = committed_if_level t other awaited (nat_lt 1 awaited)
    committed_by_level t phase = refl

    pub committed_level : (t : Transaction)
        → committed_row node layout tx (transaction_at epoch t) ≡ turn_at epoch (committed_row node layout tx t)
    unfolding committed_row
    committed_level t = committed_by_level t t.phase

    -- an abort begins
    abort_if_level : (t : Transaction) (cause : AbortCause) (b : Bool)
        → abort_if node layout tx (transaction_at epoch t) cause b
        ≡ turn_at epoch (abort_if node layout tx t cause b)
    abort_if_level t cause true =
        ap (λ verifying. ending (transaction_at epoch t) (sends_only (abort_end node tx cause verifying)))
        (verifying_level t.phase)
        ∙ ending_level node tx t cause (is_verifying t.phase)
    abort_if_level t cause false =
        ap (λ verifying. going
        (entering node layout tx (transaction_at epoch t) (Aborting cause verifying (aborts_awaited layout t))))
        (verifying_level t.phase)
        ∙ ap going
        (entering_level epoch tx node layout t (Aborting cause (is_verifying t.phase) (aborts_awaited layout t)))

    aborted_for_level : (t : Transaction) (cause : AbortCause)
        → aborted_for node layout tx (transaction_at epoch t) cause
        ≡ turn_at epoch (aborted_for node layout tx t cause)
    unfolding aborted_for
    aborted_for_level t cause = abort_if_level t cause (aborts_awaited layout t == 0)

    refuse_by_level : (t : Transaction) (key : List ℕ) (cause : AbortCause) (asked : Option Asked) (phase : Phase)
        → refuse_by node layout tx (transaction_at epoch t) key cause asked (phase_at epoch phase)
        ≡ turn_at epoch (refuse_by node layout tx t key cause asked phase)
    refuse_by_level t key cause (Some asked) Open = aborted_for_level (asking t None) cause
    refuse_by_level t key cause (Some asked) (Aborting other verifying awaited) =
        ap going (late_level layout tx t key)
    refuse_by_level t key cause asked phase = refl

    pub refuse_level : (t : Transaction) (key : List ℕ) (cause : AbortCause)
        → refuse_row node layout tx (transaction_at epoch t) key cause
        ≡ turn_at epoch (refuse_row node layout tx t key cause)
    unfolding refuse_row
    refuse_level t key cause = refuse_by_level t key cause (asked_on t.asked key) t.phase

    rollback_by_level : (t : Transaction) (phase : Phase)
        → rollback_by node layout tx (transaction_at epoch t) (phase_at epoch phase)
        ≡ turn_at epoch (rollback_by node layout tx t phase)
    rollback_by_level t Open = aborted_for_level t Request
    rollback_by_level t Verifying = aborted_for_level t Request
    rollback_by_level t phase = refl

    pub rollback_level : (t : Transaction)
        → rollback_row node layout tx (transaction_at epoch t) ≡ turn_at epoch (rollback_row node layout tx t)
    unfolding rollback_row
    rollback_level t = rollback_by_level t t.phase
