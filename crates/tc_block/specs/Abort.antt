-- The abort of a transaction, signal by signal.
use Rattle.std.specs.Prelude.{ℕ, ◌+◌, ◌-◌, ◌==◌, Bool, true, false, nat_lt, List, [], ◌∷◌, length, Option, None, Some}
use Rattle.sig_core.specs.declared.member.TxId.{TxId}
use Rattle.sig_core.specs.declared.outcome.AbortCause.{AbortCause}
use Rattle.sig_core.specs.declared.outcome.AbortCause.TheVariants.{Request}
use Rattle.sig_core.specs.declared.outs.Outgoing.{Outgoing}
use Rattle.sig_core.specs.declared.signal.Body.TheVariants.{Client}
use Rattle.sig_core.specs.declared.signal.client.ClientSignal.TheVariants.{TcRollbackRep}
use Rattle.frag_map.specs.Layout.{Layout}
use Rattle.sig_core.specs.Op.{key_of}
use Rattle.sig_core.specs.Step.{stay, to_place, sends_only}
use Rattle.tc_block.specs.declared.phase.Asked.{Asked}
use Rattle.tc_block.specs.declared.phase.Phase.{Phase}
use Rattle.tc_block.specs.declared.phase.Phase.TheVariants.{Open, Verifying, Aborting}
use Rattle.tc_block.specs.declared.touched.Touched.{Touched}
use Rattle.tc_block.specs.declared.transaction.Transaction.{Transaction}
use Rattle.frag_map.specs.Layout.{chain_of}
use Rattle.tc_block.specs.Operate.{asked_on, late_answer}
use Rattle.sig_core.specs.Place.{client}
use Rattle.tc_block.specs.Sends.{entering, verify_end}
use Rattle.tc_block.specs.Turn.{Turn, going, ending, at_phase, asking}

-- how many replicas the keys have in a layout, all together
abbrev pub replica_count : Layout → List Touched → ℕ
replica_count layout [] = 0
replica_count layout (t ∷ touched) = length (chain_of layout t.key) + replica_count layout touched

-- how many replicas the key of the unanswered operation has, if there is one
abbrev pub asked_count : Layout → Option Asked → ℕ
asked_count layout None = 0
asked_count layout (Some asked) = length (chain_of layout (key_of asked.op))

-- how many `Aborted` an abort waits for: one from every replica of every touched key, and one more from
-- every replica of the key of the unanswered operation, to which `Abort` goes again at its answer
abbrev pub aborts_awaited : Layout → Transaction → ℕ
aborts_awaited layout t = replica_count layout t.touched + asked_count layout t.asked

-- an epoch was asked for
abbrev pub is_verifying : Phase → Bool
is_verifying Verifying = true
is_verifying _ = false

-- the client is told that the transaction was aborted
abbrev pub rolled_back : TxId → AbortCause → Outgoing
rolled_back tx cause = to_place client (Client (TcRollbackRep tx cause))

-- the end of an abort
abbrev pub abort_end : ℕ → TxId → AbortCause → Bool → List Outgoing
abort_end node tx cause true = verify_end node tx ∷ rolled_back tx cause ∷ []
abort_end node tx cause false = rolled_back tx cause ∷ []

-- an abort begins, or has nothing to wait for
abbrev pub abort_if : ℕ → Layout → TxId → Transaction → AbortCause → Bool → Turn
abort_if node layout tx t cause true = ending t (sends_only (abort_end node tx cause (is_verifying t.phase)))
abort_if node layout tx t cause false =
    going (entering node layout tx t (Aborting cause (is_verifying t.phase) (aborts_awaited layout t)))

unfoldable pub aborted_for : ℕ → Layout → TxId → Transaction → AbortCause → Turn
aborted_for node layout tx t cause = abort_if node layout tx t cause (aborts_awaited layout t == 0)

-- an operation is refused
abbrev pub refuse_by : ℕ → Layout → TxId → Transaction → List ℕ → AbortCause → Option Asked → Phase → Turn
refuse_by node layout tx t key cause (Some asked) Open = aborted_for node layout tx (asking t None) cause
refuse_by node layout tx t key cause (Some asked) (Aborting other verifying awaited) =
    going (late_answer layout tx t key)
refuse_by node layout tx t key cause _ _ = going (stay t)

unfoldable pub refuse_row : ℕ → Layout → TxId → Transaction → List ℕ → AbortCause → Turn
refuse_row node layout tx t key cause = refuse_by node layout tx t key cause (asked_on t.asked key) t.phase

-- the client asks for an abort: what is decided, or is aborted already, goes on
abbrev pub rollback_by : ℕ → Layout → TxId → Transaction → Phase → Turn
rollback_by node layout tx t Open = aborted_for node layout tx t Request
rollback_by node layout tx t Verifying = aborted_for node layout tx t Request
rollback_by node layout tx t _ = going (stay t)

unfoldable pub rollback_row : ℕ → Layout → TxId → Transaction → Turn
rollback_row node layout tx t = rollback_by node layout tx t t.phase

-- a replica has aborted a key, the last one or not
abbrev pub aborted_if : ℕ → TxId → Transaction → AbortCause → Bool → ℕ → Bool → Turn
aborted_if node tx t cause verifying awaited true = going (stay (at_phase t (Aborting cause verifying (awaited - 1))))
aborted_if node tx t cause verifying awaited false = ending t (sends_only (abort_end node tx cause verifying))

abbrev pub aborted_by : ℕ → TxId → Transaction → Phase → Turn
aborted_by node tx t (Aborting cause verifying awaited) =
    aborted_if node tx t cause verifying awaited (nat_lt 1 awaited)
aborted_by node tx t _ = going (stay t)

unfoldable pub aborted_row : ℕ → TxId → Transaction → Turn
aborted_row node tx t = aborted_by node tx t t.phase
