-- What an installation leaves to do for the transactions.
use Rattle.std.specs.Prelude.{ℕ, ◌==◌, Bool, true, false, ◌||◌, is_some, List, [], ◌∷◌, length, map, Option, None, Some}
use Rattle.std.specs.List.{flat_map}
use Rattle.sig_core.specs.declared.member.TxId.{TxId}
use Rattle.sig_core.specs.declared.outcome.AbortCause.{AbortCause}
use Rattle.sig_core.specs.declared.outcome.AbortCause.TheVariants.{NodeFail}
use Rattle.sig_core.specs.Step.{Step, sends_only, stay}
use Rattle.frag_map.specs.Layout.{Layout, chain_of}
use Rattle.tc_block.specs.declared.phase.Phase.{Phase}
use Rattle.tc_block.specs.declared.phase.Phase.TheVariants.{Open, Verifying, Committing, Completing, Aborting}
use Rattle.tc_block.specs.declared.task.Task.{Task}
use Rattle.tc_block.specs.declared.task.Verdict.{Verdict}
use Rattle.tc_block.specs.declared.task.Verdict.TheVariants.{Fail, AbortAnew, Redrive}
use Rattle.tc_block.specs.declared.touched.Touched.{Touched}
use Rattle.tc_block.specs.declared.transaction.Transaction.{Transaction}
use Rattle.tc_block.specs.Abort.{abort_end, aborted_for, replica_count}
use Rattle.tc_block.specs.Doom.{is_among}
use Rattle.tc_block.specs.Live.{turn_of}
use Rattle.tc_block.specs.Sends.{entering}
use Rattle.tc_block.specs.State.{TcState}
use Rattle.tc_block.specs.Touched.{unwritten, written}
use Rattle.tc_block.specs.Turn.{Turn, asking, ending, going}

-- what becomes of a transaction, as it stands when a view is installed, by whether it is given up
abbrev pub verdict_by : Phase → Bool → Option Verdict
verdict_by (Aborting cause verifying awaited) lost = Some AbortAnew
verdict_by (Committing epoch awaited) lost = Some Redrive
verdict_by (Completing epoch awaited) lost = Some Redrive
verdict_by phase true = Some Fail
verdict_by phase false = None

-- one that is doomed is given up, and one that has an unanswered operation
unfoldable pub verdict_of : Transaction → Bool → Option Verdict
verdict_of t doomed = verdict_by t.phase (doomed || is_some t.asked)

abbrev pub task_if : TxId → Option Verdict → List Task
task_if tx None = []
task_if tx (Some verdict) = record { tx = tx; verdict = verdict } ∷ []

abbrev pub task_of : List TxId → TxId × Transaction → List Task
task_of doomed e = task_if e.0 (verdict_of e.1 (is_among doomed e.0))

-- all that is left to do, in the order in which the transactions began
unfoldable pub tasks_in : List TxId → List (TxId × Transaction) → List Task
tasks_in doomed live = flat_map (task_of doomed) live

-- A key along the chain that it has in a layout. One that was only read has the primary alone.
abbrev pub rechained_if : Touched → Bool → Layout → Touched
rechained_if t true layout = written t.key (chain_of layout t.key)
rechained_if t false layout = unwritten t.key (chain_of layout t.key)

unfoldable pub rechained : Layout → Touched → Touched
rechained layout t = rechained_if t t.written layout

-- a decided transaction commits all its keys once more
abbrev pub redriven : ℕ → Layout → TxId → Transaction → ℕ → Step Transaction
redriven node layout tx t epoch =
    entering node layout tx (record t { touched = map (rechained layout) t.touched })
    (Committing epoch (length t.touched))

-- an abort begins anew, or has nothing to wait for
abbrev pub anew_if : ℕ → Layout → TxId → Transaction → AbortCause → Bool → Bool → Turn
anew_if node layout tx t cause verifying true = ending t (sends_only (abort_end node tx cause verifying))
anew_if node layout tx t cause verifying false =
    going (entering node layout tx t (Aborting cause verifying (replica_count layout t.touched)))

unfoldable pub aborted_anew : ℕ → Layout → TxId → Transaction → AbortCause → Bool → Turn
aborted_anew node layout tx t cause verifying =
    anew_if node layout tx t cause verifying (replica_count layout t.touched == 0)

-- A transaction does what is left to do for it, in the view of a number, where it has gone no other way since. The
-- answer
-- of an operation of an older view doesn't come any more.
abbrev pub resume_by : ℕ → Layout → TxId → Transaction → ℕ → Verdict → Phase → Turn
resume_by node layout tx t number Fail Open = aborted_for node layout tx (asking t None) (NodeFail number)
resume_by node layout tx t number Fail Verifying = aborted_for node layout tx (asking t None) (NodeFail number)
resume_by node layout tx t number AbortAnew (Aborting cause verifying awaited) =
    aborted_anew node layout tx (asking t None) cause verifying
resume_by node layout tx t number Redrive (Committing epoch awaited) = going (redriven node layout tx t epoch)
resume_by node layout tx t number Redrive (Completing epoch awaited) = going (redriven node layout tx t epoch)
resume_by node layout tx t number _ _ = going (stay t)

unfoldable pub resume_row : ℕ → Layout → TxId → Transaction → Verdict → ℕ → Turn
resume_row node layout tx t verdict number = resume_by node layout tx t number verdict t.phase

-- the coordinator's step then
unfoldable pub resume_step : TcState → Task → ℕ → Step TcState
resume_step s task number = turn_of s task.tx (λ t. resume_row s.node s.layout task.tx t task.verdict number)
