-- What a coordinator awaits of a transaction that commits, completes or aborts: no more of that is under way.
use Rattle.std.specs.Prelude.{◌≡◌, ◌≤◌, ◌+◌, ◌-◌, ℕ, suc, if◌then◌else◌, length, List, [], ◌∷◌, Option, None, Some}
use Rattle.sig_core.specs.declared.member.TxId.{TxId}
use Rattle.sig_core.specs.declared.signal.Body.{Body}
use Rattle.sig_core.specs.declared.signal.Body.TheVariants.{Chain, Host}
use Rattle.sig_core.specs.declared.signal.chain.ChainSignal.TheVariants.{Abort, Aborted, Commit, Committed, Complete}
use Rattle.sig_core.specs.declared.signal.chain.ChainSignal.TheVariants.{Completed}
use Rattle.sig_core.specs.declared.signal.host.HostSignal.TheVariants.{Continue}
use Rattle.sig_core.specs.declared.signal.host.Work.TheVariants as work
use Rattle.sig_core.specs.Same.{same_tx}
use Rattle.frag_map.specs.Layout.{Layout, first_layout}
use Rattle.tc_block.specs.Abort.{asked_count, replica_count}
use Rattle.tc_block.specs.Complete.{written_count}
use Rattle.tc_block.specs.declared.phase.Asked.{Asked}
use Rattle.tc_block.specs.declared.phase.Phase.{Phase}
use Rattle.tc_block.specs.declared.phase.Phase.TheVariants.{Open, Verifying, Committing, Completing, Aborting}
use Rattle.tc_block.specs.declared.touched.Touched.{Touched}
use Rattle.tc_block.specs.declared.transaction.Transaction.{Transaction}
use Rattle.run_theory.specs.Counts.{one_if}
use Rattle.world_core.specs.Start.{Start}
use Rattle.world_core.specs.Steps.{Addressed, HostStep}
use Rattle.run_laws.specs.Live.{live_at}
use Rattle.run_laws.specs.Transit.{AreInTransit, IsRun, logs_of}

-- How many answers a signal stands for: a row that is to be committed, completed or aborted for one, its answer for
-- one, and the signal to go on with a list of so many for those that are left, or for one.
abbrev pub due : TxId → ℕ → Body → ℕ
due tx count (Chain (Commit other key epoch chain at)) = one_if (same_tx other tx)
due tx count (Chain (Committed other key)) = one_if (same_tx other tx)
due tx count (Chain (Complete other key chain at)) = one_if (same_tx other tx)
due tx count (Chain (Completed other key)) = one_if (same_tx other tx)
due tx count (Chain (Abort other key)) = one_if (same_tx other tx)
due tx count (Chain (Aborted other key)) = one_if (same_tx other tx)
due tx count (Host (Continue (work.Transaction other) at)) = if same_tx other tx then suc (count - suc at) else 0
due tx count body = 0

abbrev pub due_in : TxId → ℕ → List Addressed → ℕ
due_in tx count [] = 0
due_in tx count (x ∷ xs) = due tx count x.signal.body + due_in tx count xs

-- how many signals a transaction sends in its phase
abbrev pub list_length : Layout → Phase → List Touched → ℕ
list_length layout (Committing epoch awaited) touched = length touched
list_length layout (Completing epoch awaited) touched = suc (written_count touched)
list_length layout (Aborting why verifying awaited) touched = replica_count layout touched
list_length layout Open touched = 0
list_length layout Verifying touched = 0

-- how many answers it awaits then
abbrev pub awaited_in : Phase → ℕ
awaited_in (Committing epoch awaited) = awaited
awaited_in (Completing epoch awaited) = awaited
awaited_in (Aborting why verifying awaited) = awaited
awaited_in Open = 0
awaited_in Verifying = 0

-- how many aborts it still sends where it is aborted with an operation unanswered
abbrev pub owed_in : Layout → Phase → Option Asked → ℕ
owed_in layout (Aborting why verifying awaited) asked = asked_count layout asked
owed_in layout phase asked = 0

-- what is under way of it, and what it still sends, are no more than it awaits; and nothing is where it is forgotten
abbrev pub IsAwaited : Layout → TxId → List Addressed → Option Transaction → Type 0
IsAwaited layout tx xs None = due_in tx 0 xs ≡ 0
IsAwaited layout tx xs (Some t) =
    due_in tx (list_length layout t.phase t.touched) xs + owed_in layout t.phase t.asked ≤ awaited_in t.phase

abbrev pub AllIsAwaited : Type 0
AllIsAwaited =
    (start : Start) (es : List HostStep) (xs : List Addressed) (tx : TxId) → IsRun start es → AreInTransit start es xs
    → IsAwaited (first_layout start.shape) tx xs (live_at start (logs_of start es) tx)
