-- The commit of a transaction, signal by signal: from the wish to commit to the last key that is committed.
use Rattle.std.specs.Prelude.{ℕ, ◌-◌, ◌==◌, Bool, true, false, nat_lt, length}
use Rattle.sig_core.specs.declared.member.TxId.{TxId}
use Rattle.sig_core.specs.declared.signal.Body.TheVariants.{Epoch}
use Rattle.sig_core.specs.declared.signal.epoch.EpochSignal.TheVariants.{DiVerifyReq}
use Rattle.frag_map.specs.Layout.{Layout}
use Rattle.sig_core.specs.Step.{Step, stay, sending}
use Rattle.tc_block.specs.declared.phase.Phase.{Phase}
use Rattle.tc_block.specs.declared.phase.Phase.TheVariants.{Verifying, Committing}
use Rattle.tc_block.specs.declared.transaction.Transaction.{Transaction}
use Rattle.tc_block.specs.Complete.{all_committed}
use Rattle.tc_block.specs.Operate.{is_ready}
use Rattle.sig_core.specs.Place.{epochs}
use Rattle.tc_block.specs.Sends.{entering}
use Rattle.tc_block.specs.Turn.{Turn, going, at_phase}

-- a commit is asked for: an epoch is asked for
abbrev pub verify_if : ℕ → TxId → Transaction → Bool → Step Transaction
verify_if node tx t true = sending (at_phase t Verifying) (epochs node) (Epoch (DiVerifyReq tx t.ops))
verify_if node tx t false = stay t

unfoldable pub verify_row : ℕ → TxId → Transaction → Step Transaction
verify_row node tx t = verify_if node tx t (is_ready t.phase t.asked)

-- the epoch is given: all keys are committed in it
abbrev pub commit_if : ℕ → Layout → TxId → Transaction → ℕ → Bool → Turn
commit_if node layout tx t epoch true = all_committed node layout tx t epoch
commit_if node layout tx t epoch false = going (entering node layout tx t (Committing epoch (length t.touched)))

abbrev pub commit_by : ℕ → Layout → TxId → Transaction → ℕ → Phase → Turn
commit_by node layout tx t epoch Verifying = commit_if node layout tx t epoch (length t.touched == 0)
commit_by node layout tx t epoch _ = going (stay t)

unfoldable pub commit_row : ℕ → Layout → TxId → Transaction → ℕ → Turn
commit_row node layout tx t epoch = commit_by node layout tx t epoch t.phase

-- a key is committed, the last one or not
abbrev pub committed_if : ℕ → Layout → TxId → Transaction → ℕ → ℕ → Bool → Turn
committed_if node layout tx t epoch awaited true = going (stay (at_phase t (Committing epoch (awaited - 1))))
committed_if node layout tx t epoch awaited false = all_committed node layout tx t epoch

abbrev pub committed_by : ℕ → Layout → TxId → Transaction → Phase → Turn
committed_by node layout tx t (Committing epoch awaited) =
    committed_if node layout tx t epoch awaited (nat_lt 1 awaited)
committed_by node layout tx t _ = going (stay t)

unfoldable pub committed_row : ℕ → Layout → TxId → Transaction → Turn
committed_row node layout tx t = committed_by node layout tx t t.phase
