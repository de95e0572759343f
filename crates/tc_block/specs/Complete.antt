-- The completion of a transaction: what follows when all its keys are committed.
use Rattle.std.specs.Prelude.{ℕ, ◌+◌, ◌-◌, ◌==◌, Bool, true, false, nat_lt, List, [], ◌∷◌}
use Rattle.sig_core.specs.declared.member.TxId.{TxId}
use Rattle.frag_map.specs.Layout.{Layout}
use Rattle.sig_core.specs.Step.{stay, sends_only}
use Rattle.tc_block.specs.declared.phase.Phase.{Phase}
use Rattle.tc_block.specs.declared.phase.Phase.TheVariants.{Completing}
use Rattle.tc_block.specs.declared.touched.Touched.{Touched}
use Rattle.tc_block.specs.declared.transaction.Transaction.{Transaction}
use Rattle.tc_block.specs.Sends.{entering, reported, verify_end}
use Rattle.tc_block.specs.Turn.{Turn, going, ending, at_phase}

-- how many of the keys were written
abbrev pub one_if : Bool → ℕ
one_if true = 1
one_if false = 0

abbrev pub written_count : List Touched → ℕ
written_count [] = 0
written_count (t ∷ touched) = one_if t.written + written_count touched

-- all keys are committed: the client is told, and what was written is completed
abbrev pub all_committed_if : ℕ → Layout → TxId → Transaction → ℕ → Bool → Turn
all_committed_if node layout tx t epoch true = ending t (sends_only (reported tx epoch ∷ verify_end node tx ∷ []))
all_committed_if node layout tx t epoch false =
    going (entering node layout tx t (Completing epoch (written_count t.touched)))

unfoldable pub all_committed : ℕ → Layout → TxId → Transaction → ℕ → Turn
all_committed node layout tx t epoch = all_committed_if node layout tx t epoch (written_count t.touched == 0)

-- a key is completed, the last one or not
abbrev pub completed_if : ℕ → TxId → Transaction → ℕ → ℕ → Bool → Turn
completed_if node tx t epoch awaited true = going (stay (at_phase t (Completing epoch (awaited - 1))))
completed_if node tx t epoch awaited false = ending t (sends_only (verify_end node tx ∷ []))

abbrev pub completed_by : ℕ → TxId → Transaction → Phase → Turn
completed_by node tx t (Completing epoch awaited) = completed_if node tx t epoch awaited (nat_lt 1 awaited)
completed_by node tx t _ = going (stay t)

unfoldable pub completed_row : ℕ → TxId → Transaction → Turn
completed_row node tx t = completed_by node tx t t.phase
