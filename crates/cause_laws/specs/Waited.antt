-- How long a wait has stood: rounds of time are counted in the host's log.
use Rattle.std.specs.Prelude.{◌≡◌, ◌≤◌, ℕ, ◌+◌, Bool, true, false, List, [], ◌∷◌, ◌++◌}
use Rattle.run_theory.specs.Lists.{Each, IsIn}
use Rattle.sig_core.specs.declared.mark.Mark.{Mark}
use Rattle.sig_core.specs.declared.mark.Mark.TheVariants as mark
use Rattle.sig_core.specs.declared.member.TxId.{TxId}
use Rattle.sig_core.specs.declared.signal.Body.{Body}
use Rattle.sig_core.specs.declared.signal.Body.TheVariants.{Chain, Host}
use Rattle.sig_core.specs.declared.signal.chain.ChainSignal.TheVariants.{LqhKeyReq}
use Rattle.sig_core.specs.declared.signal.host.HostSignal.TheVariants.{Round}
use Rattle.sig_core.specs.Work.{work_key}
use Rattle.row_locks.specs.declared.claim.Wait.{Wait}
use Rattle.row_locks.specs.declared.queue.TheConstants.{ROUNDS}
use Rattle.row_locks.specs.Tables.{lock_at}
use Rattle.node_core.specs.Blocks.{lqh_of}
use Rattle.world_core.specs.Machine.{after, step_after}
use Rattle.world_core.specs.Start.{Start}
use Rattle.world_core.specs.Steps.{HostStep}
use Rattle.run_theory.specs.Counts.{one_if}

-- a round of time
abbrev pub is_round : Body → Bool
is_round (Host Round) = true
is_round body = false

-- how many of them the steps of a log have brought
abbrev pub rounds_of : List HostStep → ℕ
rounds_of [] = 0
rounds_of (e ∷ log) = one_if (is_round e.step.taken.body) + rounds_of log

-- the rows are asked for a part of the transaction on the key
abbrev pub IsAsking : Body → TxId → List ℕ → Type 0
IsAsking (Chain (LqhKeyReq other work chain at)) tx key = (other ≡ tx) × (work_key work ≡ key)
IsAsking body tx key = ⊥

-- at a step of the log the rows were asked for the transaction on the key, and at least so many rounds have come since
pub record HasWaited (log : List HostStep) (tx : TxId) (key : List ℕ) (rounds : ℕ) : Type 0 where
  pub newer : List HostStep
  pub ask : HostStep
  pub older : List HostStep
  pub is : log ≡ newer ++ ask ∷ older
  pub asked : IsAsking ask.step.taken.body tx key
  pub since : rounds ≤ rounds_of newer

-- who waits in the queue of a key, after any log of a host, has waited for the rounds that the queue counts
abbrev pub WaitsHaveTheirRounds : Type 0
WaitsHaveTheirRounds =
    (start : Start) (h : ℕ) (log : List HostStep) (key : List ℕ) (wait : Wait)
    → IsIn wait (lock_at (lqh_of (after start h log)).locks key).queue → HasWaited log wait.tx key wait.rounds

-- a wait that is marked to be over has stood for eight rounds in this log
abbrev pub IsOverAfter : List HostStep → Mark → Type 0
IsOverAfter log (mark.Expired tx key) = HasWaited log tx key ROUNDS
IsOverAfter log other = Unit {0}

-- so it is of whatever a host marks at a step, with that step in its log
abbrev pub TimeOutsTakeEightRounds : Type 0
TimeOutsTakeEightRounds =
    (start : Start) (h : ℕ) (log : List HostStep) (e : HostStep)
    → Each (IsOverAfter (e ∷ log)) (step_after start h log e).effects.marks
