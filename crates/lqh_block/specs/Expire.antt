-- Waits that stood too long.
use Rattle.std.specs.Prelude.{ℕ, is_some, List, [], ◌∷◌, ◌++◌, Option, None, Some}
use Rattle.sig_core.specs.declared.mark.Mark.TheVariants as mark
use Rattle.sig_core.specs.declared.member.TxId.{TxId}
use Rattle.sig_core.specs.declared.outcome.AbortCause.TheVariants.{Timeout}
use Rattle.sig_core.specs.declared.outs.Outgoing.{Outgoing}
use Rattle.sig_core.specs.declared.signal.host.Work.TheVariants.{Expired}
use Rattle.sig_core.specs.Step.{Step, stay}
use Rattle.row_locks.specs.Rounds.{expired, round_later}
use Rattle.row_locks.specs.Rows.{Served}
use Rattle.row_locks.specs.Tables.{unwaited_at}
use Rattle.lqh_block.specs.Abort.{unasked}
use Rattle.lqh_block.specs.State.{LqhState, go_on_if, serve_granted, with_lock, with_locks}
use Rattle.lqh_block.specs.Storage.{refusal}

-- the signal by which the block goes on with waits that stood too long, if there are any
abbrev pub more_expired : LqhState → List Outgoing
more_expired s = go_on_if s.node Expired (is_some (expired s.locks))

-- a wait is taken out of the queue, with its request
abbrev pub unwaited : LqhState → TxId → List ℕ → Served → LqhState
unwaited s tx key served = unasked (with_lock s key served) tx key

abbrev pub expiring : LqhState → TxId → List ℕ → Served → Step LqhState
expiring s tx key served =
    record {
      state = unwaited s tx key served;
      effects = record {
        sends = refusal tx key Timeout ∷ (serve_granted s.node served ++ more_expired (with_lock s key served));
        marks = mark.Expired tx key ∷ [];
      };
    }

abbrev pub expire_by : LqhState → Option (TxId × List ℕ) → Step LqhState
expire_by s None = stay s
expire_by s (Some wait) = expiring s wait.0 wait.1 (unwaited_at s.locks wait.1 wait.0)

-- the first wait that stood too long ends
unfoldable pub expire_row : LqhState → Step LqhState
expire_row s = expire_by s (expired s.locks)

-- a round later
abbrev pub aged : LqhState → LqhState
aged s = with_locks s (round_later s.locks)

-- a round of time has passed
abbrev pub round_row : LqhState → Step LqhState
round_row s = expire_row (aged s)
