-- A request for a lock, by the lock that is found.
use Rattle.std.proofs.Common.{◌≡◌, ap}
use Rattle.std.specs.FinMap as map
use Rattle.std.specs.Prelude.{Option}
use Rattle.sig_core.specs.Step.{Step}
use Rattle.sig_core.specs.Work.{work_key}
use Rattle.row_locks.specs.Rows.{RowLock, asked}
use Rattle.row_locks.specs.Tables.{or_unlocked}
use Rattle.lqh_block.specs.declared.request.Request.{Request}
use Rattle.lqh_block.specs.Operate.{asked_by, request_row}
use Rattle.lqh_block.specs.State.{LqhState, with_locks}
use Rattle.lqh_block.specs.Work.{work_mode}

-- what the request comes to, where its key has this lock
abbrev pub asking : LqhState → Request → Option RowLock → Step LqhState
asking s r found =
    asked_by
    (with_locks s (map.insert s.locks (work_key r.work) (asked (or_unlocked found) r.tx (work_mode r.work)).lock))
    r (asked (or_unlocked found) r.tx (work_mode r.work)).answer

pub asks : (s : LqhState) (r : Request) (found : Option RowLock) → map.get s.locks (work_key r.work) ≡ found
    → request_row s r ≡ asking s r found
unfolding request_row
asks s r found is = ap (asking s r) is
