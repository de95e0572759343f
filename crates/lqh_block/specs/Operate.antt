-- Requests, and the locks that they wait for.
use Rattle.std.specs.Prelude.{ℕ, Bool, not, is_some, List, [], ◌∷◌, ◌++◌, position, remove, slice_get, Option, None}
use Rattle.std.specs.Prelude.{Some}
use Rattle.std.specs.FinMap as map
use Rattle.sig_core.specs.declared.outs.Outgoing.{Outgoing}
use Rattle.sig_core.specs.declared.signal.host.Work.TheVariants as work
use Rattle.sig_core.specs.Step.{Step, stay}
use Rattle.row_locks.specs.declared.mode.Lock.{Lock}
use Rattle.row_locks.specs.declared.mode.Lock.TheVariants.{Granted, Queued}
use Rattle.row_locks.specs.Rows.{Asked}
use Rattle.row_locks.specs.Tables.{Locks, ahead_at, asked_at}
use Rattle.lqh_block.specs.declared.request.Request.{Request}
use Rattle.lqh_block.specs.State.{LqhState, go_on_if, in_storage, storage_of, with_locks, with_waiting}
use Rattle.lqh_block.specs.Storage.{perform}
use Rattle.sig_core.specs.Work.{work_key}
use Rattle.lqh_block.specs.Work.{work_mode}

-- the request is performed
abbrev pub performed : LqhState → Request → Step LqhState
performed s r = in_storage s (perform (storage_of s) r)

-- a request whose lock is granted is performed, and one that is queued waits behind the others
abbrev pub asked_by : LqhState → Request → Lock → Step LqhState
asked_by s r Granted = performed s r
asked_by s r (Queued ahead) = stay (with_waiting s (s.waiting ++ r ∷ []))

-- what the lock of the request's key is, and answers, once it was asked for
abbrev pub asking : LqhState → Request → Asked
asking s r = asked_at s.locks (work_key r.work) r.tx (work_mode r.work)

-- the lock of a request's key is asked for
abbrev pub asked_for : LqhState → Request → LqhState
asked_for s r = with_locks s (map.insert s.locks (work_key r.work) (asking s r).lock)

-- a replica is asked to prepare something
unfoldable pub request_row : LqhState → Request → Step LqhState
request_row s r = asked_by (asked_for s r) r (asking s r).answer

-- the request doesn't wait in the queue of its key any more
abbrev pub is_granted : Locks → Request → Bool
is_granted locks r = not (is_some (ahead_at locks (work_key r.work) r.tx))

-- where the first request stands that is granted
abbrev pub first_granted : Locks → List Request → Option ℕ
first_granted locks waiting = position (is_granted locks) waiting

-- the signal by which the block goes on with requests that are granted, if there are any
abbrev pub more_granted : LqhState → List Outgoing
more_granted s = go_on_if s.node work.Granted (is_some (first_granted s.locks s.waiting))

-- a step, and behind it the block goes on with requests that are granted
abbrev pub granted_on : LqhState → Request → Step LqhState
granted_on s r =
    record {
      state = (performed s r).state;
      effects = record {
        sends = (performed s r).effects.sends ++ more_granted s;
        marks = (performed s r).effects.marks;
      };
    }

abbrev pub granted_value : LqhState → ℕ → Option Request → Step LqhState
granted_value s at None = stay s
granted_value s at (Some r) = granted_on (with_waiting s (remove s.waiting at)) r

abbrev pub granted_by : LqhState → Option ℕ → Step LqhState
granted_by s None = stay s
granted_by s (Some at) = granted_value s at (slice_get s.waiting at)

-- the first request that is granted is performed
unfoldable pub granted_row : LqhState → Step LqhState
granted_row s = granted_by s (first_granted s.locks s.waiting)
