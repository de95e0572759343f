-- Why the rows of a node refuse a transaction at a key.
use Rattle.std.specs.Prelude.{◌≡◌, ◌≤◌, ◌<◌, ℕ, ◌+◌, List, Option, None}
use Rattle.run_theory.specs.Lists.{Each, IsIn}
use Rattle.sig_core.specs.declared.journal.TheConstants.{JOURNAL_BYTES}
use Rattle.sig_core.specs.declared.mark.Mark.{Mark}
use Rattle.sig_core.specs.declared.mark.Mark.TheVariants as mark
use Rattle.sig_core.specs.declared.member.TxId.{TxId}
use Rattle.sig_core.specs.declared.outcome.AbortCause.{AbortCause}
use Rattle.sig_core.specs.declared.outcome.AbortCause.TheVariants.{LogFull, Request, TableFull, Timeout}
use Rattle.sig_core.specs.declared.rows.TheConstants.{PLACES}
use Rattle.sig_core.specs.declared.signal.Body.{Body}
use Rattle.sig_core.specs.declared.signal.Body.TheVariants.{Chain, Host}
use Rattle.sig_core.specs.declared.signal.chain.ChainSignal.TheVariants.{Abort}
use Rattle.sig_core.specs.declared.signal.host.HostSignal.TheVariants.{Round}
use Rattle.sig_core.specs.Journal.{JournalState}
use Rattle.sig_core.specs.Rows.{RowsState, place_of, taken}
use Rattle.row_locks.specs.declared.claim.Wait.{Wait}
use Rattle.row_locks.specs.declared.queue.TheConstants.{ROUNDS}
use Rattle.row_locks.specs.Rounds.{round_later}
use Rattle.row_locks.specs.Tables.{Locks, lock_at}
use Rattle.lqh_block.specs.Lqh.{lqh_table}
use Rattle.lqh_block.specs.State.{LqhState}
use Rattle.lqh_block.specs.Storage.{need_of}

-- The journal has just these bytes used and reserved, and they exceed its room with those that are needed, which are
-- those of some image of the row.
pub record IsLogFull (journal : JournalState) (tx : TxId) (key : List ℕ) (used reserved need : ℕ) : Type 0 where
  pub used_is : used ≡ journal.used
  pub reserved_is : reserved ≡ journal.reserved
  pub image : Option (List ℕ)
  pub need_is : need ≡ need_of tx key image
  pub full : JOURNAL_BYTES < used + reserved + need

-- The rows have just so many places taken, which are all that they may have, and none of them is the key's.
pub record IsTableFull (rows : RowsState) (key : List ℕ) (count : ℕ) : Type 0 where
  pub count_is : count ≡ taken rows.places
  pub absent : place_of rows.places key ≡ None
  pub full : PLACES ≤ count

-- the transaction waits in the queue of the key, and has stood there for eight rounds
pub record HasStood (locks : Locks) (tx : TxId) (key : List ℕ) : Type 0 where
  pub wait : Wait
  pub queued : IsIn wait (lock_at locks key).queue
  pub whose : wait.tx ≡ tx
  pub long : ROUNDS ≤ wait.rounds

-- the locks, with the round that the signal may bring
abbrev pub locks_with : Body → Locks → Locks
locks_with (Host Round) locks = round_later locks
locks_with body locks = locks

-- a wait is marked to have stood too long only where it has, in the state before the step
abbrev pub IsLongWait : LqhState → Body → Mark → Type 0
IsLongWait s body (mark.Expired tx key) = HasStood (locks_with body s.locks) tx key
IsLongWait s body other = Unit {0}

-- so it is of whatever the rows of a node mark
abbrev pub OnlyLongWaitsExpire : Type 0
OnlyLongWaitsExpire = (s : LqhState) (body : Body) → Each (IsLongWait s body) (lqh_table s body).effects.marks

-- In this state, at a signal that says this and is marked so, the rows may refuse the transaction at the key for this
-- cause: for want of room or of time, or since it is aborted, and for no other.
abbrev pub IsReason : LqhState → Body → List Mark → TxId → List ℕ → AbortCause → Type 0
IsReason s body marks tx key (LogFull used reserved need) = IsLogFull s.journal tx key used reserved need
IsReason s body marks tx key (TableFull rows) = IsTableFull s.rows key rows
IsReason s body marks tx key Timeout = IsIn (mark.Expired tx key) marks × HasStood (locks_with body s.locks) tx key
IsReason s body marks tx key Request = body ≡ Chain (Abort tx key)
IsReason s body marks tx key other = ⊥
