-- What the calls on the lock of a row leave to its holders, and to those that wait.
use Rattle.std.specs.Prelude.{◌≡◌, ◌&&◌, ◌||◌, Bool, true, false, List}
use Rattle.std.specs.List.{list_any}
use Rattle.sig_core.specs.declared.member.TxId.{TxId}
use Rattle.sig_core.specs.Same.{same_tx}
use Rattle.row_locks.specs.declared.claim.Wait.{Wait}
use Rattle.row_locks.specs.declared.mode.Lock.TheVariants.{Granted}
use Rattle.row_locks.specs.declared.mode.Mode.{Mode}
use Rattle.row_locks.specs.Holders.{holds_enough}
use Rattle.row_locks.specs.Modes.{is_enough}
use Rattle.row_locks.specs.Orderly.{IsOrderly}
use Rattle.row_locks.specs.Queues.{waits}
use Rattle.row_locks.specs.Rows.{RowLock, asked, grown_old, released, unwaited}
use Rattle.key_laws.specs.Primary.{HoldOn}
use Rattle.key_laws.specs.PrimaryLaws.{nobody_gone}

-- a request takes the lock from nobody, and where it is granted its transaction holds the lock as it asked
abbrev pub RequestsHoldOn : Type 0
RequestsHoldOn = (lock : RowLock) (tx : TxId) (mode : Mode) → IsOrderly lock
    → HoldOn nobody_gone lock.holders (asked lock tx mode).lock.holders

abbrev pub GrantsHold : Type 0
GrantsHold = (lock : RowLock) (tx : TxId) (mode : Mode) → IsOrderly lock → (asked lock tx mode).answer ≡ Granted
    → holds_enough tx mode (asked lock tx mode).lock.holders ≡ true

-- who lets go takes the lock from nobody else
abbrev pub ReleasesHoldOn : Type 0
ReleasesHoldOn =
    (lock : RowLock) (tx : TxId) → IsOrderly lock → HoldOn (same_tx tx) lock.holders (released lock tx).lock.holders

abbrev pub ExpiriesHoldOn : Type 0
ExpiriesHoldOn =
    (lock : RowLock) (tx : TxId) → IsOrderly lock → HoldOn nobody_gone lock.holders (unwaited lock tx).lock.holders

-- the transaction waits in a mode that is enough
abbrev pub waits_enough : TxId → Mode → List Wait → Bool
waits_enough tx mode queue = list_any (λ wait. same_tx wait.tx tx && is_enough wait.mode mode) queue

-- the transaction holds the lock as it needs to, or waits for it
abbrev pub is_attended : RowLock → TxId → Mode → Bool
is_attended lock tx mode = holds_enough tx mode lock.holders || waits_enough tx mode lock.queue

-- whose request was queued waits
abbrev pub QueuedWait : Type 0
QueuedWait =
    (lock : RowLock) (tx : TxId) (mode : Mode) → IsOrderly lock → is_attended (asked lock tx mode).lock tx mode ≡ true

-- who holds or waits does so until it lets go or its wait expires
abbrev pub RequestsAttend : Type 0
RequestsAttend =
    (lock : RowLock) (tx : TxId) (mode : Mode) (v : TxId) (other : Mode) → IsOrderly lock
    → is_attended lock v other ≡ true
    → is_attended (asked lock tx mode).lock v other ≡ true

abbrev pub ReleasesAttend : Type 0
ReleasesAttend =
    (lock : RowLock) (tx v : TxId) (mode : Mode) → IsOrderly lock → same_tx tx v ≡ false
    → is_attended lock v mode ≡ true
    → is_attended (released lock tx).lock v mode ≡ true

abbrev pub ExpiriesAttend : Type 0
ExpiriesAttend =
    (lock : RowLock) (tx v : TxId) (mode : Mode) → IsOrderly lock → same_tx tx v ≡ false
    → is_attended lock v mode ≡ true
    → is_attended (unwaited lock tx).lock v mode ≡ true

abbrev pub RoundsAttend : Type 0
RoundsAttend = (lock : RowLock) (v : TxId) (mode : Mode) → is_attended lock v mode ≡ true
    → is_attended (grown_old lock) v mode ≡ true

-- and who waits no more holds the lock
abbrev pub AttendedHold : Type 0
AttendedHold = (lock : RowLock) (v : TxId) (mode : Mode) → is_attended lock v mode ≡ true → waits v lock.queue ≡ false
    → holds_enough v mode lock.holders ≡ true
