-- What is true of the locks of all keys, whatever was asked for and let go.
use Rattle.std.specs.Prelude.{◌≡◌, ℕ, false, List, Some}
use Rattle.std.specs.FinMap as map
use Rattle.row_locks.specs.Rows.{RowLock}
use Rattle.row_locks.specs.Orderly.{IsOrderly}
use Rattle.row_locks.specs.Tables.{Locks, lock_at, is_idle}

-- each lock is orderly, and no key is there whose lock nobody holds and nobody waits for
pub record AreOrderly (locks : Locks) : Type 0 where
  pub each : (key : List ℕ) → IsOrderly (lock_at locks key)
  pub used : (key : List ℕ) (lock : RowLock) → map.get locks key ≡ Some lock → is_idle lock ≡ false
