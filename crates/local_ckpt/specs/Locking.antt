-- Rows that are locked while an image of them is prepared, and what the log makes of them.
use Rattle.std.specs.Prelude.{◌≡◌, ℕ, ◌≤◌, true, List, [], ◌∷◌, Option, Some}
use Rattle.std.specs.List.{AllByRecursion}
use Rattle.std.specs.FinMap as map
use Rattle.sig_core.specs.declared.member.TxId.{TxId}
use Rattle.sig_core.specs.Rows.{RowsState, row_of}
use Rattle.sig_core.specs.Same.{same_tx}
use Rattle.sig_core.specs.Table.{Rows}
use Rattle.local_ckpt.specs.Events.{Commit, Event, Moment, Prepare, after, changed}
use Rattle.local_ckpt.specs.Laws.{Begins, HasPrepares, IsImage, IsReadable}
use Rattle.local_ckpt.specs.Orderly.{IsOrderly, image_in}

-- no other transaction has prepared an image of the key
abbrev pub IsAlone : RowsState → TxId → List ℕ → Type 0
IsAlone s tx key =
    (other : TxId) (image : Option (List ℕ)) → image_in s other key ≡ Some image → same_tx tx other ≡ true

-- no two transactions have prepared images of one key
abbrev pub AreLocked : RowsState → Type 0
AreLocked s =
    (tx : TxId) (key : List ℕ) (image : Option (List ℕ)) → image_in s tx key ≡ Some image → IsAlone s tx key

-- rows as a node keeps them: none is of a later epoch than this, and what is prepared can be read
pub record AreKept (most : ℕ) (s : RowsState) : Type 0 where
  pub orderly : IsOrderly s
  pub locked : AreLocked s
  pub readable : AllByRecursion (IsReadable most) s.places
  pub images : (tx : TxId) (key : List ℕ) (image : Option (List ℕ)) → image_in s tx key ≡ Some image
      → IsImage key image

-- who prepares has the lock, and a commit isn't later than an epoch
abbrev pub KeepsLock : ℕ → RowsState → Event → Type 0
KeepsLock most s (Prepare tx fragment key image) = IsAlone s tx key × IsImage key image
KeepsLock most s (Commit tx key epoch) = epoch ≤ most
KeepsLock most s event = Unit {0}

-- so it is of each of many, the first of them first
abbrev pub KeepLocks : ℕ → RowsState → List Event → Type 0
KeepLocks most s [] = Unit {0}
KeepLocks most s (event ∷ events) = KeepsLock most s event × KeepLocks most (changed event s) events

-- Where rows are locked, a walk may begin at any moment, with any position from which on the log has what is prepared:
-- what the records from there on make of a key ends with its last commit, or is nothing. So they change nothing of the
-- rows.
abbrev pub WalksMayBegin : Type 0
WalksMayBegin =
    (m : Moment) (events : List Event) (noted : ℕ) (rows : Rows)
    → m.log ≡ [] → AreKept noted m.rows → KeepLocks noted m.rows events
    → let end = after events m in
    HasPrepares end.rows end.log → ((key : List ℕ) → map.get rows key ≡ row_of end.rows key)
    → Begins end.rows end.log noted rows
