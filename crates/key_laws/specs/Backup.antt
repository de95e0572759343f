-- One key at a backup: its row, the records, and the holders of its lock.
use Rattle.std.specs.Prelude.{◌≡◌, ◌&&◌, not, ℕ, Bool, true, false, List, Option, Some}
use Rattle.std.specs.List.{list_any}
use Rattle.run_theory.specs.Lists.{Each}
use Rattle.sig_core.specs.declared.member.TxId.{TxId}
use Rattle.sig_core.specs.declared.rows.PendingRecord.{PendingRecord}
use Rattle.sig_core.specs.Rows.{prepared}
use Rattle.row_locks.specs.declared.claim.Holder.{Holder}
use Rattle.row_locks.specs.declared.mode.Mode.TheVariants.{Exclusive}
use Rattle.row_locks.specs.Holders.{holds_enough}
use Rattle.row_locks.specs.Orderly.{are_agreed}
use Rattle.key_laws.specs.Primary.{IsLedTo}
use Rattle.key_laws.specs.Records.{AreOnce, as_committed, committed_row, edited, found, if_committed, stored}
use Rattle.key_laws.specs.Records.{unless_committed}

-- the key at a backup
pub record Backup : Type 0 where
  pub row : Option (List ℕ)
  pub pending : List PendingRecord
  pub holders : List Holder

-- The key is in good order: each record is of a transaction that holds the lock exclusive, until it is done with, and
-- what
-- is committed here is decided.
pub record IsSound (decided : TxId → Bool) (b : Backup) : Type 0 where
  pub once : AreOnce b.pending
  pub owned : Each (λ (r : PendingRecord). holds_enough r.tx Exclusive b.holders ≡ true) b.pending
  pub agreed : are_agreed b.holders ≡ true
  pub done : Each (λ (r : PendingRecord). r.committed ≡ true → decided r.tx ≡ true) b.pending

-- those of the decided transactions that are kept in the end
abbrev pub kept_of : (decided final : TxId → Bool) → TxId → Bool
kept_of decided final v = decided v && final v

-- the record is committed here, and its transaction isn't kept in the end
abbrev pub is_spoilt : (TxId → Bool) → PendingRecord → Bool
is_spoilt final r = r.committed && not (final r.tx)

-- Unless the row has what isn't kept in the end, it is led to this once all that is kept is committed here.
abbrev pub IsLedUnlessSpoilt : (decided final : TxId → Bool) → Option (List ℕ) → Backup → Type 0
IsLedUnlessSpoilt decided final value b =
    list_any (is_spoilt final) b.pending ≡ false → IsLedTo (kept_of decided final) value b.row b.pending

-- more transactions come to hold the lock
abbrev pub let_in : Backup → List Holder → Backup
let_in b holders = record { row = b.row; pending = b.pending; holders = holders }

-- a holder's image is prepared
abbrev pub prepared_at : Backup → TxId → List ℕ → Option (List ℕ) → Backup
prepared_at b tx key image = record {
  row = b.row;
  pending = stored (prepared tx key image) b.pending;
  holders = b.holders;
}

-- a commit lets go of nothing here
abbrev pub committed_at : Backup → TxId → Backup
committed_at b tx = record {
  row = committed_row b.row (found tx b.pending);
  pending = edited as_committed tx b.pending;
  holders = b.holders;
}

-- a completion and an abort do
abbrev pub completed_at : Backup → TxId → List Holder → Backup
completed_at b tx holders = record { row = b.row; pending = edited unless_committed tx b.pending; holders = holders }

abbrev pub aborted_at : Backup → TxId → List Holder → Backup
aborted_at b tx holders = record { row = b.row; pending = edited if_committed tx b.pending; holders = holders }

-- the transaction has this image of the row prepared
pub record HasImage (tx : TxId) (image : Option (List ℕ)) (pending : List PendingRecord) : Type 0 where
  pub is_record : PendingRecord
  pub there : found tx pending ≡ Some is_record
  pub waits : is_record.committed ≡ false
  pub image_is : is_record.image ≡ image
