-- The events of one key at a backup.
use Rattle.std.specs.Prelude.{◌≡◌, ℕ, Bool, true, false, List, Option, Some}
use Rattle.run_theory.specs.Lists.{Each}
use Rattle.sig_core.specs.declared.member.TxId.{TxId}
use Rattle.sig_core.specs.declared.rows.PendingRecord.{PendingRecord}
use Rattle.sig_core.specs.declared.signal.chain.RowWork.{RowWork}
use Rattle.sig_core.specs.declared.signal.chain.RowWork.TheVariants.{Operate, Store}
use Rattle.row_locks.specs.Orderly.{IsOrderly}
use Rattle.lqh_block.specs.declared.request.Request.{Request}
use Rattle.lqh_block.specs.Work.{work_mode}
use Rattle.key_laws.specs.Backup.{Backup, IsLedUnlessSpoilt, IsSound}
use Rattle.key_laws.specs.LockLaws.{is_attended}
use Rattle.key_laws.specs.Primary.{HasPrepared}
use Rattle.key_laws.specs.PrimaryEvents.{AreAlone, NoneOf}
use Rattle.key_laws.specs.Records.{found}
use Rattle.key_laws.specs.Replica.{Event, Replica, aborts, asks, commits, completes, key_after, serves}

abbrev pub backup_of : Replica → Backup
backup_of r = record { row = r.cell.row; pending = r.cell.pending; holders = r.lock.holders }

-- the request is for an image, and not for an operation
abbrev pub IsOfImage : RowWork → Type 0
IsOfImage (Operate op) = ⊥
IsOfImage (Store key image) = Unit {0}

abbrev pub IsImage : Request → Type 0
IsImage q = IsOfImage q.work

-- the key is in good order, and who waits holds its lock as it asked or is in the queue for it
pub record IsInOrderAt (decided : TxId → Bool) (r : Replica) : Type 0 where
  pub sound : IsSound decided (backup_of r)
  pub orderly : IsOrderly r.lock
  pub attended : Each (λ (q : Request). is_attended r.lock q.tx (work_mode q.work) ≡ true) r.waiting
  pub alone : AreAlone r.waiting
  pub images : Each IsImage r.waiting

-- What the rest of the machine owes a backup: images one at a time, of transactions that aren't decided; commits of
-- those
-- that are; completions behind the commit, of those that are kept in the end; aborts of those that aren't decided.
abbrev pub IsFairAt : (decided final : TxId → Bool) → Replica → Event → Type 0
IsFairAt decided final r (asks q refused) = IsImage q × NoneOf q.tx r.waiting × (decided q.tx ≡ false)
IsFairAt decided final r (serves refused) = Each (λ (q : Request). decided q.tx ≡ false) r.waiting
IsFairAt decided final r (commits tx true) = ⊥
IsFairAt decided final r (commits tx false) = HasPrepared tx r.cell.pending → decided tx ≡ true
IsFairAt decided final r (completes tx) =
    ((x : PendingRecord) → found tx r.cell.pending ≡ Some x → (x.committed ≡ true) × (final tx ≡ true))
    × NoneOf tx r.waiting
IsFairAt decided final r (aborts tx) = decided tx ≡ false
IsFairAt decided final r event = Unit {0}

-- what an event leaves: the key in order, and led to the same value as before
pub record KeepsAt (decided final : TxId → Bool) (before after : Replica) : Type 0 where
  pub order : IsInOrderAt decided after
  pub led : (value : Option (List ℕ)) → IsLedUnlessSpoilt decided final value (backup_of before)
      → IsLedUnlessSpoilt decided final value (backup_of after)

abbrev pub FairEventsKeepAt : Type 0
FairEventsKeepAt =
    (decided final : TxId → Bool) (event : Event) (r : Replica) → IsInOrderAt decided r → IsFairAt decided final r event
    → KeepsAt decided final r (key_after event r)
