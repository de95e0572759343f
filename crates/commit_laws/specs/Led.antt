-- One key at a replica that may come to be its primary, and what is owed to it so that its row stays led to what the
-- history makes of it.
use Rattle.std.specs.Prelude.{◌≡◌, ℕ, Bool, true, false, List, Option, Some}
use Rattle.run_theory.specs.Lists.{Each}
use Rattle.row_locks.specs.Orderly.{IsOrderly, are_agreed}
use Rattle.sig_core.specs.declared.member.TxId.{TxId}
use Rattle.sig_core.specs.declared.rows.PendingRecord.{PendingRecord}
use Rattle.lqh_block.specs.declared.request.Request.{Request}
use Rattle.lqh_block.specs.Work.{work_mode}
use Rattle.key_laws.specs.Backup.{Backup, IsLedUnlessSpoilt, kept_of}
use Rattle.key_laws.specs.BackupEvents.{backup_of}
use Rattle.key_laws.specs.LockLaws.{is_attended}
use Rattle.key_laws.specs.Primary.{HasPrepared, IsOwned}
use Rattle.key_laws.specs.Records.{AreOnce, found}
use Rattle.key_laws.specs.Replica.{Event, Replica, aborts, asks, commits, completes, key_after, serves}

-- The key is tidy: no transaction has two records, each record is committed or of a transaction that holds the lock
-- exclusive, holders agree, and what is committed here is decided.
pub record IsTidy (decided : TxId → Bool) (b : Backup) : Type 0 where
  pub once : AreOnce b.pending
  pub owned : Each (IsOwned b.holders) b.pending
  pub agreed : are_agreed b.holders ≡ true
  pub done : Each (λ (r : PendingRecord). r.committed ≡ true → decided r.tx ≡ true) b.pending

-- what an event leaves: the key tidy, and led to the same value as before
pub record Leads (decided final : TxId → Bool) (before after : Backup) : Type 0 where
  pub tidy : IsTidy decided after
  pub led : (value : Option (List ℕ)) → IsLedUnlessSpoilt decided final value before
      → IsLedUnlessSpoilt decided final value after

-- the transaction isn't kept in the end, and has nothing committed here
pub record IsUnkept (decided final : TxId → Bool) (pending : List PendingRecord) (tx : TxId) : Type 0 where
  pub unkept : kept_of decided final tx ≡ false
  pub plain : (x : PendingRecord) → found tx pending ≡ Some x → x.committed ≡ false

-- What the rest of the machine owes the key: requests are of transactions that aren't kept, commits of those that are
-- decided; completions come behind the commit, of those that are kept in the end; and what is given up isn't kept.
abbrev pub IsFairTo : (decided final : TxId → Bool) → Replica → Event → Type 0
IsFairTo decided final r (asks q refused) = IsUnkept decided final r.cell.pending q.tx
IsFairTo decided final r (serves refused) = Each (λ (q : Request). IsUnkept decided final r.cell.pending q.tx) r.waiting
IsFairTo decided final r (commits tx first) = HasPrepared tx r.cell.pending → decided tx ≡ true
IsFairTo decided final r (completes tx) =
    (x : PendingRecord) → found tx r.cell.pending ≡ Some x → (x.committed ≡ true) × (final tx ≡ true)
IsFairTo decided final r (aborts tx) = HasPrepared tx r.cell.pending → kept_of decided final tx ≡ false
IsFairTo decided final r event = Unit {0}

-- who waits for the lock of the key is attended to
pub record IsReady (r : Replica) : Type 0 where
  pub orderly : IsOrderly r.lock
  pub attended : Each (λ (q : Request). is_attended r.lock q.tx (work_mode q.work) ≡ true) r.waiting

abbrev pub FairEventsLead : Type 0
FairEventsLead =
    (decided final : TxId → Bool) (event : Event) (r : Replica) → IsReady r → IsTidy decided (backup_of r)
    → IsFairTo decided final r event → Leads decided final (backup_of r) (backup_of (key_after event r))
