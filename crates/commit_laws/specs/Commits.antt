-- How far the commit of a transaction has come at the replicas of its keys.
use Rattle.std.specs.Prelude.{◌≡◌, ◌≢◌, ◌<◌, ℕ, true, false, List, None, Some}
use Rattle.std.specs.List.{slice_get}
use Rattle.run_theory.specs.Links.{sent}
use Rattle.run_theory.specs.Lists.{Each, IsIn}
use Rattle.row_locks.specs.declared.mode.Mode.TheVariants.{Exclusive}
use Rattle.sig_core.specs.declared.member.Member.{Member}
use Rattle.sig_core.specs.declared.member.TxId.{TxId}
use Rattle.sig_core.specs.declared.rows.PendingRecord.{PendingRecord}
use Rattle.sig_core.specs.declared.signal.Body.{Body}
use Rattle.sig_core.specs.declared.signal.Body.TheVariants.{Chain, Client}
use Rattle.sig_core.specs.declared.signal.chain.ChainSignal.TheVariants.{Commit, Committed, Complete, Completed}
use Rattle.sig_core.specs.declared.signal.client.ClientSignal.TheVariants.{TcCommitAck, TcCommitConf, TcKeyFailConf}
use Rattle.world_core.specs.Start.{Start, made}
use Rattle.world_core.specs.Steps.{Addressed, HostStep}
use Rattle.view_laws.specs.Order.{sound_machine}
use Rattle.row_locks.specs.Holders.{holds_enough}
use Rattle.moment_laws.specs.Moments.{current}
use Rattle.commit_laws.specs.Fates.{aborts, fate}
use Rattle.commit_laws.specs.Going.{decided_ops, image_by, is_decided, is_written_by}
use Rattle.commit_laws.specs.Traces.{AreCommitted, IsApplied, IsCommittedAtAll, IsReplicaOf, has_marker_at}
use Rattle.commit_laws.specs.Traces.{is_committed_at, is_known, members_now, record_at, replica_at}

module _ (start : Start) (logs : ℕ → List HostStep) where
  -- the transaction wrote the key
  abbrev pub HasWritten : TxId → List ℕ → Type 0
  HasWritten tx key = is_written_by (decided_ops start logs tx) key ≡ true

  -- a record with the image that the transaction leaves, or a marker of its commit
  pub data HoldsImage (member : Member) (key : List ℕ) (tx : TxId) : Type 0 where
    by_record : (r : PendingRecord) → record_at start logs member key tx ≡ Some r
        → r.image ≡ image_by (decided_ops start logs tx) key → HoldsImage member key tx
    by_marker : has_marker_at start logs member key tx ≡ true → HoldsImage member key tx

  -- a committed record, or a marker
  pub data LeavesTraceOn (member : Member) (key : List ℕ) (tx : TxId) : Type 0 where
    committed_there : (r : PendingRecord) → record_at start logs member key tx ≡ Some r → r.committed ≡ true
        → LeavesTraceOn member key tx
    marked_there : has_marker_at start logs member key tx ≡ true → LeavesTraceOn member key tx

  -- a transaction that is decided, and isn't to abort
  pub record IsKept (tx : TxId) : Type 0 where
    pub decided : is_decided start logs tx ≡ true
    pub fate_is : fate start logs tx ≢ aborts

  -- all its keys are committed at all replicas
  abbrev pub IsDone : TxId → Type 0
  IsDone tx = (key : List ℕ) → HasWritten tx key → IsCommittedAtAll start logs tx key

  -- it wrote something
  pub record HasWrittenOne (tx : TxId) : Type 0 where
    pub key : List ℕ
    pub written : HasWritten tx key

  -- a commit at a place of its chain comes when the places behind it have committed; what tells of one, when all have
  abbrev pub ComesFromTheEnd : Body → Type 0
  ComesFromTheEnd (Chain (Commit tx key epoch chain at)) =
      HasWritten tx key → (place : ℕ) (member : Member) → at < place → slice_get chain place ≡ Some member
      → is_committed_at start logs member key tx ≡ true
  ComesFromTheEnd (Chain (Committed tx key)) = HasWritten tx key → IsCommittedAtAll start logs tx key
  ComesFromTheEnd body = Unit {0}

  -- the client is told of a commit, and keys are completed, when all is done
  abbrev pub ComesWhenDone : Body → Type 0
  ComesWhenDone (Chain (Complete tx key chain at)) = IsDone tx
  ComesWhenDone (Chain (Completed tx key)) = IsDone tx
  ComesWhenDone (Client (TcCommitConf tx epoch)) = IsDone tx
  ComesWhenDone (Client (TcKeyFailConf tx epoch)) = IsDone tx × HasWrittenOne tx
  ComesWhenDone (Client (TcCommitAck tx)) = IsDone tx
  ComesWhenDone body = Unit {0}

  pub record CommitsStand : Type 0 where
    -- no replica is without what is kept, until the client's side knows of the commit
    pub held : (tx : TxId) → IsKept tx → is_known start logs tx ≡ false → (key : List ℕ) → HasWritten tx key
        → (member : Member) → IsReplicaOf start logs key member → HoldsImage member key tx
    -- records of it are of keys that it wrote, and have the image that it leaves
    pub records : (tx : TxId) → IsKept tx → (member : Member) → IsIn member (made start)
        → (key : List ℕ) (r : PendingRecord)
        → record_at start logs member key tx ≡ Some r
        → HasWritten tx key × (r.image ≡ image_by (decided_ops start logs tx) key)
    -- what is committed, and what is remembered of a commit, is of a key that it wrote
    pub written : (tx : TxId) (member : Member) → IsIn member (made start) → (key : List ℕ)
        → LeavesTraceOn member key tx
        → HasWritten tx key
    pub commits : (i j : ℕ)
        → Each (λ (x : Addressed). x.signal.view.number ≡ (current start logs).number → ComesFromTheEnd x.signal.body)
        (sent (sound_machine start) i j (logs i))
    pub done : (i j : ℕ)
        → Each (λ (x : Addressed). ComesWhenDone x.signal.body) (sent (sound_machine start) i j (logs i))
    -- what was applied is committed
    pub applied : (tx : TxId) (key : List ℕ) → IsApplied start logs tx key → AreCommitted start logs tx key
    -- a marker stands alone when all is done
    pub alone : (member : Member) → IsIn member (members_now start logs) → (key : List ℕ) (tx : TxId)
        → has_marker_at start logs member key tx ≡ true → record_at start logs member key tx ≡ None → IsDone tx
    -- who is committed, and doesn't hold the lock any more, is committed at all
    pub let_go : (member : Member) → IsIn member (members_now start logs)
        → (key : List ℕ) (tx : TxId) (r : PendingRecord)
        → record_at start logs member key tx ≡ Some r → r.committed ≡ true
        → holds_enough tx Exclusive (replica_at start logs member key).lock.holders ≡ false
        → IsCommittedAtAll start logs tx key
    -- who has something prepared holds the lock
    pub prepared : (member : Member) → IsIn member (members_now start logs) → (key : List ℕ) (tx : TxId)
        (r : PendingRecord) → record_at start logs member key tx ≡ Some r → r.committed ≡ false
        → holds_enough tx Exclusive (replica_at start logs member key).lock.holders ≡ true
    -- whatever the client's side knows to be committed is done
    pub known : (tx : TxId) → is_known start logs tx ≡ true → IsDone tx
