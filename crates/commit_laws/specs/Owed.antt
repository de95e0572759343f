-- What the values of keys stand on, beside what is settled at decisions.
use Rattle.std.specs.Prelude.{◌≡◌, ℕ, Bool, true, false, List, [], ◌∷◌, Some}
use Rattle.run_theory.specs.Lists.{IsIn, IsPast}
use Rattle.row_locks.specs.declared.mode.Mode.TheVariants.{Exclusive}
use Rattle.row_locks.specs.Holders.{holds_enough}
use Rattle.sig_core.specs.declared.entry.Entry.{Entry}
use Rattle.sig_core.specs.declared.mark.Mark.{Mark}
use Rattle.sig_core.specs.declared.mark.Mark.TheVariants.{Decided}
use Rattle.sig_core.specs.declared.member.Member.{Member}
use Rattle.sig_core.specs.declared.member.TxId.{TxId}
use Rattle.sig_core.specs.declared.rows.PendingRecord.{PendingRecord}
use Rattle.key_laws.specs.BackupEvents.{backup_of}
use Rattle.key_laws.specs.Primary.{HasPrepared, ended_too}
use Rattle.world_core.specs.Start.{Start}
use Rattle.world_core.specs.Steps.{HostStep}
use Rattle.world_views.specs.Machine.{stops_by}
use Rattle.view_laws.specs.Order.{decisions}
use Rattle.moment_laws.specs.Moments.{IsMoment, logs_of}
use Rattle.commit_laws.specs.Fates.{fate}
use Rattle.commit_laws.specs.Fates as Fates
use Rattle.commit_laws.specs.Going.{is_back, is_forth}
use Rattle.commit_laws.specs.Led.{IsTidy, Leads}
use Rattle.commit_laws.specs.Settled.{DecisionsAreSettled, IsDecidedNow, IsPrimary}
use Rattle.commit_laws.specs.Traces.{IsApplied, IsReplicaOf, record_at, replica_at}
use Rattle.commit_laws.specs.Values.{decided_at, first_row, is_final, is_final_entry}

-- the key has a primary, which is one of its replicas
pub record HasPrimary (start : Start) (logs : ℕ → List HostStep) (key : List ℕ) : Type 0 where
  pub primary : Member
  pub is : IsPrimary start logs key primary
  pub replica : IsReplicaOf start logs key primary

abbrev pub KeysHavePrimaries : Type 0
KeysHavePrimaries =
    (start : Start) (all : ℕ → List HostStep) (es : List HostStep) → IsMoment start all es → (key : List ℕ)
    → HasPrimary start (logs_of start es) key

-- nobody comes to be a replica
abbrev pub ReplicasWereSo : Type 0
ReplicasWereSo =
    (start : Start) (all : ℕ → List HostStep) (e : HostStep) (es : List HostStep) → IsMoment start all (e ∷ es)
    → (key : List ℕ) (member : Member) → IsReplicaOf start (logs_of start (e ∷ es)) key member
    → IsReplicaOf start (logs_of start es) key member

-- a replica begins with the first row, and nothing else
pub record IsAtRestFirst (start : Start) (key : List ℕ) (member : Member) : Type 0 where
  pub row : (replica_at start (logs_of start []) member key).cell.row ≡ first_row start [] key
  pub pending : (replica_at start (logs_of start []) member key).cell.pending ≡ []
  pub holders : (replica_at start (logs_of start []) member key).lock.holders ≡ []

abbrev pub ReplicasBeginAtRest : Type 0
ReplicasBeginAtRest =
    (start : Start) (all : ℕ → List HostStep) → IsMoment start all [] → (key : List ℕ) (member : Member)
    → IsReplicaOf start (logs_of start []) key member → IsAtRestFirst start key member

-- these decisions come one after the other, each of one that isn't decided yet
abbrev pub AreFresh : (TxId → Bool) → List Mark → Type 0
AreFresh decided [] = Unit {0}
AreFresh decided (Decided tx epoch ∷ marks) = (decided tx ≡ false) × AreFresh (ended_too decided tx) marks
AreFresh decided (mark ∷ marks) = AreFresh decided marks

abbrev pub DecisionsAreFresh : Type 0
DecisionsAreFresh =
    (start : Start) (all : ℕ → List HostStep) (e : HostStep) (es : List HostStep) → IsMoment start all (e ∷ es)
    → (end : List HostStep) → AreFresh (decided_at start end es) e.step.marks

-- along a run whose end is fixed
pub record IsAlong (start : Start) (all : ℕ → List HostStep) (end es : List HostStep) : Type 0 where
  pub moment : IsMoment start all end
  pub past : IsPast es end

-- an entry takes effect just where its transaction is final
abbrev pub EntriesAreFinal : Type 0
EntriesAreFinal =
    (start : Start) (all : ℕ → List HostStep) (end es : List HostStep) → IsAlong start all end es → (z : Entry)
    → IsIn z (decisions start es) → is_final_entry start end z ≡ is_final start end z.tx

-- a host that decides goes on
abbrev pub DecidersGoOn : Type 0
DecidersGoOn =
    (start : Start) (all : ℕ → List HostStep) (e : HostStep) (es : List HostStep) → IsMoment start all (e ∷ es)
    → (tx : TxId) (epoch : ℕ) → IsIn (Decided tx epoch) e.step.marks → stops_by e.step.marks ≡ false

-- whoever is final isn't lost when it is decided
abbrev pub FinalsAreDecidedNow : Type 0
FinalsAreDecidedNow =
    (start : Start) (all : ℕ → List HostStep) (end : List HostStep) (e : HostStep) (es : List HostStep)
    → IsAlong start all end (e ∷ es) → (tx : TxId) (epoch : ℕ) → IsIn (Decided tx epoch) e.step.marks
    → is_final start end tx ≡ true → IsDecidedNow start e es tx

-- who was committed at a replica, and has let go of the lock there, is final
abbrev pub WhoLetGoAreFinal : Type 0
WhoLetGoAreFinal =
    (start : Start) (all : ℕ → List HostStep) (end es : List HostStep) → IsAlong start all end es
    → (key : List ℕ) (member : Member) → IsReplicaOf start (logs_of start es) key member → (v : TxId)
    (r : PendingRecord)
    → record_at start (logs_of start es) member key v ≡ Some r → r.committed ≡ true
    → holds_enough v Exclusive (replica_at start (logs_of start es) member key).lock.holders ≡ false
    → is_final start end v ≡ true

-- whoever is final was committed by its coordinator
abbrev pub FinalsAreForth : Type 0
FinalsAreForth =
    (start : Start) (all : ℕ → List HostStep) (end : List HostStep) → IsMoment start all end → (v : TxId)
    → is_final start end v ≡ true → is_forth start (logs_of start end) v ≡ true

-- and never given up
abbrev pub FinalsGoForward : Type 0
FinalsGoForward =
    (start : Start) (all : ℕ → List HostStep) (end es : List HostStep) → IsAlong start all end es → (v : TxId)
    → is_final start end v ≡ true → is_back start (logs_of start es) v ≡ false

-- whoever was applied is final
abbrev pub AppliedAreFinal : Type 0
AppliedAreFinal =
    (start : Start) (all : ℕ → List HostStep) (end es : List HostStep) → IsAlong start all end es → (v : TxId)
    (key : List ℕ)
    → IsApplied start (logs_of start es) v key → is_final start end v ≡ true

-- whoever aborts, and has something prepared, isn't
abbrev pub AbortedAreNotFinal : Type 0
AbortedAreNotFinal =
    (start : Start) (all : ℕ → List HostStep) (end es : List HostStep) → IsAlong start all end es
    → (key : List ℕ) (member : Member) → IsReplicaOf start (logs_of start es) key member → (v : TxId)
    → fate start (logs_of start es) v ≡ Fates.aborts
    → HasPrepared v (replica_at start (logs_of start es) member key).cell.pending → is_final start end v ≡ false

-- what an event does to a key that is tidy at a replica
abbrev pub EventsLead : Type 0
EventsLead =
    (start : Start) (all : ℕ → List HostStep) (end : List HostStep) (e : HostStep) (es : List HostStep)
    → IsAlong start all end (e ∷ es) → (key : List ℕ) (member : Member)
    → IsReplicaOf start (logs_of start (e ∷ es)) key member
    → IsTidy (decided_at start end (e ∷ es)) (backup_of (replica_at start (logs_of start es) member key))
    → Leads (decided_at start end (e ∷ es)) (is_final start end)
    (backup_of (replica_at start (logs_of start es) member key))
    (backup_of (replica_at start (logs_of start (e ∷ es)) member key))

pub record AreOwed : Type 0 where
  pub settled : DecisionsAreSettled
  pub primaries : KeysHavePrimaries
  pub replicas : ReplicasWereSo
  pub begin : ReplicasBeginAtRest
  pub fresh : DecisionsAreFresh
  pub entries : EntriesAreFinal
  pub finals : FinalsAreDecidedNow
  pub let_go : WhoLetGoAreFinal
  pub events : EventsLead
