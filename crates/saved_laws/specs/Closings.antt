-- What is so of a member's rows behind a closing at which it was a full member.
use Rattle.std.specs.Prelude.{◌≡◌, ◌⊎◌, ◌≤◌, ◌<◌, ℕ, true, false, List, ◌∷◌, ◌++◌, Some}
use Rattle.run_theory.specs.Lists.{IsIn, IsPast}
use Rattle.sig_core.specs.declared.mark.Mark.TheVariants.{Closed}
use Rattle.sig_core.specs.declared.member.Member.{Member}
use Rattle.sig_core.specs.declared.member.TxId.{TxId}
use Rattle.sig_core.specs.declared.rows.PendingRecord.{PendingRecord}
use Rattle.sig_core.specs.declared.signal.Body.TheVariants.{Chain}
use Rattle.sig_core.specs.declared.signal.chain.ChainSignal.TheVariants.{Commit}
use Rattle.world_core.specs.Start.{Start, made}
use Rattle.world_core.specs.Steps.{HostStep}
use Rattle.moment_laws.specs.Moments.{IsMoment, current, logs_of}
use Rattle.moment_laws.specs.Places.{ldm_of}
use Rattle.outcome_laws.specs.Decided.{IsDecided}
use Rattle.commit_laws.specs.Traces.{IsReplicaOf, record_at, rows_at}
use Rattle.commit_laws.specs.Values.{is_final}

-- The epoch was closed at a moment of these events at which the member was full.
pub record WasFullAtClosing (start : Start) (es : List HostStep) (epoch : ℕ) (member : Member) : Type 0 where
  pub newer : List HostStep
  pub closing : HostStep
  pub older : List HostStep
  pub is : es ≡ newer ++ closing ∷ older
  pub marked : IsIn (Closed epoch) closing.step.marks
  pub full : IsIn member (current start (logs_of start older)).full

-- What a member's rows have noted as saved, beyond the epoch from which the life started, was closed when the member
-- was full.
abbrev pub SavedWereClosed : Type 0
SavedWereClosed =
    (start : Start) (all : ℕ → List HostStep) (es : List HostStep) → start.start_epoch < start.epoch
    → IsMoment start all es → (member : Member) → IsIn member (made start)
    → ((rows_at start (logs_of start es) member).saved ≡ start.start_epoch)
    ⊎ WasFullAtClosing start es (rows_at start (logs_of start es) member).saved member

-- Where an epoch is closed, whoever was decided up to it and takes effect is committed wherever a replica has a record
-- of it.
abbrev pub ClosedOnesAreCommitted : Type 0
ClosedOnesAreCommitted =
    (start : Start) (all : ℕ → List HostStep) (end older : List HostStep) (closing : HostStep) (epoch : ℕ)
    → start.start_epoch < start.epoch → IsMoment start all end → IsPast (closing ∷ older) end
    → IsIn (Closed epoch) closing.step.marks → (tx : TxId) (at : ℕ) → IsDecided start (logs_of start older) tx at
    → at ≤ epoch → is_final start end tx ≡ true → (key : List ℕ) (member : Member)
    → IsReplicaOf start (logs_of start older) key member → (r : PendingRecord)
    → record_at start (logs_of start older) member key tx ≡ Some r → r.committed ≡ true

-- A member's rows take the commit of a transaction that they have prepared.
pub record Commits (start : Start) (e : HostStep) (es : List HostStep) (member : Member) (tx : TxId) (key : List ℕ)
    (epoch : ℕ) : Type 0 where
  pub host_is : e.host ≡ ldm_of start member
  pub members : List Member
  pub at : ℕ
  pub body : e.step.taken.body ≡ Chain (Commit tx key epoch members at)
  pub r : PendingRecord
  pub there : record_at start (logs_of start es) member key tx ≡ Some r
  pub prepared : r.committed ≡ false
  -- it is committed then
  pub now : PendingRecord
  pub is_now : record_at start (logs_of start (e ∷ es)) member key tx ≡ Some now
  pub committed : now.committed ≡ true

-- Whoever is decided up to an epoch, and is committed, before its closing or behind it, by a member that is full at
-- that closing, takes effect.
abbrev pub CommittedOnesAreFinal : Type 0
CommittedOnesAreFinal =
    (start : Start) (all : ℕ → List HostStep) (end es newer : List HostStep) (e : HostStep) (epoch : ℕ)
    (member : Member) → start.start_epoch < start.epoch → IsMoment start all end → IsPast es end
    → IsIn member (made start) → WasFullAtClosing start es epoch member → IsPast (e ∷ newer) es → (tx : TxId)
    (key : List ℕ) (at : ℕ) → Commits start e newer member tx key at → at ≤ epoch → is_final start end tx ≡ true

-- a commit that rows take is of a transaction that was decided, in that epoch
abbrev pub CommitsWereDecided : Type 0
CommitsWereDecided =
    (start : Start) (all : ℕ → List HostStep) (e : HostStep) (es : List HostStep) → start.start_epoch < start.epoch
    → IsMoment start all (e ∷ es) → (member : Member) → IsIn member (made start) → (tx : TxId) (key : List ℕ)
    (at : ℕ) → Commits start e es member tx key at → IsDecided start (logs_of start es) tx at
