-- What a transaction that asks for its epoch has of a key is what the replicas made of it.
use Rattle.world_core.specs.Hosts.{rows_host, started}
use Rattle.std.specs.List.{list_any}
use Rattle.std.specs.Prelude.{◌≡◌, ◌<◌, ℕ, false, is_some, length, List, [], ◌∷◌, Option, None, Some}
use Rattle.run_theory.specs.Lists.{Each}
use Rattle.world_core.specs.Steps.{Addressed, HostStep}
use Rattle.sig_core.specs.declared.member.TxId.{TxId}
use Rattle.sig_core.specs.declared.op.Answer.{Answer}
use Rattle.sig_core.specs.declared.op.Op.{Op}
use Rattle.sig_core.specs.declared.rows.PendingRecord.{PendingRecord}
use Rattle.sig_core.specs.declared.signal.Body.{Body}
use Rattle.sig_core.specs.declared.signal.Body.TheVariants.{Epoch}
use Rattle.sig_core.specs.declared.signal.epoch.EpochSignal.TheVariants.{DiVerifyReq}
use Rattle.sig_core.specs.Chain.{node_at}
use Rattle.tc_block.specs.declared.phase.Phase.TheVariants.{Verifying}
use Rattle.tc_block.specs.declared.transaction.Transaction.{Transaction}
use Rattle.world_core.specs.History.{is_done}
use Rattle.world_core.specs.Start.{Start}
use Rattle.key_laws.specs.OneKey.{ops_on}
use Rattle.key_laws.specs.PrimaryEvents.{AtPrimary, primary_after}
use Rattle.key_laws.specs.Records.{found}
use Rattle.key_laws.specs.Replica.{Replica}
use Rattle.host_laws.specs.ReplicaLaws.{event_in, key_in}
use Rattle.world_core.specs.Machine.{after}
use Rattle.run_laws.specs.GivenUp.{is_given_up}
use Rattle.run_laws.specs.Live.{live_at}
use Rattle.run_laws.specs.Routes.{primary_host, replicas}
use Rattle.run_laws.specs.Transit.{AreInTransit, IsRun, logs_of}

-- one key of a host with this log, with what was answered there
abbrev pub primary_along : Start → ℕ → List ℕ → List HostStep → AtPrimary
primary_along start h key [] = record { replica = key_in key (started start h); made = λ v. []; ended = λ v. false }
primary_along start h key (e ∷ log) =
    primary_after (event_in key (after start h log) e.step.taken) (primary_along start h key log)

-- the key at its primary
abbrev pub at_primary : Start → (ℕ → List HostStep) → List ℕ → AtPrimary
at_primary start logs key = primary_along start (primary_host start key) key (logs (primary_host start key))

-- the key at a host
abbrev pub at_host : Start → (ℕ → List HostStep) → List ℕ → ℕ → Replica
at_host start logs key h = key_in key (after start h (logs h))

-- two replicas have the same image prepared, or none
abbrev pub Agree : Option PendingRecord → Option PendingRecord → Type 0
Agree None None = Unit {0}
Agree (Some a) (Some b) = (a.image ≡ b.image) × ((a.committed ≡ false) × (b.committed ≡ false))
Agree one other = ⊥

-- the host runs one of the key's replicas
pub record IsReplica (start : Start) (key : List ℕ) (h : ℕ) : Type 0 where
  pub at : ℕ
  pub inside : at < length (replicas start key)
  pub host_is : rows_host start (node_at (replicas start key) at) ≡ h

-- The key has what the transaction was answered: its primary made these answers, and neither committed nor aborted it;
-- each
-- replica has the image of the primary, or none where that has none, which is so where no answer was `Done`.
pub record IsSettledFor (start : Start) (logs : ℕ → List HostStep) (tx : TxId) (ops : List (Op × Answer)) (key : List ℕ)
    : Type 0 where
  pub made : (at_primary start logs key).made tx ≡ ops_on key ops
  pub alive : (at_primary start logs key).ended tx ≡ false
  pub agreed : (h : ℕ) → IsReplica start key h
      → Agree (found tx (at_primary start logs key).replica.cell.pending)
      (found tx (at_host start logs key h).cell.pending)
  pub others : (h : ℕ) → (IsReplica start key h → ⊥) → found tx (at_host start logs key h).cell.pending ≡ None
  pub written : is_some (found tx (at_primary start logs key).replica.cell.pending)
      ≡ list_any (λ (op : Op × Answer). is_done op.1) (ops_on key ops)

-- a transaction that waits for its epoch, and isn't given up, is settled for each key, and no operation is unanswered
pub record IsSettled (start : Start) (logs : ℕ → List HostStep) (tx : TxId) (t : Transaction) : Type 0 where
  pub asked : t.asked ≡ None
  pub settled : (key : List ℕ) → IsSettledFor start logs tx t.ops key

abbrev pub VerifiedAreSettled : Type 0
VerifiedAreSettled =
    (start : Start) (es : List HostStep) (xs : List Addressed) (tx : TxId) (t : Transaction) → IsRun start es
    → AreInTransit start es xs
    → is_given_up start (logs_of start es) tx ≡ false → live_at start (logs_of start es) tx ≡ Some t
    → t.phase ≡ Verifying
    → IsSettled start (logs_of start es) tx t

-- it waits for its epoch, with these operations
pub record WaitsWith (start : Start) (logs : ℕ → List HostStep) (tx : TxId) (ops : List (Op × Answer)) : Type 0 where
  pub transaction : Transaction
  pub live : live_at start logs tx ≡ Some transaction
  pub phase : transaction.phase ≡ Verifying
  pub ops_are : transaction.ops ≡ ops

-- what asks for an epoch is of a transaction that waits for it with these operations, unless that is given up
abbrev pub IsOfWaiting : Start → (ℕ → List HostStep) → Body → Type 0
IsOfWaiting start logs (Epoch (DiVerifyReq tx ops)) = is_given_up start logs tx ≡ false → WaitsWith start logs tx ops
IsOfWaiting start logs body = Unit {0}

abbrev pub WhoAsksWaits : Type 0
WhoAsksWaits =
    (start : Start) (es : List HostStep) (xs : List Addressed) → IsRun start es → AreInTransit start es xs
    → Each (λ (x : Addressed). IsOfWaiting start (logs_of start es) x.signal.body) xs
