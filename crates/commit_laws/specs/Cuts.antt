-- What right logs have of transactions in the end: what was reported of them, and the rows and records of their keys.
use Rattle.std.specs.FinMap as map
use Rattle.std.specs.Prelude.{◌≡◌, ℕ, false, List, [], Some}
use Rattle.run_theory.specs.Cuts.{IsCut}
use Rattle.run_theory.specs.Lists.{Each, IsIn}
use Rattle.sig_core.specs.declared.entry.Entry.{Entry}
use Rattle.sig_core.specs.declared.mark.Mark.TheVariants.{Reported}
use Rattle.sig_core.specs.declared.member.Member.{Member}
use Rattle.sig_core.specs.declared.member.TxId.{TxId}
use Rattle.sig_core.specs.declared.outcome.AbortCause.{AbortCause}
use Rattle.sig_core.specs.declared.outcome.Outcome.TheVariants.{Aborted, Committed}
use Rattle.sig_core.specs.declared.rows.PendingRecord.{PendingRecord}
use Rattle.sig_core.specs.Op.{key_of}
use Rattle.sig_core.specs.Same.{same_key, same_tx}
use Rattle.serial_model.specs.Legal.{IsLegal, fold, rows_of}
use Rattle.tc_block.specs.declared.phase.Asked.{Asked}
use Rattle.tc_block.specs.declared.transaction.Transaction.{Transaction}
use Rattle.world_core.specs.History.{history}
use Rattle.world_core.specs.Hosts.{hosts}
use Rattle.world_core.specs.Rest.{IsAtRest, IsLiveReplica}
use Rattle.world_core.specs.Start.{Start, made}
use Rattle.world_core.specs.Steps.{HostStep}
use Rattle.world_views.specs.At.{row_in}
use Rattle.view_laws.specs.Runs.{AreOfCluster}
use Rattle.moment_laws.specs.Moments.{IsMoment, logs_of}
use Rattle.outcome_laws.specs.Decided.{IsMarked}
use Rattle.outcome_laws.specs.Outcomes.{HasEntry}
use Rattle.commit_laws.specs.Going.{is_lost, own_live}
use Rattle.commit_laws.specs.Traces.{IsReplicaOf, record_at, replica_at}

-- each answer in it is right
abbrev pub HistoriesAreLegal : Type 0
HistoriesAreLegal =
    (start : Start) (logs : ℕ → List HostStep) → AreOfCluster start logs
    → IsLegal (rows_of start.rows) (history (hosts start) logs)

-- and a replica that has no record of a key has the row that the history leaves
abbrev pub RowsFollowHistories : Type 0
RowsFollowHistories =
    (start : Start) (logs : ℕ → List HostStep) → AreOfCluster start logs → (key : List ℕ) (member : Member)
    → IsReplicaOf start logs key member → (replica_at start logs member key).cell.pending ≡ []
    → (replica_at start logs member key).cell.row
    ≡ map.get (fold (rows_of start.rows) (history (hosts start) logs)) key

-- so at rest each live replica has the row that the history leaves
abbrev pub RestingRowsFollow : Type 0
RestingRowsFollow =
    (start : Start) (logs : ℕ → List HostStep) → AreOfCluster start logs → (key : List ℕ) → IsAtRest start logs key
    → (member : Member) → IsLiveReplica start logs key member
    → row_in start logs member.node key ≡ map.get (fold (rows_of start.rows) (history (hosts start) logs)) key

-- whoever is reported committed took effect, in the epoch that is reported
abbrev pub CommitsTakeEffect : Type 0
CommitsTakeEffect =
    (start : Start) (logs : ℕ → List HostStep) → AreOfCluster start logs → (tx : TxId) (epoch : ℕ)
    → IsMarked (Reported tx (Committed epoch)) (logs 0) → HasEntry tx epoch (history (hosts start) logs)

-- whoever is reported aborted didn't
abbrev pub AbortsTakeNone : Type 0
AbortsTakeNone =
    (start : Start) (logs : ℕ → List HostStep) → AreOfCluster start logs → (tx : TxId) (cause : AbortCause)
    → IsMarked (Reported tx (Aborted cause)) (logs 0)
    → Each (λ (entry : Entry). same_tx entry.tx tx ≡ false) (history (hosts start) logs)

-- no operation of the transaction on the key is unanswered by its coordinator
abbrev pub IsAnsweredOn : Start → (ℕ → List HostStep) → TxId → List ℕ → Type 0
IsAnsweredOn start logs tx key =
    (t : Transaction) → own_live start logs tx ≡ Some t → (asked : Asked) → t.asked ≡ Some asked
    → same_key (key_of asked.op) key ≡ false

-- Nodes that have records of a transaction on a key have the same image of it, unless an operation of it on that key is
-- unanswered, or it never takes effect in any later cut.
abbrev pub RecordsAgree : Type 0
RecordsAgree =
    (start : Start) (small large : ℕ → List HostStep) → AreOfCluster start small → AreOfCluster start large
    → IsCut small large → (tx : TxId) (key : List ℕ) → IsAnsweredOn start small tx key → (entry : Entry)
    → IsIn entry (history (hosts start) large) → entry.tx ≡ tx
    → (one other : Member) → IsIn one (made start) → IsIn other (made start) → (r q : PendingRecord)
    → record_at start small one key tx ≡ Some r → record_at start small other key tx ≡ Some q → r.image ≡ q.image

-- who isn't lost agrees at each moment
abbrev pub RecordsAgreeAlways : Type 0
RecordsAgreeAlways =
    (start : Start) (all : ℕ → List HostStep) (es : List HostStep) → IsMoment start all es → (tx : TxId) (key : List ℕ)
    → is_lost start (logs_of start es) tx ≡ false → IsAnsweredOn start (logs_of start es) tx key
    → (one other : Member) → IsIn one (made start) → IsIn other (made start) → (r q : PendingRecord)
    → record_at start (logs_of start es) one key tx ≡ Some r → record_at start (logs_of start es) other key tx ≡ Some q
    → r.image ≡ q.image
