-- What is so of decisions and outcomes in all right logs.
use Rattle.std.specs.Prelude.{◌≡◌, ◌≤◌, ◌+◌, ℕ, false, List, [], ◌∷◌}
use Rattle.std.specs.List.{count_by}
use Rattle.run_theory.specs.Lists.{Each, IsIn}
use Rattle.sig_core.specs.declared.entry.Entry.{Entry}
use Rattle.sig_core.specs.declared.mark.Mark.TheVariants.{Reported}
use Rattle.sig_core.specs.declared.member.TxId.{TxId}
use Rattle.sig_core.specs.declared.outcome.AbortCause.TheVariants as cause
use Rattle.sig_core.specs.declared.outcome.Outcome.TheVariants as outcome
use Rattle.sig_core.specs.Same.{same_tx}
use Rattle.world_core.specs.Entries.{entries}
use Rattle.world_core.specs.History.{history}
use Rattle.world_core.specs.Hosts.{hosts}
use Rattle.world_core.specs.Start.{Start}
use Rattle.world_core.specs.Steps.{HostStep}
use Rattle.world_views.specs.Strict.{IsStrictOrder}
use Rattle.view_laws.specs.Runs.{AreOfCluster}
use Rattle.outcome_laws.specs.Counts.{is_report}
use Rattle.outcome_laws.specs.Decided.{IsMarked}

-- no transaction has two entries
abbrev pub AreOnce : List Entry → Type 0
AreOnce [] = Unit {0}
AreOnce (a ∷ rest) = Each (λ (b : Entry). same_tx b.tx a.tx ≡ false) rest × AreOnce rest

-- a transaction is decided once at most
abbrev pub TransactionsAreDecidedOnce : Type 0
TransactionsAreDecidedOnce =
    (start : Start) (logs : ℕ → List HostStep) → AreOfCluster start logs → AreOnce (entries (hosts start) logs)

-- how often the steps of a log report an outcome of the transaction
abbrev pub reports_in : TxId → List HostStep → ℕ
reports_in tx [] = 0
reports_in tx (e ∷ log) = count_by (is_report tx) e.step.marks + reports_in tx log

-- it is reported once at most
abbrev pub TransactionsAreReportedOnce : Type 0
TransactionsAreReportedOnce =
    (start : Start) (logs : ℕ → List HostStep) → AreOfCluster start logs → (tx : TxId) → reports_in tx (logs 0) ≤ 1

-- a transaction has an entry, in this epoch
pub record HasEntry (tx : TxId) (epoch : ℕ) (list : List Entry) : Type 0 where
  pub entry : Entry
  pub there : IsIn entry list
  pub tx_is : entry.tx ≡ tx
  pub epoch_is : entry.epoch ≡ epoch

-- whoever is reported committed was decided, in the epoch that is reported
abbrev pub CommitsWereDecided : Type 0
CommitsWereDecided =
    (start : Start) (logs : ℕ → List HostStep) → AreOfCluster start logs → (tx : TxId) (epoch : ℕ)
    → IsMarked (Reported tx (outcome.Committed epoch)) (logs 0)
    → HasEntry tx epoch (entries (hosts start) logs)

-- whoever is reported aborted since the cluster is down was never decided
abbrev pub NoneThatWasDownWasDecided : Type 0
NoneThatWasDownWasDecided =
    (start : Start) (logs : ℕ → List HostStep) → AreOfCluster start logs → (tx : TxId)
    → IsMarked (Reported tx (outcome.Aborted cause.Down)) (logs 0)
    → Each (λ (a : Entry). same_tx a.tx tx ≡ false) (entries (hosts start) logs)

-- what was reported before another was asked for was decided before it
abbrev pub DecisionsKeepStrictOrder : Type 0
DecisionsKeepStrictOrder =
    (start : Start) (logs : ℕ → List HostStep) → AreOfCluster start logs
    → IsStrictOrder start (logs 0) (entries (hosts start) logs)

-- and stands before it in the history
abbrev pub HistoriesKeepStrictOrder : Type 0
HistoriesKeepStrictOrder =
    (start : Start) (logs : ℕ → List HostStep) → AreOfCluster start logs
    → IsStrictOrder start (logs 0) (history (hosts start) logs)
