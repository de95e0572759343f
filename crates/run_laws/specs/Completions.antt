-- A row is completed behind its commit at each replica.
use Rattle.std.specs.Prelude.{◌≡◌, ℕ, true, List, Some}
use Rattle.world_core.specs.Steps.{HostStep}
use Rattle.sig_core.specs.declared.member.Member.{Member}
use Rattle.sig_core.specs.declared.member.TxId.{TxId}
use Rattle.sig_core.specs.declared.rows.PendingRecord.{PendingRecord}
use Rattle.sig_core.specs.declared.signal.Body.TheVariants.{Chain}
use Rattle.sig_core.specs.declared.signal.chain.ChainSignal.TheVariants.{Complete}
use Rattle.world_core.specs.History.{is_applied}
use Rattle.world_core.specs.Marks.{has_mark}
use Rattle.world_core.specs.Start.{Start}
use Rattle.key_laws.specs.Primary.{HasPrepared}
use Rattle.key_laws.specs.Records.{found}
use Rattle.run_laws.specs.Circle.{at_host}
use Rattle.run_laws.specs.Routes.{primary_host}
use Rattle.run_laws.specs.Transit.{Comes, logs_of}

-- no replica has a record of the transaction on the key prepared, and where one has a record the primary was marked to
-- have
-- applied it
pub record IsCommittedAtAll (start : Start) (logs : ℕ → List HostStep) (tx : TxId) (key : List ℕ) : Type 0 where
  pub committed : (h : ℕ) → HasPrepared tx (at_host start logs key h).cell.pending → ⊥
  pub applied : (h : ℕ) (r : PendingRecord) → found tx (at_host start logs key h).cell.pending ≡ Some r
      → has_mark (is_applied tx) (logs (primary_host start key)) ≡ true

abbrev pub CompletionsFollowCommits : Type 0
CompletionsFollowCommits =
    (start : Start) (es : List HostStep) (e : HostStep) (tx : TxId) (key : List ℕ) (chain : List Member) (at : ℕ)
    → Comes start es e
    → e.step.taken.body ≡ Chain (Complete tx key chain at)
    → IsCommittedAtAll start (logs_of start es) tx key
