-- Rows are committed of transactions that the nodes of their coordinators have decided.
use Rattle.std.specs.Prelude.{◌≡◌, ℕ, true, List}
use Rattle.world_core.specs.Steps.{HostStep}
use Rattle.sig_core.specs.declared.member.Member.{Member}
use Rattle.sig_core.specs.declared.member.TxId.{TxId}
use Rattle.sig_core.specs.declared.signal.Body.TheVariants.{Chain}
use Rattle.sig_core.specs.declared.signal.chain.ChainSignal.TheVariants.{Commit}
use Rattle.world_core.specs.Start.{Start}
use Rattle.run_laws.specs.Owed.{is_decided}
use Rattle.run_laws.specs.Transit.{Comes, logs_of}

-- where a commit comes, the transaction was decided at the node of its coordinator
abbrev pub CommitsAreDecided : Type 0
CommitsAreDecided =
    (start : Start) (es : List HostStep) (e : HostStep) (tx : TxId) (key : List ℕ) (epoch : ℕ) (chain : List Member)
    (at : ℕ) → Comes start es e
    → e.step.taken.body ≡ Chain (Commit tx key epoch chain at)
    → is_decided start (logs_of start es) tx ≡ true
