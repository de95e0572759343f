-- What is reported of a transaction, and what takes effect.
use Rattle.std.specs.Prelude.{◌≡◌, ℕ, List}
use Rattle.sig_core.specs.declared.member.TxId.{TxId}
use Rattle.world_core.specs.Start.{Start}
use Rattle.world_core.specs.Steps.{HostStep}
use Rattle.moment_laws.specs.Moments.{IsMoment, logs_of}
use Rattle.commit_laws.specs.Fates.{commits, fate}
use Rattle.commit_laws.specs.Traces.{IsApplied}

-- whoever was applied somewhere commits
abbrev pub AppliedCommit : Type 0
AppliedCommit =
    (start : Start) (all : ℕ → List HostStep) (es : List HostStep) → IsMoment start all es
    → (tx : TxId) (key : List ℕ) → IsApplied start (logs_of start es) tx key
    → fate start (logs_of start es) tx ≡ commits
