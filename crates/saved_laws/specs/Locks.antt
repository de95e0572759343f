-- A member's rows keep locks.
use Rattle.std.specs.Prelude.{ℕ, List}
use Rattle.run_theory.specs.Lists.{IsIn}
use Rattle.sig_core.specs.declared.member.Member.{Member}
use Rattle.local_ckpt.specs.Events.{Event}
use Rattle.local_ckpt.specs.Locking.{AreLocked}
use Rattle.world_core.specs.Start.{Start, made}
use Rattle.world_core.specs.Steps.{HostStep}
use Rattle.moment_laws.specs.Moments.{IsMoment, logs_of}
use Rattle.moment_laws.specs.Places.{ldm_of}
use Rattle.journal_laws.specs.Checkpoints.{HaveKeptLocks}
use Rattle.journal_laws.specs.Events.{AreUpTo}
use Rattle.journal_laws.specs.Journal.{HasRecords, first_rows, lqh_after}

-- No two transactions have prepared images of one key in a member's rows.
abbrev pub PreparedStandAlone : Type 0
PreparedStandAlone =
    (start : Start) (all : ℕ → List HostStep) (es : List HostStep) → IsMoment start all es → (member : Member)
    → IsIn member (made start) → AreLocked (lqh_after start member (logs_of start es (ldm_of start member))).rows

-- Of all events of a member's rows, from the first rows on: who prepares an image of a key is alone there, and the
-- image can be read. They commit nothing later than an epoch, where the log doesn't.
abbrev pub MembersKeepLocks : Type 0
MembersKeepLocks =
    (start : Start) (all : ℕ → List HostStep) (es : List HostStep) → IsMoment start all es → (member : Member)
    → IsIn member (made start) → (events : List Event)
    → HasRecords start member (logs_of start es (ldm_of start member)) events → (most : ℕ) → AreUpTo most events
    → HaveKeptLocks most (first_rows start member) events
