-- What is so where a takeover is over.
use Rattle.std.specs.Prelude.{◌≡◌, ℕ, List}
use Rattle.run_theory.specs.Lists.{IsIn}
use Rattle.sig_core.specs.declared.member.Member.{Member}
use Rattle.sig_core.specs.declared.member.TxId.{TxId}
use Rattle.world_core.specs.Start.{Start, made}
use Rattle.world_core.specs.Steps.{HostStep}
use Rattle.view_laws.specs.Runs.{view_after}
use Rattle.moment_laws.specs.Moments.{IsMoment, current, logs_of}
use Rattle.moment_laws.specs.Places.{ldm_of}
use Rattle.request_laws.specs.Orphans.{IsOrphan}
use Rattle.commit_laws.specs.Commits.{IsDone}
use Rattle.commit_laws.specs.Fates.{commits, fate}
use Rattle.closing_laws.specs.Closed.{IsOver}

module _ (start : Start) (logs : ℕ → List HostStep) where
  pub record LeavesNone : Type 0 where
    -- whoever commits and has no coordinator in the current view is done
    pub done : (tx : TxId) → IsOrphan (current start logs) tx → fate start logs tx ≡ commits → IsDone start logs tx
    -- the rows of each full member stand in the current view
    pub stand : (member : Member) → IsIn member (current start logs).full
        → view_after start (ldm_of start member) (logs (ldm_of start member)) ≡ current start logs

-- so it is once a takeover of the current view is over
abbrev pub OverLeavesNone : Type 0
OverLeavesNone =
    (start : Start) (all : ℕ → List HostStep) (es : List HostStep) → IsMoment start all es → (member : Member)
    → IsIn member (made start) → IsOver start (logs_of start es) member → LeavesNone start (logs_of start es)
