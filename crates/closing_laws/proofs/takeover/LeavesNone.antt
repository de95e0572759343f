-- Once a takeover is over it leaves nobody, if whoever commits then is done.
use Rattle.std.proofs.Common.{◌≡◌, ℕ, List}
use Rattle.run_theory.specs.Lists.{IsIn}
use Rattle.sig_core.specs.declared.member.Member.{Member}
use Rattle.sig_core.specs.declared.member.TxId.{TxId}
use Rattle.world_core.specs.Start.{Start, made}
use Rattle.world_core.specs.Steps.{HostStep}
use Rattle.moment_laws.specs.Moments.{IsMoment, current, logs_of}
use Rattle.request_laws.specs.Orphans.{IsOrphan}
use Rattle.commit_laws.specs.Commits.{IsDone}
use Rattle.commit_laws.specs.Fates.{commits, fate}
use Rattle.closing_laws.specs.Closed.{IsOver}
use Rattle.closing_laws.specs.Over.{OverLeavesNone}
use Rattle.closing_laws.proofs.takeover.RowsStand.{over_stands}

-- whoever commits and has no coordinator in the current view is done
abbrev pub OverIsDone : Type 0
OverIsDone =
    (start : Start) (all : ℕ → List HostStep) (es : List HostStep) → IsMoment start all es → (member : Member)
    → IsIn member (made start) → IsOver start (logs_of start es) member → (tx : TxId)
    → IsOrphan (current start (logs_of start es)) tx → fate start (logs_of start es) tx ≡ commits
    → IsDone start (logs_of start es) tx

pub over_leaves_none : OverIsDone → OverLeavesNone
over_leaves_none done_so start all es moment member there over = record {
  done = λ tx orphan commits_so. done_so start all es moment member there over tx orphan commits_so;
  stand = λ one full. over_stands start all es moment member there over one full;
}
