-- A transaction is reported once at most.
use Rattle.std.proofs.Common.{◌≡◌, ◌≤◌, ◌+◌, List, [], ◌∷◌, ap, arith, refl}
use Rattle.std.specs.List.{count_by}
use Rattle.run_theory.specs.Logs.{IsLog}
use Rattle.sig_core.specs.declared.member.TxId.{TxId}
use Rattle.world_core.specs.Start.{Start}
use Rattle.world_core.specs.Steps.{HostStep}
use Rattle.world_views.specs.Hosts.{started}
use Rattle.world_views.specs.Machine.{machine}
use Rattle.outcome_laws.specs.Counts.{count_open, is_begin, is_report}
use Rattle.outcome_laws.specs.Once.{marks_in, takes_in}
use Rattle.outcome_laws.specs.Outcomes.{TransactionsAreReportedOnce, reports_in}
use Rattle.outcome_laws.proofs.once.Begins.{begin_once}
use Rattle.outcome_laws.proofs.once.AlongLogs.{log_light}
use Rattle.outcome_laws.proofs.once.DecidesAndReports.{IsShell, client_light, in_client, of_client, reports_client}
use Rattle.outcome_laws.proofs.once.CoordinatorScale.{no_body}

-- the shell's host begins so, with no transaction open
pub shell_begins : (start : Start) → IsShell (started start 0).parts
unfolding started
shell_begins start = tt

none_open : (tx : TxId) (start : Start) → in_client (count_open tx) (started start 0).parts ≡ 0
unfolding started
none_open tx start = refl

reports_are : (tx : TxId) (log : List HostStep) → reports_in tx log ≡ marks_in (is_report tx) log
reports_are tx [] = refl
reports_are tx (e ∷ log) = ap (λ n. count_by (is_report tx) e.step.marks + n) (reports_are tx log)

-- no more often than the client's side is told that it has begun
pub reports_begun : (tx : TxId) (start : Start) (log : List HostStep) → IsLog (machine start) 0 log
    → reports_in tx log ≤ takes_in (is_begin tx) log
reports_begun tx start log is =
    let light =
    log_light (of_client no_body (is_report tx) (count_open tx) (is_begin tx)) IsShell
    (client_light no_body (is_report tx) (count_open tx) (is_begin tx) (reports_client tx)) start 0
    (shell_begins start) log is in
    omega (arith, light.below, none_open tx start, reports_are tx log)

pub reported_once : TransactionsAreReportedOnce
reported_once start logs are tx =
    omega (arith, reports_begun tx start (logs 0) (are.right.local 0), begin_once tx start logs are 0)
