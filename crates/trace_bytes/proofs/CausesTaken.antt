-- What is read of these is what is written.
use Rattle.std.proofs.Common.{refl}
use Rattle.sig_core.specs.declared.outcome.AbortCause.TheVariants.{Request, Timeout, NodeFail, LogFull, TableFull, Down}
use Rattle.sig_core.specs.declared.outcome.StopCause.TheVariants.{Killed, Excluded, NoGroup, Disk, Memory, Clock}
use Rattle.sig_core.specs.declared.outcome.StopCause.TheVariants.{Sibling}
use Rattle.sig_core.specs.declared.outcome.Outcome.TheVariants.{Committed, Aborted, Unknown}
use Rattle.trace_bytes.specs.Causes.{IsCause, IsOutcome, IsStop, cause_at, cause_bytes, cause_of, outcome_at}
use Rattle.trace_bytes.specs.Causes.{outcome_bytes, outcome_of, stop_at, stop_bytes, stop_of_1, stop_of_2}
use Rattle.trace_bytes.proofs.Taken.{Takes, TakesKind, last_kind, last_plain, or_kind, or_plain, split_kind, takes_both}
use Rattle.trace_bytes.proofs.Taken.{takes_known}
use Rattle.trace_bytes.proofs.WordsTaken.{takes_host, takes_u64, takes_u8}

cause_taken : TakesKind IsCause cause_bytes cause_of 0 5
unfolding cause_bytes cause_of
cause_taken =
    or_plain IsCause cause_bytes 0 Request tt refl
    (or_plain IsCause cause_bytes 1 Timeout tt refl
    (or_kind IsCause cause_bytes 2 (λ x. NodeFail x) takes_u64 (λ x fits. fits) (λ x fits. refl)
    (or_kind IsCause cause_bytes 3 (λ x. LogFull x.0 x.1.0 x.1.1)
    (takes_both takes_u64 (takes_both takes_u64 takes_u64)) (λ x fits. (fits.0, fits.1.0, fits.1.1))
    (λ x fits. refl)
    (or_kind IsCause cause_bytes 4 (λ x. TableFull x) takes_u64 (λ x fits. fits) (λ x fits. refl)
    (last_plain IsCause cause_bytes 5 Down tt refl)))))

pub takes_cause : Takes IsCause cause_bytes cause_at
unfolding cause_at
takes_cause = takes_known cause_taken

stop_1_taken : TakesKind IsStop stop_bytes stop_of_1 0 5
unfolding stop_bytes stop_of_1
stop_1_taken =
    or_plain IsStop stop_bytes 0 Killed tt refl
    (or_kind IsStop stop_bytes 1 (λ x. Excluded x) takes_u64 (λ x fits. fits) (λ x fits. refl)
    (or_kind IsStop stop_bytes 2 (λ x. NoGroup x) takes_u8 (λ x fits. fits) (λ x fits. refl)
    (or_kind IsStop stop_bytes 3 (λ x. Disk x) takes_u64 (λ x fits. fits) (λ x fits. refl)
    (or_plain IsStop stop_bytes 4 Memory tt refl
    (last_plain IsStop stop_bytes 5 Clock tt refl)))))

stop_2_taken : TakesKind IsStop stop_bytes stop_of_2 6 6
unfolding stop_bytes stop_of_2
stop_2_taken =
    last_kind IsStop stop_bytes 6 (λ x. Sibling x) takes_host (λ x fits. fits) (λ x fits. refl)

pub takes_stop : Takes IsStop stop_bytes stop_at
unfolding stop_at
takes_stop = takes_known (split_kind 6 stop_1_taken stop_2_taken)

outcome_taken : TakesKind IsOutcome outcome_bytes outcome_of 0 2
unfolding outcome_bytes outcome_of
outcome_taken =
    or_kind IsOutcome outcome_bytes 0 (λ x. Committed x) takes_u64 (λ x fits. fits) (λ x fits. refl)
    (or_kind IsOutcome outcome_bytes 1 (λ x. Aborted x) takes_cause (λ x fits. fits) (λ x fits. refl)
    (last_plain IsOutcome outcome_bytes 2 Unknown tt refl))

pub takes_outcome : Takes IsOutcome outcome_bytes outcome_at
unfolding outcome_at
takes_outcome = takes_known outcome_taken
