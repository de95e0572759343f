-- What is read of these is what is written.
use Rattle.std.proofs.Common.{refl}
use Rattle.sig_core.specs.declared.signal.host.Work.TheVariants.{Request, Transaction, Installation, Held, Granted}
use Rattle.sig_core.specs.declared.signal.host.Work.TheVariants.{Expired, Report, Members, Flush, Walk, Changes}
use Rattle.trace_bytes.specs.Works.{IsWork, work_at, work_bytes, work_of_1, work_of_2}
use Rattle.trace_bytes.proofs.Taken.{Takes, TakesKind, last_kind, last_plain, or_kind, or_plain, split_kind}
use Rattle.trace_bytes.proofs.Taken.{takes_known}
use Rattle.trace_bytes.proofs.RequestsTaken.{takes_request}
use Rattle.trace_bytes.proofs.WordsTaken.{takes_tx, takes_u64}

work_1_taken : TakesKind IsWork work_bytes work_of_1 0 5
unfolding work_bytes work_of_1
work_1_taken =
    or_kind IsWork work_bytes 0 (λ x. Request x) takes_request (λ x fits. fits) (λ x fits. refl)
    (or_kind IsWork work_bytes 1 (λ x. Transaction x) takes_tx (λ x fits. fits) (λ x fits. refl)
    (or_plain IsWork work_bytes 2 Installation tt refl
    (or_plain IsWork work_bytes 3 Held tt refl
    (or_plain IsWork work_bytes 4 Granted tt refl
    (last_plain IsWork work_bytes 5 Expired tt refl)))))

work_2_taken : TakesKind IsWork work_bytes work_of_2 6 10
unfolding work_bytes work_of_2
work_2_taken =
    or_plain IsWork work_bytes 6 Report tt refl
    (or_plain IsWork work_bytes 7 Members tt refl
    (or_plain IsWork work_bytes 8 Flush tt refl
    (or_plain IsWork work_bytes 9 Walk tt refl
    (last_kind IsWork work_bytes 10 (λ x. Changes x) takes_u64 (λ x fits. fits) (λ x fits. refl)))))

pub takes_work : Takes IsWork work_bytes work_at
unfolding work_at
takes_work = takes_known (split_kind 6 work_1_taken work_2_taken)
