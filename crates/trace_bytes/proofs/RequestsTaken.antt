-- What is read of these is what is written.
use Rattle.std.proofs.Common.{refl}
use Rattle.sig_core.specs.declared.request.ApiReq.TheVariants.{Begin, Operate, Commit, Abort, Batch, Kill, Cut, Tick}
use Rattle.sig_core.specs.declared.request.ApiReq.TheVariants.{Gcp, Lcp, Start, Crash, Restart, Rows, Digest, View}
use Rattle.sig_core.specs.declared.request.ApiReq.TheVariants.{Waits, Pending, Micro, Subscribe, Unsubscribe, Backup}
use Rattle.sig_core.specs.declared.request.ApiReq.TheVariants.{Dump, Unique}
use Rattle.trace_bytes.specs.Requests.{IsRequest, request_at, request_bytes, request_of_1, request_of_2, request_of_3}
use Rattle.trace_bytes.specs.Requests.{request_of_4}
use Rattle.trace_bytes.proofs.Taken.{Takes, TakesKind, last_kind, last_plain, or_kind, or_plain, split_kind, takes_both}
use Rattle.trace_bytes.proofs.Taken.{takes_known}
use Rattle.trace_bytes.proofs.LinesTaken.{takes_line}
use Rattle.trace_bytes.proofs.ListsTaken.{takes_list}
use Rattle.trace_bytes.proofs.OperationsTaken.{takes_op}
use Rattle.trace_bytes.proofs.WordsTaken.{takes_name, takes_opt_u64, takes_opt_u8, takes_u16, takes_u32, takes_u8}

request_1_taken : TakesKind IsRequest request_bytes request_of_1 0 5
unfolding request_bytes request_of_1
request_1_taken =
    or_kind IsRequest request_bytes 0 (λ x. Begin x.0 x.1) (takes_both takes_u16 takes_opt_u8)
    (λ x fits. (fits.0, fits.1)) (λ x fits. refl)
    (or_kind IsRequest request_bytes 1 (λ x. Operate x.0 x.1) (takes_both takes_name takes_op)
    (λ x fits. (fits.0, fits.1)) (λ x fits. refl)
    (or_kind IsRequest request_bytes 2 (λ x. Commit x) takes_u16 (λ x fits. fits) (λ x fits. refl)
    (or_kind IsRequest request_bytes 3 (λ x. Abort x) takes_u16 (λ x fits. fits) (λ x fits. refl)
    (or_kind IsRequest request_bytes 4 (λ x. Batch x) (takes_list takes_line) (λ x fits. fits) (λ x fits. refl)
    (last_kind IsRequest request_bytes 5 (λ x. Kill x) takes_u8 (λ x fits. fits) (λ x fits. refl))))))

request_2_taken : TakesKind IsRequest request_bytes request_of_2 6 11
unfolding request_bytes request_of_2
request_2_taken =
    or_kind IsRequest request_bytes 6 (λ x. Cut x.0 x.1) (takes_both takes_u8 takes_u8) (λ x fits. (fits.0, fits.1))
    (λ x fits. refl)
    (or_kind IsRequest request_bytes 7 (λ x. Tick x.0 x.1) (takes_both takes_u8 takes_u8) (λ x fits. (fits.0, fits.1))
    (λ x fits. refl)
    (or_plain IsRequest request_bytes 8 Gcp tt refl
    (or_plain IsRequest request_bytes 9 Lcp tt refl
    (or_kind IsRequest request_bytes 10 (λ x. Start x.0 x.1) (takes_both takes_u8 takes_opt_u64)
    (λ x fits. (fits.0, fits.1)) (λ x fits. refl)
    (last_plain IsRequest request_bytes 11 Crash tt refl)))))

request_3_taken : TakesKind IsRequest request_bytes request_of_3 12 17
unfolding request_bytes request_of_3
request_3_taken =
    or_plain IsRequest request_bytes 12 Restart tt refl
    (or_kind IsRequest request_bytes 13 (λ x. Rows x) takes_u8 (λ x fits. fits) (λ x fits. refl)
    (or_kind IsRequest request_bytes 14 (λ x. Digest x) takes_u8 (λ x fits. fits) (λ x fits. refl)
    (or_plain IsRequest request_bytes 15 View tt refl
    (or_plain IsRequest request_bytes 16 Waits tt refl
    (last_plain IsRequest request_bytes 17 Pending tt refl)))))

request_4_taken : TakesKind IsRequest request_bytes request_of_4 18 23
unfolding request_bytes request_of_4
request_4_taken =
    or_plain IsRequest request_bytes 18 Micro tt refl
    (or_kind IsRequest request_bytes 19 (λ x. Subscribe x) takes_u16 (λ x fits. fits) (λ x fits. refl)
    (or_kind IsRequest request_bytes 20 (λ x. Unsubscribe x) takes_u16 (λ x fits. fits) (λ x fits. refl)
    (or_kind IsRequest request_bytes 21 (λ x. Backup x) takes_u32 (λ x fits. fits) (λ x fits. refl)
    (or_kind IsRequest request_bytes 22 (λ x. Dump x) takes_u32 (λ x fits. fits) (λ x fits. refl)
    (last_kind IsRequest request_bytes 23 (λ x. Unique x.0 x.1) (takes_both takes_name takes_op)
    (λ x fits. (fits.0, fits.1)) (λ x fits. refl))))))

pub takes_request : Takes IsRequest request_bytes request_at
unfolding request_at
takes_request = takes_known (split_kind 6 request_1_taken (split_kind 12 request_2_taken
    (split_kind 18 request_3_taken request_4_taken)))
