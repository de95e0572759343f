-- What is read of these is what is written.
use Rattle.std.proofs.Common.{refl}
use Rattle.sig_core.specs.declared.request.BatchLine.TheVariants.{Begin, Operate, Kill, Gcp, Lcp, Micro, Unique}
use Rattle.trace_bytes.specs.Lines.{IsLine, line_at, line_bytes, line_of_1, line_of_2}
use Rattle.trace_bytes.proofs.Taken.{Takes, TakesKind, last_kind, last_plain, or_kind, or_plain, split_kind, takes_both}
use Rattle.trace_bytes.proofs.Taken.{takes_known}
use Rattle.trace_bytes.proofs.OperationsTaken.{takes_op}
use Rattle.trace_bytes.proofs.WordsTaken.{takes_opt_u8, takes_u16, takes_u32, takes_u8}

line_1_taken : TakesKind IsLine line_bytes line_of_1 0 5
unfolding line_bytes line_of_1
line_1_taken =
    or_kind IsLine line_bytes 0 (λ x. Begin x.0 x.1) (takes_both takes_u16 takes_opt_u8) (λ x fits. (fits.0, fits.1))
    (λ x fits. refl)
    (or_kind IsLine line_bytes 1 (λ x. Operate x.0 x.1) (takes_both takes_u16 takes_op) (λ x fits. (fits.0, fits.1))
    (λ x fits. refl)
    (or_kind IsLine line_bytes 2 (λ x. Kill x.0 x.1) (takes_both takes_u8 takes_u32) (λ x fits. (fits.0, fits.1))
    (λ x fits. refl)
    (or_plain IsLine line_bytes 3 Gcp tt refl
    (or_plain IsLine line_bytes 4 Lcp tt refl
    (last_plain IsLine line_bytes 5 Micro tt refl)))))

line_2_taken : TakesKind IsLine line_bytes line_of_2 6 6
unfolding line_bytes line_of_2
line_2_taken =
    last_kind IsLine line_bytes 6 (λ x. Unique x.0 x.1) (takes_both takes_u16 takes_op) (λ x fits. (fits.0, fits.1))
    (λ x fits. refl)

pub takes_line : Takes IsLine line_bytes line_at
unfolding line_at
takes_line = takes_known (split_kind 6 line_1_taken line_2_taken)
