-- What is read of these is what is written.
use Rattle.std.proofs.Common.{refl}
use Rattle.sig_core.specs.declared.mark.Mark.TheVariants.{Prepared, Decided, Applied, Done, Expired, Promised}
use Rattle.sig_core.specs.declared.mark.Mark.TheVariants.{Installed, Reported, Durable, CutOff, Down, Stopped, Closed}
use Rattle.trace_bytes.specs.Marks.{IsMark, mark_at, mark_bytes, mark_of_1, mark_of_2, mark_of_3}
use Rattle.trace_bytes.proofs.Taken.{Takes, TakesKind, last_kind, or_kind, split_kind, takes_both, takes_known}
use Rattle.trace_bytes.proofs.CausesTaken.{takes_outcome, takes_stop}
use Rattle.trace_bytes.proofs.WordsTaken.{takes_host, takes_key, takes_tx, takes_u64, takes_u8, takes_view}

mark_1_taken : TakesKind IsMark mark_bytes mark_of_1 0 5
unfolding mark_bytes mark_of_1
mark_1_taken =
    or_kind IsMark mark_bytes 0 (λ x. Prepared x.0 x.1) (takes_both takes_tx takes_key) (λ x fits. (fits.0, fits.1))
    (λ x fits. refl)
    (or_kind IsMark mark_bytes 1 (λ x. Decided x.0 x.1) (takes_both takes_tx takes_u64) (λ x fits. (fits.0, fits.1))
    (λ x fits. refl)
    (or_kind IsMark mark_bytes 2 (λ x. Applied x.0 x.1) (takes_both takes_tx takes_key) (λ x fits. (fits.0, fits.1))
    (λ x fits. refl)
    (or_kind IsMark mark_bytes 3 (λ x. Done x.0 x.1) (takes_both takes_tx takes_key) (λ x fits. (fits.0, fits.1))
    (λ x fits. refl)
    (or_kind IsMark mark_bytes 4 (λ x. Expired x.0 x.1) (takes_both takes_tx takes_key) (λ x fits. (fits.0, fits.1))
    (λ x fits. refl)
    (last_kind IsMark mark_bytes 5 (λ x. Promised x) takes_u64 (λ x fits. fits) (λ x fits. refl))))))

mark_2_taken : TakesKind IsMark mark_bytes mark_of_2 6 11
unfolding mark_bytes mark_of_2
mark_2_taken =
    or_kind IsMark mark_bytes 6 (λ x. Installed x) takes_view (λ x fits. fits) (λ x fits. refl)
    (or_kind IsMark mark_bytes 7 (λ x. Reported x.0 x.1) (takes_both takes_tx takes_outcome)
    (λ x fits. (fits.0, fits.1)) (λ x fits. refl)
    (or_kind IsMark mark_bytes 8 (λ x. Durable x) takes_u64 (λ x fits. fits) (λ x fits. refl)
    (or_kind IsMark mark_bytes 9 (λ x. CutOff x) takes_host (λ x fits. fits) (λ x fits. refl)
    (or_kind IsMark mark_bytes 10 (λ x. Down x) takes_u8 (λ x fits. fits) (λ x fits. refl)
    (last_kind IsMark mark_bytes 11 (λ x. Stopped x) takes_stop (λ x fits. fits) (λ x fits. refl))))))

mark_3_taken : TakesKind IsMark mark_bytes mark_of_3 12 12
unfolding mark_bytes mark_of_3
mark_3_taken =
    last_kind IsMark mark_bytes 12 (λ x. Closed x) takes_u64 (λ x fits. fits) (λ x fits. refl)

pub takes_mark : Takes IsMark mark_bytes mark_at
unfolding mark_at
takes_mark = takes_known (split_kind 6 mark_1_taken (split_kind 12 mark_2_taken mark_3_taken))
