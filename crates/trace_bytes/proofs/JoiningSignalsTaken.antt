-- What is read of these is what is written.
use Rattle.std.proofs.Common.{refl}
use Rattle.sig_core.specs.declared.signal.Body.TheVariants.{Joining}
use Rattle.sig_core.specs.declared.signal.joining.JoiningSignal.TheVariants.{StartReq, StartRep, StartEnd, CopyOrd}
use Rattle.sig_core.specs.declared.signal.joining.JoiningSignal.TheVariants.{DrainReq, DrainConf, DrainWait}
use Rattle.sig_core.specs.declared.signal.joining.JoiningSignal.TheVariants.{CopySaveReq, CopySaveConf, CopySaved}
use Rattle.sig_core.specs.declared.signal.joining.JoiningSignal.TheVariants.{PromoteReq, StartGone}
use Rattle.trace_bytes.specs.JoiningSignals.{draining_of, joined_of, joining_signal_bytes, starting_of}
use Rattle.trace_bytes.specs.Bodies.{IsBody, body_bytes}
use Rattle.trace_bytes.proofs.Taken.{TakesKind, last_kind, or_kind, or_plain, takes_both}
use Rattle.trace_bytes.proofs.WordsTaken.{takes_member, takes_opt_u64, takes_tx}

pub starting_taken : TakesKind IsBody body_bytes starting_of 77 80
unfolding joining_signal_bytes starting_of
starting_taken =
    or_kind IsBody body_bytes 77 (λ x. Joining (StartReq x.0 x.1)) (takes_both takes_member takes_opt_u64)
    (λ x fits. (fits.0, fits.1)) (λ x fits. refl)
    (or_kind IsBody body_bytes 78 (λ x. Joining (StartRep x)) takes_member (λ x fits. fits) (λ x fits. refl)
    (or_kind IsBody body_bytes 79 (λ x. Joining (StartEnd x)) takes_member (λ x fits. fits) (λ x fits. refl)
    (last_kind IsBody body_bytes 80 (λ x. Joining (CopyOrd x.0 x.1)) (takes_both takes_member takes_opt_u64)
    (λ x fits. (fits.0, fits.1)) (λ x fits. refl))))

pub draining_taken : TakesKind IsBody body_bytes draining_of 88 90
unfolding joining_signal_bytes draining_of
draining_taken =
    or_plain IsBody body_bytes 88 (Joining DrainReq) tt refl
    (or_plain IsBody body_bytes 89 (Joining DrainConf) tt refl
    (last_kind IsBody body_bytes 90 (λ x. Joining (DrainWait x)) takes_tx (λ x fits. fits) (λ x fits. refl)))

pub joined_taken : TakesKind IsBody body_bytes joined_of 91 95
unfolding joining_signal_bytes joined_of
joined_taken =
    or_plain IsBody body_bytes 91 (Joining CopySaveReq) tt refl
    (or_plain IsBody body_bytes 92 (Joining CopySaveConf) tt refl
    (or_plain IsBody body_bytes 93 (Joining CopySaved) tt refl
    (or_kind IsBody body_bytes 94 (λ x. Joining (PromoteReq x)) takes_member (λ x fits. fits) (λ x fits. refl)
    (last_kind IsBody body_bytes 95 (λ x. Joining (StartGone x)) takes_member (λ x fits. fits) (λ x fits. refl)))))
