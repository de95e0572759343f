-- What is read of these is what is written.
use Rattle.std.proofs.Common.{refl}
use Rattle.sig_core.specs.declared.signal.Body.TheVariants.{Host}
use Rattle.sig_core.specs.declared.signal.host.HostSignal.TheVariants.{Round, Kill, Cut, Closed, Continue}
use Rattle.trace_bytes.specs.HostSignals.{host_signal_bytes, host_signal_of}
use Rattle.trace_bytes.specs.Bodies.{IsBody, body_bytes}
use Rattle.trace_bytes.proofs.Taken.{TakesKind, last_kind, or_kind, or_plain, takes_both}
use Rattle.trace_bytes.proofs.CausesTaken.{takes_stop}
use Rattle.trace_bytes.proofs.WordsTaken.{takes_host, takes_u32, takes_u64, takes_u8}
use Rattle.trace_bytes.proofs.WorksTaken.{takes_work}

pub host_signal_taken : TakesKind IsBody body_bytes host_signal_of 0 4
unfolding host_signal_bytes host_signal_of
host_signal_taken =
    or_plain IsBody body_bytes 0 (Host Round) tt refl
    (or_kind IsBody body_bytes 1 (λ x. Host (Kill x)) takes_u32 (λ x fits. fits) (λ x fits. refl)
    (or_kind IsBody body_bytes 2 (λ x. Host (Cut x.0 x.1)) (takes_both takes_u8 takes_host) (λ x fits. (fits.0, fits.1))
    (λ x fits. refl)
    (or_kind IsBody body_bytes 3 (λ x. Host (Closed x)) takes_stop (λ x fits. fits) (λ x fits. refl)
    (last_kind IsBody body_bytes 4 (λ x. Host (Continue x.0 x.1)) (takes_both takes_work takes_u64)
    (λ x fits. (fits.0, fits.1)) (λ x fits. refl)))))
