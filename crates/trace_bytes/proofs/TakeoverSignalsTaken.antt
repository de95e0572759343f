-- What is read of these is what is written.
use Rattle.std.proofs.Common.{refl}
use Rattle.sig_core.specs.declared.signal.Body.TheVariants.{Takeover}
use Rattle.sig_core.specs.declared.signal.takeover.TakeoverSignal.TheVariants.{TakeoverOrd, LqhTransReq, LqhTransConf}
use Rattle.sig_core.specs.declared.signal.takeover.TakeoverSignal.TheVariants.{LqhTransEnd, TakeoverEnd}
use Rattle.trace_bytes.specs.TakeoverSignals.{takeover_of, takeover_signal_bytes}
use Rattle.trace_bytes.specs.Bodies.{IsBody, body_bytes}
use Rattle.trace_bytes.proofs.Taken.{TakesKind, last_plain, or_kind, or_plain, takes_both}
use Rattle.trace_bytes.proofs.PlacesTaken.{takes_state}
use Rattle.trace_bytes.proofs.WordsTaken.{takes_key, takes_tx, takes_u64}

pub takeover_taken : TakesKind IsBody body_bytes takeover_of 46 50
unfolding takeover_signal_bytes takeover_of
takeover_taken =
    or_plain IsBody body_bytes 46 (Takeover TakeoverOrd) tt refl
    (or_plain IsBody body_bytes 47 (Takeover LqhTransReq) tt refl
    (or_kind IsBody body_bytes 48 (λ x. Takeover (LqhTransConf x.0 x.1.0 x.1.1.0 x.1.1.1))
    (takes_both takes_tx (takes_both takes_key (takes_both takes_state takes_u64)))
    (λ x fits. (fits.0, fits.1.0, fits.1.1.0, fits.1.1.1)) (λ x fits. refl)
    (or_plain IsBody body_bytes 49 (Takeover LqhTransEnd) tt refl
    (last_plain IsBody body_bytes 50 (Takeover TakeoverEnd) tt refl))))
