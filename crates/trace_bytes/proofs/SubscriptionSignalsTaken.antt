-- What is read of these is what is written.
use Rattle.std.proofs.Common.{refl}
use Rattle.sig_core.specs.declared.signal.Body.TheVariants.{Subscription}
use Rattle.sig_core.specs.declared.signal.subscription.SubscriptionSignal.TheVariants.{SumaChange, SumaClosed, SubData}
use Rattle.sig_core.specs.declared.signal.subscription.SubscriptionSignal.TheVariants.{SubAck, SumaWait, SumaReady}
use Rattle.trace_bytes.specs.SubscriptionSignals.{subscription_of, subscription_signal_bytes}
use Rattle.trace_bytes.specs.Bodies.{IsBody, body_bytes}
use Rattle.trace_bytes.proofs.Taken.{TakesKind, last_kind, or_kind, takes_both}
use Rattle.trace_bytes.proofs.ListsTaken.{takes_list}
use Rattle.trace_bytes.proofs.WordsTaken.{takes_bool, takes_change, takes_u64, takes_u8}

pub subscription_taken : TakesKind IsBody body_bytes subscription_of 103 108
unfolding subscription_signal_bytes subscription_of
subscription_taken =
    or_kind IsBody body_bytes 103 (λ x. Subscription (SumaChange x.0 x.1)) (takes_both takes_u64 takes_change)
    (λ x fits. (fits.0, fits.1)) (λ x fits. refl)
    (or_kind IsBody body_bytes 104 (λ x. Subscription (SumaClosed x)) takes_u64 (λ x fits. fits) (λ x fits. refl)
    (or_kind IsBody body_bytes 105 (λ x. Subscription (SubData x.0 x.1.0 x.1.1.0 x.1.1.1.0 x.1.1.1.1))
    (takes_both takes_u64 (takes_both takes_u8 (takes_both takes_u64
    (takes_both (takes_list takes_change) takes_bool))))
    (λ x fits. (fits.0, fits.1.0, fits.1.1.0, fits.1.1.1.0, fits.1.1.1.1)) (λ x fits. refl)
    (or_kind IsBody body_bytes 106 (λ x. Subscription (SubAck x)) takes_u64 (λ x fits. fits) (λ x fits. refl)
    (or_kind IsBody body_bytes 107 (λ x. Subscription (SumaWait x)) takes_u64 (λ x fits. fits) (λ x fits. refl)
    (last_kind IsBody body_bytes 108 (λ x. Subscription (SumaReady x)) takes_u64 (λ x fits. fits) (λ x fits. refl))))))
