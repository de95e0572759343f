-- The bytes of signals by which subscribers are told changes.
use Rattle.std.specs.Prelude.{ℕ, ◌==◌, nat_lt, if◌then◌else◌, List, [], ◌∷◌}
use Rattle.sig_core.specs.declared.signal.Body.{Body}
use Rattle.sig_core.specs.declared.signal.subscription.SubscriptionSignal.{SubscriptionSignal}
use Rattle.sig_core.specs.declared.signal.subscription.SubscriptionSignal.TheVariants.{SumaChange, SumaClosed, SubData}
use Rattle.sig_core.specs.declared.signal.subscription.SubscriptionSignal.TheVariants.{SubAck, SumaWait, SumaReady}
use Rattle.sig_core.specs.declared.signal.Body.TheVariants.{Subscription}
use Rattle.redo_format.specs.Reading.{Reader, and_then, told, byte_at}
use Rattle.trace_bytes.specs.declared.kinds.signals.TheConstants as signals
use Rattle.trace_bytes.specs.Lists.{AreItems, list_at, list_bytes, ◌&◌}
use Rattle.trace_bytes.specs.Numbers.{IsU64, IsU8, u64_at, u64_bytes, u8_at, u8_bytes}
use Rattle.trace_bytes.specs.Words.{IsBool, IsChange, always, bool_at, bool_bytes, change_at, change_bytes}

unfoldable pub subscription_signal_bytes : SubscriptionSignal → List ℕ
subscription_signal_bytes (SumaChange epoch change) = signals.SUMA_CHANGE ∷ u64_bytes epoch & change_bytes change
subscription_signal_bytes (SumaClosed epoch) = signals.SUMA_CLOSED ∷ u64_bytes epoch
subscription_signal_bytes (SubData epoch fragment at changes last) = signals.SUB_DATA ∷ u64_bytes epoch & u8_bytes
    fragment & u64_bytes at & list_bytes change_bytes changes & bool_bytes last
subscription_signal_bytes (SubAck epoch) = signals.SUB_ACK ∷ u64_bytes epoch
subscription_signal_bytes (SumaWait epoch) = signals.SUMA_WAIT ∷ u64_bytes epoch
subscription_signal_bytes (SumaReady epoch) = signals.SUMA_READY ∷ u64_bytes epoch

abbrev pub IsSubscriptionSignal : SubscriptionSignal → Type 0
IsSubscriptionSignal (SumaChange epoch change) = IsU64 epoch × IsChange change
IsSubscriptionSignal (SumaClosed epoch) = IsU64 epoch
IsSubscriptionSignal (SubData epoch fragment at changes last) =
    IsU64 epoch × IsU8 fragment × IsU64 at × AreItems IsChange changes × IsBool last
IsSubscriptionSignal (SubAck epoch) = IsU64 epoch
IsSubscriptionSignal (SumaWait epoch) = IsU64 epoch
IsSubscriptionSignal (SumaReady epoch) = IsU64 epoch

unfoldable pub subscription_of : ℕ → Reader Body
subscription_of number =
    if number == signals.SUMA_CHANGE then told (λ x. Subscription (SumaChange x.0 x.1))
    (and_then u64_at (λ _. change_at))
    else if number == signals.SUMA_CLOSED then told (λ x. Subscription (SumaClosed x)) u64_at
    else if number == signals.SUB_DATA then told (λ x. Subscription (SubData x.0 x.1.0 x.1.1.0 x.1.1.1.0 x.1.1.1.1))
    (and_then u64_at (λ _. and_then u8_at (λ _. and_then u64_at
    (λ _. and_then (list_at change_at) (λ _. bool_at)))))
    else if number == signals.SUB_ACK then told (λ x. Subscription (SubAck x)) u64_at
    else if number == signals.SUMA_WAIT then told (λ x. Subscription (SumaWait x)) u64_at
    else (told (λ x. Subscription (SumaReady x)) u64_at)
