-- What is written of these signals is read again.
use Rattle.std.proofs.Common.{◌≡◌, ℕ, List, [], ◌∷◌, ◌++◌, drop, refl, lit≤}
use Rattle.std.specs.Prelude.{Result, Ok, Err}
use Rattle.sig_core.specs.declared.signal.Body.{Body}
use Rattle.sig_core.specs.declared.signal.Body.TheVariants.{Subscription}
use Rattle.sig_core.specs.declared.signal.subscription.SubscriptionSignal.{SubscriptionSignal}
use Rattle.sig_core.specs.declared.signal.subscription.SubscriptionSignal.TheVariants.{SumaChange, SumaClosed, SubData}
use Rattle.sig_core.specs.declared.signal.subscription.SubscriptionSignal.TheVariants.{SubAck, SumaWait, SumaReady}
use Rattle.trace_bytes.specs.declared.kinds.signals.TheConstants as signals
use Rattle.trace_bytes.specs.SubscriptionSignals.{subscription_signal_bytes, IsSubscriptionSignal, subscription_of}
use Rattle.trace_bytes.specs.Bodies.{body_of, body_at, of_the_rest}
use Rattle.trace_bytes.proofs.Again.{Again, again, both, known}
use Rattle.trace_bytes.proofs.ListsAgain.{again_list}
use Rattle.trace_bytes.proofs.WordsAgain.{again_bool, again_change, again_u64, again_u8}

pub subscription_again : (x : SubscriptionSignal) (rest : List ℕ) → IsSubscriptionSignal x
    → body_at (subscription_signal_bytes x ++ rest) ≡ Ok (Subscription x, rest)
unfolding subscription_signal_bytes body_at body_of of_the_rest subscription_of
subscription_again (SumaChange epoch change) rest fits =
    known 120 body_of signals.SUMA_CHANGE (drop 1 (subscription_signal_bytes (SumaChange epoch change)) ++ rest)
    ((Subscription (SumaChange epoch change)), rest) (lit≤ tt)
    (again (λ x. Subscription (SumaChange x.0 x.1)) (both again_u64 again_change) (epoch, change) rest
    (fits.0, fits.1))
subscription_again (SumaClosed epoch) rest fits =
    known 120 body_of signals.SUMA_CLOSED (drop 1 (subscription_signal_bytes (SumaClosed epoch)) ++ rest)
    ((Subscription (SumaClosed epoch)), rest) (lit≤ tt)
    (again (λ x. Subscription (SumaClosed x)) again_u64 epoch rest fits)
subscription_again (SubData epoch fragment at changes last) rest fits =
    known 120 body_of signals.SUB_DATA (drop 1 (subscription_signal_bytes (SubData epoch fragment at changes last)) ++
    rest) ((Subscription (SubData epoch fragment at changes last)), rest) (lit≤ tt)
    (again (λ x. Subscription (SubData x.0 x.1.0 x.1.1.0 x.1.1.1.0 x.1.1.1.1))
    (both again_u64 (both again_u8 (both again_u64 (both (again_list again_change) again_bool))))
    (epoch, (fragment, (at, (changes, last)))) rest (fits.0, (fits.1, (fits.2, (fits.3, fits.4)))))
subscription_again (SubAck epoch) rest fits =
    known 120 body_of signals.SUB_ACK (drop 1 (subscription_signal_bytes (SubAck epoch)) ++ rest)
    ((Subscription (SubAck epoch)), rest) (lit≤ tt) (again (λ x. Subscription (SubAck x)) again_u64 epoch rest fits)
subscription_again (SumaWait epoch) rest fits =
    known 120 body_of signals.SUMA_WAIT (drop 1 (subscription_signal_bytes (SumaWait epoch)) ++ rest)
    ((Subscription (SumaWait epoch)), rest) (lit≤ tt)
    (again (λ x. Subscription (SumaWait x)) again_u64 epoch rest fits)
subscription_again (SumaReady epoch) rest fits =
    known 120 body_of signals.SUMA_READY (drop 1 (subscription_signal_bytes (SumaReady epoch)) ++ rest)
    ((Subscription (SumaReady epoch)), rest) (lit≤ tt)
    (again (λ x. Subscription (SumaReady x)) again_u64 epoch rest fits)
