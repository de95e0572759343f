-- What is written of these signals is read again.
use Rattle.std.proofs.Common.{◌≡◌, ℕ, List, [], ◌∷◌, ◌++◌, drop, refl, lit≤}
use Rattle.std.specs.Prelude.{Result, Ok, Err}
use Rattle.sig_core.specs.declared.signal.Body.{Body}
use Rattle.sig_core.specs.declared.signal.Body.TheVariants.{Host}
use Rattle.sig_core.specs.declared.signal.host.HostSignal.{HostSignal}
use Rattle.sig_core.specs.declared.signal.host.HostSignal.TheVariants.{Round, Kill, Cut, Closed, Continue}
use Rattle.trace_bytes.specs.declared.kinds.signals.TheConstants as signals
use Rattle.trace_bytes.specs.HostSignals.{host_signal_bytes, IsHostSignal, host_signal_of}
use Rattle.trace_bytes.specs.Bodies.{body_of, body_at, of_a_client}
use Rattle.trace_bytes.proofs.Again.{Again, again, both, known}
use Rattle.trace_bytes.proofs.CausesAgain.{again_stop}
use Rattle.trace_bytes.proofs.WordsAgain.{again_host, again_u32, again_u64, again_u8}
use Rattle.trace_bytes.proofs.WorksAgain.{again_work}

pub host_again : (x : HostSignal) (rest : List ℕ) → IsHostSignal x
    → body_at (host_signal_bytes x ++ rest) ≡ Ok (Host x, rest)
unfolding host_signal_bytes body_at body_of of_a_client host_signal_of
host_again Round rest fits =
    known 120 body_of signals.ROUND (drop 1 (host_signal_bytes Round) ++ rest) ((Host Round), rest) (lit≤ tt) refl
host_again (Kill after) rest fits =
    known 120 body_of signals.KILL (drop 1 (host_signal_bytes (Kill after)) ++ rest) ((Host (Kill after)), rest)
    (lit≤ tt) (again (λ x. Host (Kill x)) again_u32 after rest fits)
host_again (Cut node first) rest fits =
    known 120 body_of signals.CUT (drop 1 (host_signal_bytes (Cut node first)) ++ rest) ((Host (Cut node first)), rest)
    (lit≤ tt) (again (λ x. Host (Cut x.0 x.1)) (both again_u8 again_host) (node, first) rest (fits.0, fits.1))
host_again (Closed cause) rest fits =
    known 120 body_of signals.CLOSED (drop 1 (host_signal_bytes (Closed cause)) ++ rest) ((Host (Closed cause)), rest)
    (lit≤ tt) (again (λ x. Host (Closed x)) again_stop cause rest fits)
host_again (Continue work at) rest fits =
    known 120 body_of signals.CONTINUE (drop 1 (host_signal_bytes (Continue work at)) ++ rest)
    ((Host (Continue work at)), rest) (lit≤ tt)
    (again (λ x. Host (Continue x.0 x.1)) (both again_work again_u64) (work, at) rest (fits.0, fits.1))
