-- What is written of these signals is read again.
use Rattle.std.proofs.Common.{◌≡◌, ℕ, List, [], ◌∷◌, ◌++◌, drop, refl, lit≤}
use Rattle.std.specs.Prelude.{Result, Ok, Err}
use Rattle.sig_core.specs.declared.signal.Body.{Body}
use Rattle.sig_core.specs.declared.signal.Body.TheVariants.{Takeover}
use Rattle.sig_core.specs.declared.signal.takeover.TakeoverSignal.{TakeoverSignal}
use Rattle.sig_core.specs.declared.signal.takeover.TakeoverSignal.TheVariants.{TakeoverOrd, LqhTransReq, LqhTransConf}
use Rattle.sig_core.specs.declared.signal.takeover.TakeoverSignal.TheVariants.{LqhTransEnd, TakeoverEnd}
use Rattle.trace_bytes.specs.declared.kinds.signals.TheConstants as signals
use Rattle.trace_bytes.specs.TakeoverSignals.{takeover_signal_bytes, IsTakeoverSignal, takeover_of}
use Rattle.trace_bytes.specs.Bodies.{body_of, body_at, of_membership}
use Rattle.trace_bytes.proofs.Again.{Again, again, both, known}
use Rattle.trace_bytes.proofs.PlacesAgain.{again_state}
use Rattle.trace_bytes.proofs.WordsAgain.{again_key, again_tx, again_u64}

pub takeover_again : (x : TakeoverSignal) (rest : List ℕ) → IsTakeoverSignal x
    → body_at (takeover_signal_bytes x ++ rest) ≡ Ok (Takeover x, rest)
unfolding takeover_signal_bytes body_at body_of of_membership takeover_of
takeover_again TakeoverOrd rest fits =
    known 120 body_of signals.TAKEOVER_ORD (drop 1 (takeover_signal_bytes TakeoverOrd) ++ rest)
    ((Takeover TakeoverOrd), rest) (lit≤ tt) refl
takeover_again LqhTransReq rest fits =
    known 120 body_of signals.LQH_TRANS_REQ (drop 1 (takeover_signal_bytes LqhTransReq) ++ rest)
    ((Takeover LqhTransReq), rest) (lit≤ tt) refl
takeover_again (LqhTransConf tx key state epoch) rest fits =
    known 120 body_of signals.LQH_TRANS_CONF (drop 1 (takeover_signal_bytes (LqhTransConf tx key state epoch)) ++ rest)
    ((Takeover (LqhTransConf tx key state epoch)), rest) (lit≤ tt)
    (again (λ x. Takeover (LqhTransConf x.0 x.1.0 x.1.1.0 x.1.1.1))
    (both again_tx (both again_key (both again_state again_u64))) (tx, (key, (state, epoch))) rest
    (fits.0, (fits.1, (fits.2, fits.3))))
takeover_again LqhTransEnd rest fits =
    known 120 body_of signals.LQH_TRANS_END (drop 1 (takeover_signal_bytes LqhTransEnd) ++ rest)
    ((Takeover LqhTransEnd), rest) (lit≤ tt) refl
takeover_again TakeoverEnd rest fits =
    known 120 body_of signals.TAKEOVER_END (drop 1 (takeover_signal_bytes TakeoverEnd) ++ rest)
    ((Takeover TakeoverEnd), rest) (lit≤ tt) refl
