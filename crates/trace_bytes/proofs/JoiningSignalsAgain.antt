-- What is written of these signals is read again.
use Rattle.std.proofs.Common.{◌≡◌, ℕ, List, [], ◌∷◌, ◌++◌, drop, refl, lit≤}
use Rattle.std.specs.Prelude.{Result, Ok, Err}
use Rattle.sig_core.specs.declared.signal.Body.{Body}
use Rattle.sig_core.specs.declared.signal.Body.TheVariants.{Joining}
use Rattle.sig_core.specs.declared.signal.joining.JoiningSignal.{JoiningSignal}
use Rattle.sig_core.specs.declared.signal.joining.JoiningSignal.TheVariants.{StartReq, StartRep, StartEnd, CopyOrd}
use Rattle.sig_core.specs.declared.signal.joining.JoiningSignal.TheVariants.{DrainReq, DrainConf, DrainWait}
use Rattle.sig_core.specs.declared.signal.joining.JoiningSignal.TheVariants.{CopySaveReq, CopySaveConf, CopySaved}
use Rattle.sig_core.specs.declared.signal.joining.JoiningSignal.TheVariants.{PromoteReq, StartGone}
use Rattle.trace_bytes.specs.declared.kinds.signals.TheConstants as signals
use Rattle.trace_bytes.specs.JoiningSignals.{joining_signal_bytes, IsJoiningSignal, starting_of, draining_of, joined_of}
use Rattle.trace_bytes.specs.Bodies.{body_of, body_at, of_disks, of_the_rest}
use Rattle.trace_bytes.proofs.Again.{Again, again, both, known}
use Rattle.trace_bytes.proofs.WordsAgain.{again_member, again_opt_u64, again_tx}

pub joining_again : (x : JoiningSignal) (rest : List ℕ) → IsJoiningSignal x
    → body_at (joining_signal_bytes x ++ rest) ≡ Ok (Joining x, rest)
unfolding joining_signal_bytes body_at body_of of_disks of_the_rest starting_of draining_of joined_of
joining_again (StartReq member own) rest fits =
    known 120 body_of signals.START_REQ (drop 1 (joining_signal_bytes (StartReq member own)) ++ rest)
    ((Joining (StartReq member own)), rest) (lit≤ tt)
    (again (λ x. Joining (StartReq x.0 x.1)) (both again_member again_opt_u64) (member, own) rest
    (fits.0, fits.1))
joining_again (StartRep member) rest fits =
    known 120 body_of signals.START_REP (drop 1 (joining_signal_bytes (StartRep member)) ++ rest)
    ((Joining (StartRep member)), rest) (lit≤ tt) (again (λ x. Joining (StartRep x)) again_member member rest fits)
joining_again (StartEnd member) rest fits =
    known 120 body_of signals.START_END (drop 1 (joining_signal_bytes (StartEnd member)) ++ rest)
    ((Joining (StartEnd member)), rest) (lit≤ tt) (again (λ x. Joining (StartEnd x)) again_member member rest fits)
joining_again (CopyOrd member own) rest fits =
    known 120 body_of signals.COPY_ORD (drop 1 (joining_signal_bytes (CopyOrd member own)) ++ rest)
    ((Joining (CopyOrd member own)), rest) (lit≤ tt)
    (again (λ x. Joining (CopyOrd x.0 x.1)) (both again_member again_opt_u64) (member, own) rest
    (fits.0, fits.1))
joining_again DrainReq rest fits =
    known 120 body_of signals.DRAIN_REQ (drop 1 (joining_signal_bytes DrainReq) ++ rest) ((Joining DrainReq), rest)
    (lit≤ tt) refl
joining_again DrainConf rest fits =
    known 120 body_of signals.DRAIN_CONF (drop 1 (joining_signal_bytes DrainConf) ++ rest) ((Joining DrainConf), rest)
    (lit≤ tt) refl
joining_again (DrainWait tx) rest fits =
    known 120 body_of signals.DRAIN_WAIT (drop 1 (joining_signal_bytes (DrainWait tx)) ++ rest)
    ((Joining (DrainWait tx)), rest) (lit≤ tt) (again (λ x. Joining (DrainWait x)) again_tx tx rest fits)
joining_again CopySaveReq rest fits =
    known 120 body_of signals.COPY_SAVE_REQ (drop 1 (joining_signal_bytes CopySaveReq) ++ rest)
    ((Joining CopySaveReq), rest) (lit≤ tt) refl
joining_again CopySaveConf rest fits =
    known 120 body_of signals.COPY_SAVE_CONF (drop 1 (joining_signal_bytes CopySaveConf) ++ rest)
    ((Joining CopySaveConf), rest) (lit≤ tt) refl
joining_again CopySaved rest fits =
    known 120 body_of signals.COPY_SAVED (drop 1 (joining_signal_bytes CopySaved) ++ rest) ((Joining CopySaved), rest)
    (lit≤ tt) refl
joining_again (PromoteReq member) rest fits =
    known 120 body_of signals.PROMOTE_REQ (drop 1 (joining_signal_bytes (PromoteReq member)) ++ rest)
    ((Joining (PromoteReq member)), rest) (lit≤ tt)
    (again (λ x. Joining (PromoteReq x)) again_member member rest fits)
joining_again (StartGone member) rest fits =
    known 120 body_of signals.START_GONE (drop 1 (joining_signal_bytes (StartGone member)) ++ rest)
    ((Joining (StartGone member)), rest) (lit≤ tt)
    (again (λ x. Joining (StartGone x)) again_member member rest fits)
