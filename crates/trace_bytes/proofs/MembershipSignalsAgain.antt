-- What is written of these signals is read again.
use Rattle.std.proofs.Common.{◌≡◌, ℕ, List, [], ◌∷◌, ◌++◌, drop, refl, lit≤}
use Rattle.std.specs.Prelude.{Result, Ok, Err}
use Rattle.sig_core.specs.declared.signal.Body.{Body}
use Rattle.sig_core.specs.declared.signal.Body.TheVariants.{Membership}
use Rattle.sig_core.specs.declared.signal.membership.MembershipSignal.{MembershipSignal}
use Rattle.sig_core.specs.declared.signal.membership.MembershipSignal.TheVariants.{Heartbeat, FailRep, PrepFailReq}
use Rattle.sig_core.specs.declared.signal.membership.MembershipSignal.TheVariants.{FenceReq, FenceConf, PrepFailConf}
use Rattle.sig_core.specs.declared.signal.membership.MembershipSignal.TheVariants.{PrepFailRef, ArbitReq, ArbitConf}
use Rattle.sig_core.specs.declared.signal.membership.MembershipSignal.TheVariants.{ArbitRef, StopSet, CommitFailReq}
use Rattle.trace_bytes.specs.declared.kinds.signals.TheConstants as signals
use Rattle.trace_bytes.specs.MembershipSignals.{membership_signal_bytes, IsMembershipSignal, promising_of, granting_of}
use Rattle.trace_bytes.specs.Bodies.{body_of, body_at, of_membership}
use Rattle.trace_bytes.proofs.Again.{Again, again, both, known}
use Rattle.trace_bytes.proofs.CausesAgain.{again_stop}
use Rattle.trace_bytes.proofs.WordsAgain.{again_members, again_opt_member, again_u64, again_view}

pub membership_again : (x : MembershipSignal) (rest : List ℕ) → IsMembershipSignal x
    → body_at (membership_signal_bytes x ++ rest) ≡ Ok (Membership x, rest)
unfolding membership_signal_bytes body_at body_of of_membership promising_of granting_of
membership_again Heartbeat rest fits =
    known 120 body_of signals.HEARTBEAT (drop 1 (membership_signal_bytes Heartbeat) ++ rest)
    ((Membership Heartbeat), rest) (lit≤ tt) refl
membership_again (FailRep suspects) rest fits =
    known 120 body_of signals.FAIL_REP (drop 1 (membership_signal_bytes (FailRep suspects)) ++ rest)
    ((Membership (FailRep suspects)), rest) (lit≤ tt)
    (again (λ x. Membership (FailRep x)) again_members suspects rest fits)
membership_again (PrepFailReq proposal) rest fits =
    known 120 body_of signals.PREP_FAIL_REQ (drop 1 (membership_signal_bytes (PrepFailReq proposal)) ++ rest)
    ((Membership (PrepFailReq proposal)), rest) (lit≤ tt)
    (again (λ x. Membership (PrepFailReq x)) again_view proposal rest fits)
membership_again (FenceReq proposal) rest fits =
    known 120 body_of signals.FENCE_REQ (drop 1 (membership_signal_bytes (FenceReq proposal)) ++ rest)
    ((Membership (FenceReq proposal)), rest) (lit≤ tt)
    (again (λ x. Membership (FenceReq x)) again_view proposal rest fits)
membership_again FenceConf rest fits =
    known 120 body_of signals.FENCE_CONF (drop 1 (membership_signal_bytes FenceConf) ++ rest)
    ((Membership FenceConf), rest) (lit≤ tt) refl
membership_again (PrepFailConf number) rest fits =
    known 120 body_of signals.PREP_FAIL_CONF (drop 1 (membership_signal_bytes (PrepFailConf number)) ++ rest)
    ((Membership (PrepFailConf number)), rest) (lit≤ tt)
    (again (λ x. Membership (PrepFailConf x)) again_u64 number rest fits)
membership_again (PrepFailRef promised) rest fits =
    known 120 body_of signals.PREP_FAIL_REF (drop 1 (membership_signal_bytes (PrepFailRef promised)) ++ rest)
    ((Membership (PrepFailRef promised)), rest) (lit≤ tt)
    (again (λ x. Membership (PrepFailRef x)) again_view promised rest fits)
membership_again (ArbitReq number members joining) rest fits =
    known 120 body_of signals.ARBIT_REQ (drop 1 (membership_signal_bytes (ArbitReq number members joining)) ++ rest)
    ((Membership (ArbitReq number members joining)), rest) (lit≤ tt)
    (again (λ x. Membership (ArbitReq x.0 x.1.0 x.1.1)) (both again_u64 (both again_members again_opt_member))
    (number, (members, joining)) rest (fits.0, (fits.1, fits.2)))
membership_again (ArbitConf number) rest fits =
    known 120 body_of signals.ARBIT_CONF (drop 1 (membership_signal_bytes (ArbitConf number)) ++ rest)
    ((Membership (ArbitConf number)), rest) (lit≤ tt)
    (again (λ x. Membership (ArbitConf x)) again_u64 number rest fits)
membership_again (ArbitRef number members) rest fits =
    known 120 body_of signals.ARBIT_REF (drop 1 (membership_signal_bytes (ArbitRef number members)) ++ rest)
    ((Membership (ArbitRef number members)), rest) (lit≤ tt)
    (again (λ x. Membership (ArbitRef x.0 x.1)) (both again_u64 again_members) (number, members) rest
    (fits.0, fits.1))
membership_again (StopSet cause) rest fits =
    known 120 body_of signals.STOP_SET (drop 1 (membership_signal_bytes (StopSet cause)) ++ rest)
    ((Membership (StopSet cause)), rest) (lit≤ tt) (again (λ x. Membership (StopSet x)) again_stop cause rest fits)
membership_again CommitFailReq rest fits =
    known 120 body_of signals.COMMIT_FAIL_REQ (drop 1 (membership_signal_bytes CommitFailReq) ++ rest)
    ((Membership CommitFailReq), rest) (lit≤ tt) refl
