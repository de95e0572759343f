-- What is read of these is what is written.
use Rattle.std.proofs.Common.{refl}
use Rattle.sig_core.specs.declared.signal.Body.TheVariants.{Membership}
use Rattle.sig_core.specs.declared.signal.membership.MembershipSignal.TheVariants.{Heartbeat, FailRep, PrepFailReq}
use Rattle.sig_core.specs.declared.signal.membership.MembershipSignal.TheVariants.{FenceReq, FenceConf, PrepFailConf}
use Rattle.sig_core.specs.declared.signal.membership.MembershipSignal.TheVariants.{PrepFailRef, ArbitReq, ArbitConf}
use Rattle.sig_core.specs.declared.signal.membership.MembershipSignal.TheVariants.{ArbitRef, StopSet, CommitFailReq}
use Rattle.trace_bytes.specs.MembershipSignals.{granting_of, membership_signal_bytes, promising_of}
use Rattle.trace_bytes.specs.Bodies.{IsBody, body_bytes}
use Rattle.trace_bytes.proofs.Taken.{TakesKind, last_kind, last_plain, or_kind, or_plain, takes_both}
use Rattle.trace_bytes.proofs.CausesTaken.{takes_stop}
use Rattle.trace_bytes.proofs.WordsTaken.{takes_members, takes_opt_member, takes_u64, takes_view}

pub promising_taken : TakesKind IsBody body_bytes promising_of 34 40
unfolding membership_signal_bytes promising_of
promising_taken =
    or_plain IsBody body_bytes 34 (Membership Heartbeat) tt refl
    (or_kind IsBody body_bytes 35 (λ x. Membership (FailRep x)) takes_members (λ x fits. fits) (λ x fits. refl)
    (or_kind IsBody body_bytes 36 (λ x. Membership (PrepFailReq x)) takes_view (λ x fits. fits) (λ x fits. refl)
    (or_kind IsBody body_bytes 37 (λ x. Membership (FenceReq x)) takes_view (λ x fits. fits) (λ x fits. refl)
    (or_plain IsBody body_bytes 38 (Membership FenceConf) tt refl
    (or_kind IsBody body_bytes 39 (λ x. Membership (PrepFailConf x)) takes_u64 (λ x fits. fits) (λ x fits. refl)
    (last_kind IsBody body_bytes 40 (λ x. Membership (PrepFailRef x)) takes_view (λ x fits. fits) (λ x fits. refl)))))))

pub granting_taken : TakesKind IsBody body_bytes granting_of 41 45
unfolding membership_signal_bytes granting_of
granting_taken =
    or_kind IsBody body_bytes 41 (λ x. Membership (ArbitReq x.0 x.1.0 x.1.1))
    (takes_both takes_u64 (takes_both takes_members takes_opt_member)) (λ x fits. (fits.0, fits.1.0, fits.1.1))
    (λ x fits. refl)
    (or_kind IsBody body_bytes 42 (λ x. Membership (ArbitConf x)) takes_u64 (λ x fits. fits) (λ x fits. refl)
    (or_kind IsBody body_bytes 43 (λ x. Membership (ArbitRef x.0 x.1)) (takes_both takes_u64 takes_members)
    (λ x fits. (fits.0, fits.1)) (λ x fits. refl)
    (or_kind IsBody body_bytes 44 (λ x. Membership (StopSet x)) takes_stop (λ x fits. fits) (λ x fits. refl)
    (last_plain IsBody body_bytes 45 (Membership CommitFailReq) tt refl))))
