-- The bytes of signals by which the members agree on views.
use Rattle.std.specs.Prelude.{ℕ, ◌==◌, nat_lt, if◌then◌else◌, List, [], ◌∷◌}
use Rattle.sig_core.specs.declared.signal.Body.{Body}
use Rattle.sig_core.specs.declared.signal.membership.MembershipSignal.{MembershipSignal}
use Rattle.sig_core.specs.declared.signal.membership.MembershipSignal.TheVariants.{Heartbeat, FailRep, PrepFailReq}
use Rattle.sig_core.specs.declared.signal.membership.MembershipSignal.TheVariants.{FenceReq, FenceConf, PrepFailConf}
use Rattle.sig_core.specs.declared.signal.membership.MembershipSignal.TheVariants.{PrepFailRef, ArbitReq, ArbitConf}
use Rattle.sig_core.specs.declared.signal.membership.MembershipSignal.TheVariants.{ArbitRef, StopSet, CommitFailReq}
use Rattle.sig_core.specs.declared.signal.Body.TheVariants.{Membership}
use Rattle.redo_format.specs.Reading.{Reader, and_then, told, byte_at}
use Rattle.trace_bytes.specs.declared.kinds.signals.TheConstants as signals
use Rattle.trace_bytes.specs.Causes.{IsStop, stop_at, stop_bytes}
use Rattle.trace_bytes.specs.Lists.{◌&◌}
use Rattle.trace_bytes.specs.Numbers.{IsU64, u64_at, u64_bytes}
use Rattle.trace_bytes.specs.Words.{IsMembers, IsOptMember, IsView, always, members_at, members_bytes, opt_member_at}
use Rattle.trace_bytes.specs.Words.{opt_member_bytes, view_at, view_bytes}

unfoldable pub membership_signal_bytes : MembershipSignal → List ℕ
membership_signal_bytes Heartbeat = signals.HEARTBEAT ∷ []
membership_signal_bytes (FailRep suspects) = signals.FAIL_REP ∷ members_bytes suspects
membership_signal_bytes (PrepFailReq proposal) = signals.PREP_FAIL_REQ ∷ view_bytes proposal
membership_signal_bytes (FenceReq proposal) = signals.FENCE_REQ ∷ view_bytes proposal
membership_signal_bytes FenceConf = signals.FENCE_CONF ∷ []
membership_signal_bytes (PrepFailConf number) = signals.PREP_FAIL_CONF ∷ u64_bytes number
membership_signal_bytes (PrepFailRef promised) = signals.PREP_FAIL_REF ∷ view_bytes promised
membership_signal_bytes (ArbitReq number members joining) =
    signals.ARBIT_REQ ∷ u64_bytes number & members_bytes members & opt_member_bytes joining
membership_signal_bytes (ArbitConf number) = signals.ARBIT_CONF ∷ u64_bytes number
membership_signal_bytes (ArbitRef number members) = signals.ARBIT_REF ∷ u64_bytes number & members_bytes members
membership_signal_bytes (StopSet cause) = signals.STOP_SET ∷ stop_bytes cause
membership_signal_bytes CommitFailReq = signals.COMMIT_FAIL_REQ ∷ []

abbrev pub IsMembershipSignal : MembershipSignal → Type 0
IsMembershipSignal Heartbeat = Unit {0}
IsMembershipSignal (FailRep suspects) = IsMembers suspects
IsMembershipSignal (PrepFailReq proposal) = IsView proposal
IsMembershipSignal (FenceReq proposal) = IsView proposal
IsMembershipSignal FenceConf = Unit {0}
IsMembershipSignal (PrepFailConf number) = IsU64 number
IsMembershipSignal (PrepFailRef promised) = IsView promised
IsMembershipSignal (ArbitReq number members joining) = IsU64 number × IsMembers members × IsOptMember joining
IsMembershipSignal (ArbitConf number) = IsU64 number
IsMembershipSignal (ArbitRef number members) = IsU64 number × IsMembers members
IsMembershipSignal (StopSet cause) = IsStop cause
IsMembershipSignal CommitFailReq = Unit {0}

unfoldable pub promising_of : ℕ → Reader Body
promising_of number =
    if number == signals.HEARTBEAT then always (Membership Heartbeat)
    else if number == signals.FAIL_REP then told (λ x. Membership (FailRep x)) members_at
    else if number == signals.PREP_FAIL_REQ then told (λ x. Membership (PrepFailReq x)) view_at
    else if number == signals.FENCE_REQ then told (λ x. Membership (FenceReq x)) view_at
    else if number == signals.FENCE_CONF then always (Membership FenceConf)
    else if number == signals.PREP_FAIL_CONF then told (λ x. Membership (PrepFailConf x)) u64_at
    else (told (λ x. Membership (PrepFailRef x)) view_at)

unfoldable pub granting_of : ℕ → Reader Body
granting_of number =
    if number == signals.ARBIT_REQ then told (λ x. Membership (ArbitReq x.0 x.1.0 x.1.1))
    (and_then u64_at (λ _. and_then members_at (λ _. opt_member_at)))
    else if number == signals.ARBIT_CONF then told (λ x. Membership (ArbitConf x)) u64_at
    else if number == signals.ARBIT_REF then told (λ x. Membership (ArbitRef x.0 x.1))
    (and_then u64_at (λ _. members_at))
    else if number == signals.STOP_SET then told (λ x. Membership (StopSet x)) stop_at
    else (always (Membership CommitFailReq))
