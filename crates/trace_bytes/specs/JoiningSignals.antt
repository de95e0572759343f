-- The bytes of signals by which a node that starts joins the others.
use Rattle.std.specs.Prelude.{ℕ, ◌==◌, nat_lt, if◌then◌else◌, List, [], ◌∷◌}
use Rattle.sig_core.specs.declared.signal.Body.{Body}
use Rattle.sig_core.specs.declared.signal.joining.JoiningSignal.{JoiningSignal}
use Rattle.sig_core.specs.declared.signal.joining.JoiningSignal.TheVariants.{StartReq, StartRep, StartEnd, CopyOrd}
use Rattle.sig_core.specs.declared.signal.joining.JoiningSignal.TheVariants.{DrainReq, DrainConf, DrainWait}
use Rattle.sig_core.specs.declared.signal.joining.JoiningSignal.TheVariants.{CopySaveReq, CopySaveConf, CopySaved}
use Rattle.sig_core.specs.declared.signal.joining.JoiningSignal.TheVariants.{PromoteReq, StartGone}
use Rattle.sig_core.specs.declared.signal.Body.TheVariants.{Joining}
use Rattle.redo_format.specs.Reading.{Reader, and_then, told, byte_at}
use Rattle.trace_bytes.specs.declared.kinds.signals.TheConstants as signals
use Rattle.trace_bytes.specs.Lists.{◌&◌}
use Rattle.trace_bytes.specs.Words.{IsMember, IsOptU64, IsTx, always, member_at, member_bytes, opt_u64_at}
use Rattle.trace_bytes.specs.Words.{opt_u64_bytes, tx_at, tx_bytes}

unfoldable pub joining_signal_bytes : JoiningSignal → List ℕ
joining_signal_bytes (StartReq member own) = signals.START_REQ ∷ member_bytes member & opt_u64_bytes own
joining_signal_bytes (StartRep member) = signals.START_REP ∷ member_bytes member
joining_signal_bytes (StartEnd member) = signals.START_END ∷ member_bytes member
joining_signal_bytes (CopyOrd member own) = signals.COPY_ORD ∷ member_bytes member & opt_u64_bytes own
joining_signal_bytes DrainReq = signals.DRAIN_REQ ∷ []
joining_signal_bytes DrainConf = signals.DRAIN_CONF ∷ []
joining_signal_bytes (DrainWait tx) = signals.DRAIN_WAIT ∷ tx_bytes tx
joining_signal_bytes CopySaveReq = signals.COPY_SAVE_REQ ∷ []
joining_signal_bytes CopySaveConf = signals.COPY_SAVE_CONF ∷ []
joining_signal_bytes CopySaved = signals.COPY_SAVED ∷ []
joining_signal_bytes (PromoteReq member) = signals.PROMOTE_REQ ∷ member_bytes member
joining_signal_bytes (StartGone member) = signals.START_GONE ∷ member_bytes member

abbrev pub IsJoiningSignal : JoiningSignal → Type 0
IsJoiningSignal (StartReq member own) = IsMember member × IsOptU64 own
IsJoiningSignal (StartRep member) = IsMember member
IsJoiningSignal (StartEnd member) = IsMember member
IsJoiningSignal (CopyOrd member own) = IsMember member × IsOptU64 own
IsJoiningSignal DrainReq = Unit {0}
IsJoiningSignal DrainConf = Unit {0}
IsJoiningSignal (DrainWait tx) = IsTx tx
IsJoiningSignal CopySaveReq = Unit {0}
IsJoiningSignal CopySaveConf = Unit {0}
IsJoiningSignal CopySaved = Unit {0}
IsJoiningSignal (PromoteReq member) = IsMember member
IsJoiningSignal (StartGone member) = IsMember member

unfoldable pub starting_of : ℕ → Reader Body
starting_of number =
    if number == signals.START_REQ then told (λ x. Joining (StartReq x.0 x.1)) (and_then member_at (λ _. opt_u64_at))
    else if number == signals.START_REP then told (λ x. Joining (StartRep x)) member_at
    else if number == signals.START_END then told (λ x. Joining (StartEnd x)) member_at
    else (told (λ x. Joining (CopyOrd x.0 x.1)) (and_then member_at (λ _. opt_u64_at)))

unfoldable pub draining_of : ℕ → Reader Body
draining_of number =
    if number == signals.DRAIN_REQ then always (Joining DrainReq)
    else if number == signals.DRAIN_CONF then always (Joining DrainConf)
    else (told (λ x. Joining (DrainWait x)) tx_at)

unfoldable pub joined_of : ℕ → Reader Body
joined_of number =
    if number == signals.COPY_SAVE_REQ then always (Joining CopySaveReq)
    else if number == signals.COPY_SAVE_CONF then always (Joining CopySaveConf)
    else if number == signals.COPY_SAVED then always (Joining CopySaved)
    else if number == signals.PROMOTE_REQ then told (λ x. Joining (PromoteReq x)) member_at
    else (told (λ x. Joining (StartGone x)) member_at)
