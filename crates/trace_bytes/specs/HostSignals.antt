-- The bytes of signals that any block may take.
use Rattle.std.specs.Prelude.{ℕ, ◌==◌, nat_lt, if◌then◌else◌, List, [], ◌∷◌}
use Rattle.sig_core.specs.declared.signal.Body.{Body}
use Rattle.sig_core.specs.declared.signal.host.HostSignal.{HostSignal}
use Rattle.sig_core.specs.declared.signal.host.HostSignal.TheVariants.{Round, Kill, Cut, Closed, Continue}
use Rattle.sig_core.specs.declared.signal.Body.TheVariants.{Host}
use Rattle.redo_format.specs.Reading.{Reader, and_then, told, byte_at}
use Rattle.trace_bytes.specs.declared.kinds.signals.TheConstants as signals
use Rattle.trace_bytes.specs.Causes.{IsStop, stop_at, stop_bytes}
use Rattle.trace_bytes.specs.Lists.{◌&◌}
use Rattle.trace_bytes.specs.Numbers.{IsU32, IsU64, IsU8, u32_at, u32_bytes, u64_at, u64_bytes, u8_at, u8_bytes}
use Rattle.trace_bytes.specs.Words.{IsHost, always, host_at, host_bytes}
use Rattle.trace_bytes.specs.Works.{IsWork, work_at, work_bytes}

unfoldable pub host_signal_bytes : HostSignal → List ℕ
host_signal_bytes Round = signals.ROUND ∷ []
host_signal_bytes (Kill after) = signals.KILL ∷ u32_bytes after
host_signal_bytes (Cut node first) = signals.CUT ∷ u8_bytes node & host_bytes first
host_signal_bytes (Closed cause) = signals.CLOSED ∷ stop_bytes cause
host_signal_bytes (Continue work at) = signals.CONTINUE ∷ work_bytes work & u64_bytes at

abbrev pub IsHostSignal : HostSignal → Type 0
IsHostSignal Round = Unit {0}
IsHostSignal (Kill after) = IsU32 after
IsHostSignal (Cut node first) = IsU8 node × IsHost first
IsHostSignal (Closed cause) = IsStop cause
IsHostSignal (Continue work at) = IsWork work × IsU64 at

unfoldable pub host_signal_of : ℕ → Reader Body
host_signal_of number =
    if number == signals.ROUND then always (Host Round)
    else if number == signals.KILL then told (λ x. Host (Kill x)) u32_at
    else if number == signals.CUT then told (λ x. Host (Cut x.0 x.1)) (and_then u8_at (λ _. host_at))
    else if number == signals.CLOSED then told (λ x. Host (Closed x)) stop_at
    else (told (λ x. Host (Continue x.0 x.1)) (and_then work_at (λ _. u64_at)))
