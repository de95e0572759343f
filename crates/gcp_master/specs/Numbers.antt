-- Numbers of epochs: c * 2^32 + m, where c counts the checkpoints and m the micro epochs since the last one.
use Rattle.std.specs.Prelude.{ℕ, ◌+◌, ◌*◌, ◌/◌, ◌%◌, ◌==◌, if◌then◌else◌, Bool, nat_lt, Option, None, Some}
use Rattle.gcp_master.specs.declared.numbers.TheConstants.{MICROS}

-- the epoch is the first of its checkpoint number: a global checkpoint ended the one before
abbrev pub is_first : ℕ → Bool
is_first epoch = epoch % MICROS == 0

-- the epoch that follows where a micro closing ends this one
abbrev pub next_micro : ℕ → Option ℕ
next_micro epoch = if nat_lt (epoch % MICROS + 1) MICROS then Some (epoch + 1) else None

-- the epoch that follows where a global checkpoint ends this one
abbrev pub next_global : ℕ → Option ℕ
next_global epoch = if nat_lt (epoch / MICROS + 1) MICROS then Some ((epoch / MICROS + 1) * MICROS) else None
