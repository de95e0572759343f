-- Epochs that can be written: below 2^64. Those that follow one are so too.
use Rattle.std.proofs.Common.{◌≡◌, ◌<◌, ◌+◌, ◌*◌, ◌/◌, ◌%◌, ◌^◌, ℕ, Bool, true, false, refl, subst, arith}
use Rattle.std.proofs.lemmas.Bool.{ltb-true}
use Rattle.std.specs.Prelude.{if◌then◌else◌, nat_lt, None, Some}
use Rattle.sig_core.specs.declared.mark.Mark.{Mark}
use Rattle.sig_core.specs.declared.mark.Mark.TheVariants.{Decided}
use Rattle.sig_core.specs.declared.outs.Outgoing.{Outgoing}
use Rattle.sig_core.specs.declared.signal.Body.{Body}
use Rattle.sig_core.specs.declared.signal.Body.TheVariants.{Epoch}
use Rattle.sig_core.specs.declared.signal.epoch.EpochSignal.TheVariants.{GcpCommit, GcpPrepare, GcpStateConf}
use Rattle.gcp_master.specs.declared.numbers.TheConstants.{MICROS}
use Rattle.gcp_master.specs.Numbers.{next_global, next_micro}

abbrev pub IsLow : ℕ → Type 0
IsLow epoch = epoch < 2 ^ 64

-- what tells of an epoch that is to follow tells of such a one
abbrev pub IsLowTold : Body → Type 0
IsLowTold (Epoch (GcpPrepare epoch next)) = IsLow next
IsLowTold (Epoch (GcpCommit epoch next)) = IsLow next
IsLowTold (Epoch (GcpStateConf current prepared next closed saved durable)) = IsLow next
IsLowTold body = Unit {0}

abbrev pub TellsLow : Outgoing → Type 0
TellsLow sent = IsLowTold sent.body

-- a decision is one in such an epoch
abbrev pub MarksLow : Mark → Type 0
MarksLow (Decided tx epoch) = IsLow epoch
MarksLow mark = Unit {0}

pub zero_low : IsLow 0
zero_low = omega arith

micro_low : (epoch : ℕ) → IsLow epoch → epoch % MICROS + 1 < MICROS → IsLow (epoch + 1)
micro_low epoch low room = omega (arith, low, room)

pub next_micro_low : (epoch next : ℕ) → IsLow epoch → next_micro epoch ≡ Some next → IsLow next
next_micro_low epoch next low = by (nat_lt (epoch % MICROS + 1) MICROS) refl
  where
    by : (b : Bool) → nat_lt (epoch % MICROS + 1) MICROS ≡ b → (if b then Some (epoch + 1) else None) ≡ Some next
        → IsLow next
    by true room is =
        let same : epoch + 1 ≡ next = cc in
        subst IsLow same (micro_low epoch low (ltb-true (epoch % MICROS + 1) MICROS room))
    by false room is = absurd cc

global_low : (count : ℕ) → count + 1 < MICROS → IsLow ((count + 1) * MICROS)
global_low count room = omega (arith, room)

pub next_global_low : (epoch next : ℕ) → next_global epoch ≡ Some next → IsLow next
next_global_low epoch next = by (nat_lt (epoch / MICROS + 1) MICROS) refl
  where
    by : (b : Bool) → nat_lt (epoch / MICROS + 1) MICROS ≡ b
        → (if b then Some ((epoch / MICROS + 1) * MICROS) else None) ≡ Some next → IsLow next
    by true room is =
        let same : (epoch / MICROS + 1) * MICROS ≡ next = cc in
        subst IsLow same (global_low (epoch / MICROS) (ltb-true (epoch / MICROS + 1) MICROS room))
    by false room is = absurd cc
