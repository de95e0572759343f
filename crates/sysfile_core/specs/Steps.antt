-- The steps of a slot's write, and the calls that they are.
use Rattle.std.specs.Prelude.{◌≡◌, ℕ, ◌+◌, ◌-◌, ◌≤◌, ◌==◌, List, [], ◌∷◌, take, drop, length, if◌then◌else◌}
use Rattle.host_io.specs.Call.{Call, Wrote, Synced}
use Rattle.sysfile_core.specs.declared.place.TheConstants.{CLOSED, OPEN}
use Rattle.sysfile_core.specs.declared.write.SlotStep.{SlotStep}
use Rattle.sysfile_core.specs.declared.write.SlotStep.TheVariants.{Gate, Sync, Write}
use Rattle.sysfile_core.specs.Places.{place_of}
use Rattle.sysfile_core.specs.Writing.{closing_by, slot_calls, stands_closed}

-- step `k` of the write of a slot of this size
abbrev pub step_of : ℕ → ℕ → ℕ → SlotStep
step_of size which k =
    if k == 0
    then Gate (place_of which) CLOSED
    else if k == 2
    then Write (place_of which + 1) 1 size
    else if k == 4 then Gate (place_of which) OPEN else Sync

-- a gate is opened by a write, and closed by one unless it stands closed
abbrev pub gate_call : List ℕ → ℕ → ℕ → ℕ → Call
gate_call bytes file at byte =
    if byte == OPEN then Wrote file at (byte ∷ []) else closing_by (stands_closed at bytes) file at

-- the call of a step on a file of these bytes
abbrev pub call_of : List ℕ → ℕ → List ℕ → SlotStep → Call
call_of bytes file slot (Write at from to) = Wrote file at (take (to - from) (drop from slot))
call_of bytes file slot (Gate at byte) = gate_call bytes file at byte
call_of bytes file slot Sync = Synced file

-- the six steps are the calls that write the slot
abbrev pub StepsAreTheCalls : Type 0
StepsAreTheCalls =
    (bytes slot : List ℕ) (file which : ℕ) → 1 ≤ length slot
    → call_of bytes file slot (step_of (length slot) which 0) ∷ call_of bytes file slot (step_of (length slot) which 1)
    ∷ call_of bytes file slot (step_of (length slot) which 2) ∷ call_of bytes file slot (step_of (length slot) which 3)
    ∷ call_of bytes file slot (step_of (length slot) which 4)
    ∷ call_of bytes file slot (step_of (length slot) which 5) ∷ []
    ≡ slot_calls bytes file (place_of which) (drop 1 slot)
