-- The calls by which a slot is written.
use Rattle.std.specs.Prelude.{ℕ, ◌+◌, ◌==◌, ◌&&◌, not, Bool, nat_lt, List, [], ◌∷◌, length, get_or, if◌then◌else◌}
use Rattle.host_io.specs.Call.{Call, Wrote, Synced}
use Rattle.sysfile_core.specs.declared.place.TheConstants.{CLOSED, OPEN}

-- a byte stands at the place of a gate, and isn't that of an open one
abbrev pub stands_closed : ℕ → List ℕ → Bool
stands_closed place bytes = nat_lt place (length bytes) && not (get_or bytes place 0 == OPEN)

-- The call that closes a gate. One that stands closed isn't written, since a crash might open it then.
abbrev pub closing_by : Bool → ℕ → ℕ → Call
closing_by stands file place = if stands then Synced file else Wrote file place (CLOSED ∷ [])

-- the calls that write what follows the gate of a slot, and then open the gate
abbrev pub opening : ℕ → ℕ → List ℕ → List Call
opening file place body =
    Synced file ∷ Wrote file (place + 1) body ∷ Synced file ∷ Wrote file place (OPEN ∷ []) ∷ Synced file ∷ []

-- The calls that write a slot at a place of a file, which has these bytes: the gate is closed, the others are written,
-- and the gate is opened, with a sync behind each.
abbrev pub slot_calls : List ℕ → ℕ → ℕ → List ℕ → List Call
slot_calls bytes file place body = closing_by (stands_closed place bytes) file place ∷ opening file place body
