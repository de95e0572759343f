-- The bytes of blocks, and of what a replica has of a transaction.
use Rattle.std.specs.Prelude.{ℕ, ◌==◌, nat_lt, if◌then◌else◌, List, [], ◌∷◌}
use Rattle.sig_core.specs.declared.place.BlockId.{BlockId}
use Rattle.sig_core.specs.declared.signal.takeover.RecordState.{RecordState}
use Rattle.sig_core.specs.declared.signal.takeover.RecordState.TheVariants.{Prepared, Committed, Marker}
use Rattle.sig_core.specs.declared.place.BlockId.TheVariants.{Api, Arbiter, Qmgr, Tc, Takeover, Dih, GcpMaster, Lqh}
use Rattle.sig_core.specs.declared.place.BlockId.TheVariants.{Copy, Files, Suma, Backup}
use Rattle.redo_format.specs.Reading.{Reader, and_then, told, byte_at}
use Rattle.trace_bytes.specs.declared.kinds.states.TheConstants as states
use Rattle.trace_bytes.specs.declared.kinds.blocks.TheConstants as blocks
use Rattle.trace_bytes.specs.Lists.{◌&◌}
use Rattle.trace_bytes.specs.Words.{always}

unfoldable pub state_bytes : RecordState → List ℕ
state_bytes Prepared = states.PREPARED ∷ []
state_bytes Committed = states.COMMITTED ∷ []
state_bytes Marker = states.MARKER ∷ []

abbrev pub IsState : RecordState → Type 0
IsState Prepared = Unit {0}
IsState Committed = Unit {0}
IsState Marker = Unit {0}

unfoldable pub state_of : ℕ → Reader RecordState
state_of number =
    if number == states.PREPARED then always Prepared
    else if number == states.COMMITTED then always Committed
    else (always Marker)

unfoldable pub state_at : Reader RecordState
state_at = told (λ x. x.1) (and_then (byte_at 0 2) state_of)

unfoldable pub block_bytes : BlockId → List ℕ
block_bytes Api = blocks.API ∷ []
block_bytes Arbiter = blocks.ARBITER ∷ []
block_bytes Qmgr = blocks.QMGR ∷ []
block_bytes Tc = blocks.TC ∷ []
block_bytes Takeover = blocks.TAKEOVER ∷ []
block_bytes Dih = blocks.DIH ∷ []
block_bytes GcpMaster = blocks.GCP_MASTER ∷ []
block_bytes Lqh = blocks.LQH ∷ []
block_bytes Copy = blocks.COPY ∷ []
block_bytes Files = blocks.FILES ∷ []
block_bytes Suma = blocks.SUMA ∷ []
block_bytes Backup = blocks.BACKUP ∷ []

abbrev pub IsBlock : BlockId → Type 0
IsBlock Api = Unit {0}
IsBlock Arbiter = Unit {0}
IsBlock Qmgr = Unit {0}
IsBlock Tc = Unit {0}
IsBlock Takeover = Unit {0}
IsBlock Dih = Unit {0}
IsBlock GcpMaster = Unit {0}
IsBlock Lqh = Unit {0}
IsBlock Copy = Unit {0}
IsBlock Files = Unit {0}
IsBlock Suma = Unit {0}
IsBlock Backup = Unit {0}

unfoldable pub block_of_1 : ℕ → Reader BlockId
block_of_1 number =
    if number == blocks.API then always Api
    else if number == blocks.ARBITER then always Arbiter
    else if number == blocks.QMGR then always Qmgr
    else if number == blocks.TC then always Tc
    else if number == blocks.TAKEOVER then always Takeover
    else (always Dih)

unfoldable pub block_of_2 : ℕ → Reader BlockId
block_of_2 number =
    if number == blocks.GCP_MASTER then always GcpMaster
    else if number == blocks.LQH then always Lqh
    else if number == blocks.COPY then always Copy
    else if number == blocks.FILES then always Files
    else if number == blocks.SUMA then always Suma
    else (always Backup)

abbrev pub block_of : ℕ → Reader BlockId
block_of number =
    if nat_lt number 6 then block_of_1 number else block_of_2 number

unfoldable pub block_at : Reader BlockId
block_at = told (λ x. x.1) (and_then (byte_at 0 11) block_of)
