-- What is written of these is read again.
use Rattle.std.proofs.Common.{◌≡◌, ℕ, List, [], ◌∷◌, ◌++◌, drop, refl, lit≤}
use Rattle.std.specs.Prelude.{Result, Ok, Err}
use Rattle.sig_core.specs.declared.signal.takeover.RecordState.{RecordState}
use Rattle.sig_core.specs.declared.signal.takeover.RecordState.TheVariants.{Prepared, Committed, Marker}
use Rattle.trace_bytes.specs.declared.kinds.states.TheConstants as states
use Rattle.sig_core.specs.declared.place.BlockId.{BlockId}
use Rattle.sig_core.specs.declared.place.BlockId.TheVariants.{Api, Arbiter, Qmgr, Tc, Takeover, Dih, GcpMaster, Lqh}
use Rattle.sig_core.specs.declared.place.BlockId.TheVariants.{Copy, Files, Suma, Backup}
use Rattle.trace_bytes.specs.declared.kinds.blocks.TheConstants as blocks
use Rattle.trace_bytes.specs.Places.{state_bytes, IsState, state_of, state_at, block_bytes, IsBlock, block_of, block_at}
use Rattle.trace_bytes.specs.Places.{block_of_1, block_of_2}
use Rattle.trace_bytes.proofs.Again.{Again, again, both, known}

state_again : (x : RecordState) (rest : List ℕ) → IsState x → state_at (state_bytes x ++ rest) ≡ Ok (x, rest)
unfolding state_bytes state_at state_of
state_again Prepared rest fits =
    known 2 state_of states.PREPARED (drop 1 (state_bytes Prepared) ++ rest) (Prepared, rest) (lit≤ tt) refl
state_again Committed rest fits =
    known 2 state_of states.COMMITTED (drop 1 (state_bytes Committed) ++ rest) (Committed, rest) (lit≤ tt) refl
state_again Marker rest fits =
    known 2 state_of states.MARKER (drop 1 (state_bytes Marker) ++ rest) (Marker, rest) (lit≤ tt) refl

pub again_state : Again IsState state_bytes state_at
again_state = record { reads = state_again }

block_again : (x : BlockId) (rest : List ℕ) → IsBlock x → block_at (block_bytes x ++ rest) ≡ Ok (x, rest)
unfolding block_bytes block_at block_of_1 block_of_2
block_again Api rest fits =
    known 11 block_of blocks.API (drop 1 (block_bytes Api) ++ rest) (Api, rest) (lit≤ tt) refl
block_again Arbiter rest fits =
    known 11 block_of blocks.ARBITER (drop 1 (block_bytes Arbiter) ++ rest) (Arbiter, rest) (lit≤ tt) refl
block_again Qmgr rest fits =
    known 11 block_of blocks.QMGR (drop 1 (block_bytes Qmgr) ++ rest) (Qmgr, rest) (lit≤ tt) refl
block_again Tc rest fits =
    known 11 block_of blocks.TC (drop 1 (block_bytes Tc) ++ rest) (Tc, rest) (lit≤ tt) refl
block_again Takeover rest fits =
    known 11 block_of blocks.TAKEOVER (drop 1 (block_bytes Takeover) ++ rest) (Takeover, rest) (lit≤ tt) refl
block_again Dih rest fits =
    known 11 block_of blocks.DIH (drop 1 (block_bytes Dih) ++ rest) (Dih, rest) (lit≤ tt) refl
block_again GcpMaster rest fits =
    known 11 block_of blocks.GCP_MASTER (drop 1 (block_bytes GcpMaster) ++ rest) (GcpMaster, rest) (lit≤ tt) refl
block_again Lqh rest fits =
    known 11 block_of blocks.LQH (drop 1 (block_bytes Lqh) ++ rest) (Lqh, rest) (lit≤ tt) refl
block_again Copy rest fits =
    known 11 block_of blocks.COPY (drop 1 (block_bytes Copy) ++ rest) (Copy, rest) (lit≤ tt) refl
block_again Files rest fits =
    known 11 block_of blocks.FILES (drop 1 (block_bytes Files) ++ rest) (Files, rest) (lit≤ tt) refl
block_again Suma rest fits =
    known 11 block_of blocks.SUMA (drop 1 (block_bytes Suma) ++ rest) (Suma, rest) (lit≤ tt) refl
block_again Backup rest fits =
    known 11 block_of blocks.BACKUP (drop 1 (block_bytes Backup) ++ rest) (Backup, rest) (lit≤ tt) refl

pub again_block : Again IsBlock block_bytes block_at
again_block = record { reads = block_again }
