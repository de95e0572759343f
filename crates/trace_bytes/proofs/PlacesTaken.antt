-- What is read of these is what is written.
use Rattle.std.proofs.Common.{refl}
use Rattle.sig_core.specs.declared.signal.takeover.RecordState.TheVariants.{Prepared, Committed, Marker}
use Rattle.sig_core.specs.declared.place.BlockId.TheVariants.{Api, Arbiter, Qmgr, Tc, Takeover, Dih, GcpMaster, Lqh}
use Rattle.sig_core.specs.declared.place.BlockId.TheVariants.{Copy, Files, Suma, Backup}
use Rattle.trace_bytes.specs.Places.{IsBlock, IsState, block_at, block_bytes, block_of_1, block_of_2, state_at}
use Rattle.trace_bytes.specs.Places.{state_bytes, state_of}
use Rattle.trace_bytes.proofs.Taken.{Takes, TakesKind, last_plain, or_plain, split_kind, takes_known}

state_taken : TakesKind IsState state_bytes state_of 0 2
unfolding state_bytes state_of
state_taken =
    or_plain IsState state_bytes 0 Prepared tt refl
    (or_plain IsState state_bytes 1 Committed tt refl
    (last_plain IsState state_bytes 2 Marker tt refl))

pub takes_state : Takes IsState state_bytes state_at
unfolding state_at
takes_state = takes_known state_taken

block_1_taken : TakesKind IsBlock block_bytes block_of_1 0 5
unfolding block_bytes block_of_1
block_1_taken =
    or_plain IsBlock block_bytes 0 Api tt refl
    (or_plain IsBlock block_bytes 1 Arbiter tt refl
    (or_plain IsBlock block_bytes 2 Qmgr tt refl
    (or_plain IsBlock block_bytes 3 Tc tt refl
    (or_plain IsBlock block_bytes 4 Takeover tt refl
    (last_plain IsBlock block_bytes 5 Dih tt refl)))))

block_2_taken : TakesKind IsBlock block_bytes block_of_2 6 11
unfolding block_bytes block_of_2
block_2_taken =
    or_plain IsBlock block_bytes 6 GcpMaster tt refl
    (or_plain IsBlock block_bytes 7 Lqh tt refl
    (or_plain IsBlock block_bytes 8 Copy tt refl
    (or_plain IsBlock block_bytes 9 Files tt refl
    (or_plain IsBlock block_bytes 10 Suma tt refl
    (last_plain IsBlock block_bytes 11 Backup tt refl)))))

pub takes_block : Takes IsBlock block_bytes block_at
unfolding block_at
takes_block = takes_known (split_kind 6 block_1_taken block_2_taken)
