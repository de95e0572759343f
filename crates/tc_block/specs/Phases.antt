-- How far a transaction has come at its coordinator.
use Rattle.std.specs.Prelude.{Bool, true, false}
use Rattle.tc_block.specs.declared.phase.Phase.{Phase}
use Rattle.tc_block.specs.declared.phase.Phase.TheVariants.{Open, Committing, Completing, Aborting}

-- it takes operations, and hasn't asked for an epoch
abbrev pub is_open : Phase → Bool
is_open Open = true
is_open phase = false

-- it knows that it is decided
abbrev pub is_decided : Phase → Bool
is_decided (Committing epoch awaited) = true
is_decided (Completing epoch awaited) = true
is_decided phase = false

-- its keys are being committed
abbrev pub is_committing : Phase → Bool
is_committing (Committing epoch awaited) = true
is_committing phase = false

-- all its rows are committed
abbrev pub is_completing : Phase → Bool
is_completing (Completing epoch awaited) = true
is_completing phase = false

-- it is being aborted
abbrev pub is_aborting : Phase → Bool
is_aborting (Aborting cause verifying awaited) = true
is_aborting phase = false
