use Rattle.std.proofs.Common.{◌≡◌, drop}
use Rattle.qmgr_block.specs.Suspects.{with_suspects}
use Rattle.qmgr_block.proofs.known.Known.suspect_all.Given as goal

-- what is left leads to the same as all did
abbrev pub invariant-loop-member : goal.invariant-loop-member
invariant-loop-member l =
    with_suspects l.self (drop l.member-index l.members) ≡ with_suspects l.initial.self l.members
