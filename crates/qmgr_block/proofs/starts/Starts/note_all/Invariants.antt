use Rattle.std.proofs.Common.{◌≡◌, drop}
use Rattle.qmgr_block.specs.Starts.{all_noted}
use Rattle.qmgr_block.proofs.starts.Starts.note_all.Given as goal

-- what is left leads to the same as all did
abbrev pub invariant-loop-member : goal.invariant-loop-member
invariant-loop-member l =
    all_noted l.self (drop l.member-index l.members) ≡ all_noted l.initial.self l.members
