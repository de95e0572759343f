use Rattle.std.proofs.Common.{◌≡◌, drop}
use Rattle.api_block.specs.Members.{least_from}
use Rattle.api_block.proofs.members.least_from.Given as goal

-- the least so far and those that are left have the least of all
abbrev pub invariant-loop-member : goal.invariant-loop-member
invariant-loop-member l = least_from l.least (drop l.member-index l.members) ≡ least_from l.node l.members
