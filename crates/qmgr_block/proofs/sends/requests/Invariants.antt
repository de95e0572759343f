use Rattle.std.proofs.Common.{◌≡◌, ◌++◌, drop, map}
use Rattle.qmgr_block.specs.Propose.{request_of}
use Rattle.qmgr_block.proofs.sends.requests.Given as goal

-- those so far and those that are left are all
abbrev pub invariant-loop-member : goal.invariant-loop-member
invariant-loop-member l =
    l.sends.items ++ map (request_of l.view) (drop l.member-index l.member-items)
    ≡ map (request_of l.view) l.member-items
