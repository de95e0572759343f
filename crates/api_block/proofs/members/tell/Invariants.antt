use Rattle.std.proofs.Common.{◌≡◌, ◌≤◌, ◌+◌, ◌++◌, length, drop}
use Rattle.api_block.specs.Members.{telling_all}
use Rattle.api_block.proofs.members.tell.Given as goal

-- what was sent and what is left are all that is to be sent
abbrev pub invariant-loop-member : goal.invariant-loop-member
invariant-loop-member l = record {
  left : l.out.sends ++ telling_all l.news (drop l.member-index l.members)
      ≡ l.initial.out.sends ++ telling_all l.news l.members;
  marks : l.out.marks ≡ l.initial.out.marks;
  few : length l.out.sends ≤ length l.initial.out.sends + l.member-index;
}
