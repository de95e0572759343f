use Rattle.std.proofs.Common.{◌≡◌, ◌-◌, length}
use Rattle.trace_bytes.specs.Lists.{more_at}
use Rattle.trace_bytes.specs.Words.{member_at, members_at}
use Rattle.trace_read.proofs.input.Input.members.Given as goal

-- the members that are read and those that are left are all of them
abbrev pub invariant-members : goal.invariant-members
invariant-members l =
    (more_at member_at l.members (l.count - l.counter) l.self ≡ members_at l.fn.self) × (length l.members ≡ l.counter)
