use Rattle.std.proofs.Common.{◌≡◌, [], drop}
use Rattle.shell_top.specs.Arranged.{by_rank}
use Rattle.shell_top.proofs.arranged.by_rank.Given as goal

-- what is left leads to the same as all did
abbrev pub invariant-loop-reply : goal.invariant-loop-reply
invariant-loop-reply l = record {
  left : by_rank l.ordered.items (drop l.reply-index l.replies) ≡ by_rank [] l.replies;
}
