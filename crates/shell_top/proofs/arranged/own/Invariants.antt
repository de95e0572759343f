use Rattle.std.proofs.Common.{◌≡◌, ◌++◌, drop}
use Rattle.std.specs.Prelude.{filter}
use Rattle.shell_top.specs.Subject.{is_own}
use Rattle.shell_top.proofs.arranged.own.Given as goal

-- those so far and those that are left are all
abbrev pub invariant-loop-reply : goal.invariant-loop-reply
invariant-loop-reply l = record {
  left : l.own.items ++ filter (is_own l.asked) (drop l.reply-index l.replies) ≡ filter (is_own l.asked) l.replies;
}
