use Rattle.std.proofs.Common.{◌≡◌, ◌++◌, drop}
use Rattle.std.specs.Prelude.{filter, map}
use Rattle.shell_top.specs.Arranged.{is_others, late}
use Rattle.shell_top.proofs.arranged.others.Given as goal

-- those so far and those that are left are all
abbrev pub invariant-loop-reply : goal.invariant-loop-reply
invariant-loop-reply l = record {
  left : l.others.items ++ map late (filter (is_others l.asked) (drop l.reply-index l.replies))
      ≡ map late (filter (is_others l.asked) l.replies);
}
