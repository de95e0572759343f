use Rattle.std.proofs.Common.{◌≡◌, ◌++◌, drop}
use Rattle.shell_top.specs.Text.{reply_lines}
use Rattle.shell_top.proofs.served.lines.Given as goal

-- the text so far and the lines of the replies that are left are the lines of all
abbrev pub invariant-loop-reply : goal.invariant-loop-reply
invariant-loop-reply l = record {
  left : l.text.items ++ reply_lines (drop l.reply-index l.replies) ≡ reply_lines l.replies;
}
