use Rattle.std.proofs.Common.{◌≡◌, ◌++◌, drop, map}
use Rattle.api_block.specs.Dump.{row_reply}
use Rattle.api_block.proofs.dump.row_replies.Given as goal

-- what is said so far and what is left are all
abbrev pub invariant-loop-row : goal.invariant-loop-row
invariant-loop-row l = l.replies.items ++ map row_reply (drop l.row-index l.rows) ≡ map row_reply l.rows
