use Rattle.std.proofs.Common.{◌≡◌, ◌++◌, drop}
use Rattle.shell_top.specs.TraceText.{entry_lines}
use Rattle.shell_top.proofs.trace_text.history_text.Given as goal

-- the text so far and the lines of the entries that are left are the lines of all
abbrev pub invariant-loop-entry : goal.invariant-loop-entry
invariant-loop-entry l = record {
  left : l.text.items ++ entry_lines (drop l.entry-index l.entries) ≡ entry_lines l.entries;
}
