use Rattle.std.proofs.Common.{append_assoc, rules}
use Rattle.shell_top.proofs.text.damaged_line.Goals as goal

pub returns : goal.returns
returns c = simp append_assoc (search rules)
