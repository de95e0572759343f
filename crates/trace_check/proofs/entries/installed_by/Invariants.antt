use Rattle.std.proofs.Common.{◌≡◌, drop}
use Rattle.world_core.specs.Entries.{installed_in}
use Rattle.trace_check.proofs.entries.installed_by.Given as goal

-- the marks that are left tell the answer
abbrev pub invariant-loop-mark : goal.invariant-loop-mark
invariant-loop-mark l = installed_in (drop l.mark-index l.marks) l.view ≡ installed_in l.marks l.before
