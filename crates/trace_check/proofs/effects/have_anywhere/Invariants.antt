use Rattle.std.proofs.Common.{◌≡◌, false}
use Rattle.world_core.specs.Marks.{have_mark}
use Rattle.world_core.specs.World.{logs_at}
use Rattle.trace_check.specs.Histories.{is_sign}
use Rattle.trace_check.proofs.effects.have_anywhere.Given as goal

-- no host so far has it
abbrev pub invariant-loop-host : goal.invariant-loop-host
invariant-loop-host l = have_mark (is_sign l.writes l.tx) l.host (logs_at l.logs) ≡ false
