use Rattle.std.proofs.Common.{length}
use Rattle.sys_restart.specs.Held.{holds_record}
use Rattle.sys_restart.proofs.LogHeld.{IsOnTheWay}
use Rattle.sys_restart.proofs.held.are_records_held.Given as goal

-- those so far are held
abbrev pub invariant-records : goal.invariant-records
invariant-records l = IsOnTheWay (holds_record l.shape l.node) l.bytes l.rest

abbrev pub decreases-records : goal.decreases-records
decreases-records l = length l.rest
