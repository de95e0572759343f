use Rattle.std.proofs.Common.{length}
use Rattle.redo_log.proofs.ReplayLemmas.{IsOnTheWay}
use Rattle.redo_log.proofs.replaying.replay_bytes.Given as goal

-- some records were replayed, and the rest is left
abbrev pub invariant-records : goal.invariant-records
invariant-records l = IsOnTheWay l.epoch l.fn.rows l.bytes l.rows l.prepared l.rest

abbrev pub decreases-records : goal.decreases-records
decreases-records l = length l.rest
