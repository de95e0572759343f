use Rattle.std.proofs.Common.{◌≡◌, drop}
use Rattle.row_locks.specs.Holders.{holds_enough}
use Rattle.row_locks.proofs.holders.holds_enough.Given as goal

-- what is left tells the answer
abbrev pub invariant-loop-holder : goal.invariant-loop-holder
invariant-loop-holder l =
    holds_enough l.tx l.asked (drop l.holder-index l.holders) ≡ holds_enough l.tx l.asked l.holders
