use Rattle.std.proofs.Common.{◌≡◌, drop}
use Rattle.row_locks.specs.Holders.{holds}
use Rattle.row_locks.proofs.holders.holds.Given as goal

-- what is left tells the answer
abbrev pub invariant-loop-holder : goal.invariant-loop-holder
invariant-loop-holder l = holds l.tx (drop l.holder-index l.holders) ≡ holds l.tx l.holders
