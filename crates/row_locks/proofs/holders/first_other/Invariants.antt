use Rattle.std.proofs.Common.{◌≡◌, drop}
use Rattle.row_locks.specs.Holders.{first_other}
use Rattle.row_locks.proofs.holders.first_other.Given as goal

-- what is left tells the answer
abbrev pub invariant-loop-holder : goal.invariant-loop-holder
invariant-loop-holder l = first_other l.tx (drop l.holder-index l.holders) ≡ first_other l.tx l.holders
