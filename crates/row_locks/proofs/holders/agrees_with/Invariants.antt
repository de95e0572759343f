use Rattle.std.proofs.Common.{◌≡◌, drop}
use Rattle.row_locks.specs.Holders.{agrees_with}
use Rattle.row_locks.proofs.holders.agrees_with.Given as goal

-- what is left tells the answer
abbrev pub invariant-loop-holder : goal.invariant-loop-holder
invariant-loop-holder l = agrees_with l.tx l.mode (drop l.holder-index l.holders) ≡ agrees_with l.tx l.mode l.holders
