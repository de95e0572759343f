use Rattle.std.proofs.Common.{◌≡◌, ◌++◌, drop}
use Rattle.linear_hash.specs.Entries.{part_of}
use Rattle.linear_hash.proofs.bucket.part_of.Given as goal

-- those that were kept and those that are left to keep are all
abbrev pub invariant-loop-entry : goal.invariant-loop-entry
invariant-loop-entry l =
    l.part.items ++ part_of l.growth l.bucket (drop l.entry-index l.entries) ≡ part_of l.growth l.bucket l.entries
