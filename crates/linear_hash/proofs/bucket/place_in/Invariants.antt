use Rattle.std.proofs.Common.{◌≡◌, drop}
use Rattle.linear_hash.specs.Entries.{place_in}
use Rattle.linear_hash.proofs.bucket.place_in.Given as goal

-- what is left tells the answer
abbrev pub invariant-loop-entry : goal.invariant-loop-entry
invariant-loop-entry l = place_in l.key.key (drop l.entry-index l.entries) ≡ place_in l.key.key l.entries
