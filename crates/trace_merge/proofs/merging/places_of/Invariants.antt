use Rattle.std.proofs.Common.{◌≡◌, ◌≤◌, ◌++◌, drop, length, map}
use Rattle.std.specs.Vec.{vec_capacity}
use Rattle.trace_merge.specs.Merge.{place_of}
use Rattle.trace_merge.proofs.merging.places_of.Given as goal

-- those so far and those that are left are all, and there is room
abbrev pub invariant-loop-at : goal.invariant-loop-at
invariant-loop-at l = record {
  left : l.places.items ++ map place_of (drop l.at-index l.stamped) ≡ map place_of l.stamped;
  count : length l.places.items ≡ l.at-index;
  room : length l.stamped ≤ vec_capacity l.places;
}
