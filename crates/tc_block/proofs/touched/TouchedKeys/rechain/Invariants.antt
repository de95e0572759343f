use Rattle.std.proofs.Common.{◌≡◌, ◌++◌, length, map, take, drop}
use Rattle.tc_block.specs.Resume.{rechained}
use Rattle.tc_block.proofs.touched.TouchedKeys.rechain.Given as goal

-- what was passed, and what is left after its change, are the whole after its change
abbrev pub invariant-loop-t : goal.invariant-loop-t
invariant-loop-t l = record {
  whole : take l.t-index l.t-items ++ map (rechained l.layout) (drop l.t-index l.t-items)
      ≡ map (rechained l.layout) l.initial.t-items;
  len : length l.t-items ≡ length l.initial.t-items;
}
