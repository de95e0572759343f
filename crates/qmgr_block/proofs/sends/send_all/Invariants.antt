use Rattle.std.proofs.Common.{◌≡◌, ◌++◌}
use Rattle.qmgr_block.proofs.sends.send_all.Given as goal

-- those so far were sent
abbrev pub invariant-loop-send : goal.invariant-loop-send
invariant-loop-send l = record {
  sends : l.out.sends ≡ l.initial.out.sends ++ l.yielded;
  marks : l.out.marks ≡ l.initial.out.marks;
}
