use Rattle.std.proofs.Common.{◌≡◌, take}
use Rattle.sig_core.proofs.key.KeyPartialEq.eq.Given as goal

-- the bytes that were gone through are the same
abbrev pub invariant-loop-at : goal.invariant-loop-at
invariant-loop-at l = take l.at l.self-inside.bytes ≡ take l.at l.other-inside.bytes
