use Rattle.std.proofs.Common.{◌≡◌}
use Rattle.part_tests.proofs.link_queue_links.offers_all.Given as goal

abbrev pub invariant-loop-seq : goal.invariant-loop-seq
invariant-loop-seq g l = l.tx.from ≡ 1
