use Rattle.std.proofs.Common.{take}
use Rattle.std.specs.List.{flat_map}
use Rattle.sha2.specs.Hashers.{Holds256}
use Rattle.api_block.specs.Dump.{line_of}
use Rattle.api_block.proofs.dump.digest_of.Given as goal

abbrev pub invariant-loop-row : goal.invariant-loop-row
invariant-loop-row l = Holds256 l.hasher (flat_map line_of (take l.row-index l.rows))
