use Rattle.std.proofs.Common.{drop, arith}
use Rattle.host_io.proofs.FileLemmas.{range_put}
use Rattle.host_io.proofs.mem_file.spoil_range.Goals as goal

pub returns-clause-bytes : goal.returns-clause-bytes
returns-clause-bytes c =
    range_put
    c.args.from
    c.args.to
    _
    c.args.bytes.now
    c.spoil.new.bytes
    (drop c.args.used c.args.picks.now)
    c.requires.range.0
    (grind (arith, c.requires.range))
    c.spoil.ensures.bytes
