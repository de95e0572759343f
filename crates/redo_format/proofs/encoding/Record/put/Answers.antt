use Rattle.std.proofs.Common.{rules, arith}
use Rattle.sig_core.specs.Redo.{size_of}
use Rattle.redo_format.proofs.encoding.Record.put.Goals as goal

pub returns-in-Prepare-clause-len : goal.returns-in-Prepare-clause-len
unfolding size_of
returns-in-Prepare-clause-len c = rw c.in-Prepare.is (omega arith)

pub returns-in-Commit-clause-len : goal.returns-in-Commit-clause-len
unfolding size_of
returns-in-Commit-clause-len c = rw c.in-Commit.is (omega arith)

pub returns-in-Abort-clause-len : goal.returns-in-Abort-clause-len
unfolding size_of
returns-in-Abort-clause-len c = rw c.in-Abort.is (omega arith)
