use Rattle.std.proofs.Common.{arith}
use Rattle.redo_format.proofs.RecordLaws.{found_lent}
use Rattle.redo_format.proofs.decoding.decode_lent.Goals as goal

pub returns-clause-found : goal.returns-clause-found
returns-clause-found c =
    found_lent c.args.bytes.now c.read_lent.result (λ i. omega (arith, c.type_inv.bytes i)) c.read_lent.ensures
