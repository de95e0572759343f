use Rattle.std.proofs.Common.{ap, ◌∙◌, arith}
use Rattle.redo_format.specs.Decoding.{decoded}
use Rattle.redo_format.proofs.RecordLaws.{decodes, found}
use Rattle.redo_format.proofs.decoding.decode.Goals as goal

pub returns-clause-found : goal.returns-clause-found
returns-clause-found c = found c.args.bytes.now c.read.result (λ i. omega (arith, c.type_inv.bytes i)) c.read.ensures

pub returns-clause-any : goal.returns-clause-any
returns-clause-any c = λ redo rest is e. c.read.ensures ∙ ap decoded e ∙ decodes redo rest is
