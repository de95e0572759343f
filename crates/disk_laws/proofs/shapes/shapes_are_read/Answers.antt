use Rattle.disk_laws.proofs.shapes_of.Read.{shapes_read}
use Rattle.disk_laws.proofs.shapes.shapes_are_read.Goals as goal

pub returns : goal.returns
returns c = shapes_read
