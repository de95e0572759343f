use Rattle.disk_laws.proofs.shapes_of.Kept.{shapes_kept}
use Rattle.disk_laws.proofs.shapes.shapes_are_kept.Goals as goal

pub returns : goal.returns
returns c = shapes_kept
