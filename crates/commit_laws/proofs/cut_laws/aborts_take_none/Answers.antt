use Rattle.commit_laws.proofs.led.CutLaws.{aborts_effectless}
use Rattle.commit_laws.proofs.cut_laws.aborts_take_none.Goals as goal

pub returns : goal.returns
returns c = aborts_effectless
