use Rattle.commit_laws.proofs.led.CutLaws.{records_alike}
use Rattle.commit_laws.proofs.cut_laws.records_agree.Goals as goal

pub returns : goal.returns
returns c = records_alike
