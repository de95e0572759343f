use Rattle.lqh_views.proofs.LawLemmas.{installations_end_waits}
use Rattle.lqh_views.proofs.laws.installations_end_waits.Goals as goal

pub returns : goal.returns
returns c = installations_end_waits
