use Rattle.view_laws.proofs.runs.ViewsShrink.{views_shrink}
use Rattle.view_laws.proofs.standing_laws.views_only_shrink.Goals as goal

-- src/standing_laws.rt:25:1
pub returns : goal.returns
returns c = views_shrink
