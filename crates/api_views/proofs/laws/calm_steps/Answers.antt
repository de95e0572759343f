use Rattle.api_views.proofs.CalmLemmas.{calm, calm_shows, calm_tick}
use Rattle.api_views.proofs.laws.calm_steps.Goals as goal

pub returns : goal.returns
returns c = record { steps = calm; ticks = calm_tick; shows = calm_shows }
