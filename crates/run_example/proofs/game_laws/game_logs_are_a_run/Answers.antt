use Rattle.run_example.specs.Game.{game_tests}
use Rattle.run_example.proofs.Games.{game_stamped}
use Rattle.run_example.proofs.game_laws.game_logs_are_a_run.Goals as goal

pub returns : goal.returns
returns c = λ made n logs within a. (c.right_logs_are_a_run.ensures.merged (game_tests made) (game_stamped made) n logs
    within a).0
