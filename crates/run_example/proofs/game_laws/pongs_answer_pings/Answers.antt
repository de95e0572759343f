use Rattle.run_example.proofs.Games.{pongs_answer}
use Rattle.run_example.proofs.game_laws.pongs_answer_pings.Goals as goal

pub returns : goal.returns
returns c = pongs_answer
