use Rattle.std.proofs.Common.{rules}
use Rattle.life_start.proofs.BeginLemmas.{below_last}
use Rattle.life_start.proofs.begin.epoch_of.Goals as goal

pub returns-clause-more : goal.returns-clause-more
returns-clause-more c = below_last c.args.restored.now (search rules) c.requires
