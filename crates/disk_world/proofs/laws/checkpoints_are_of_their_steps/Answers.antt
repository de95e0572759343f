use Rattle.disk_world.proofs.TodoLemmas as todo
use Rattle.disk_world.proofs.laws.checkpoints_are_of_their_steps.Goals as goal

pub returns : goal.returns
returns c = todo.checkpoints_are_of_their_steps
