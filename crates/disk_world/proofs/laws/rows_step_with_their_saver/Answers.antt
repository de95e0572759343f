use Rattle.disk_world.proofs.TodoLemmas as todo
use Rattle.disk_world.proofs.laws.rows_step_with_their_saver.Goals as goal

pub returns : goal.returns
returns c = todo.rows_step_with_their_saver
