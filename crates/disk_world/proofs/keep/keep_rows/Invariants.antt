use Rattle.disk_world.proofs.keep.keep_rows.Given as goal

abbrev pub ghost-todo_in : goal.ghost-todo_in
ghost-todo_in g a = g.last
