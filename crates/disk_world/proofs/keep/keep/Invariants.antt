use Rattle.disk_world.proofs.keep.keep.Given as goal

abbrev pub ghost-keep_rows : goal.ghost-keep_rows
ghost-keep_rows g a = g.last
