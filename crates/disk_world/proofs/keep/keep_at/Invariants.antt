use Rattle.disk_world.proofs.keep.keep_at.Given as goal

abbrev pub ghost-keep : goal.ghost-keep
ghost-keep g a = g.last
