use Rattle.disk_world.proofs.TakenLemmas.{now_of}
use Rattle.disk_world.proofs.disk_world.DiskWorld.keep_on_disk.Given as goal

-- the signal that was taken
abbrev pub ghost-keep_at : goal.ghost-keep_at
ghost-keep_at g a = now_of a.taken
