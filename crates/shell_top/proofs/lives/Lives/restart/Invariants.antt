use Rattle.shell_top.specs.Lives.{now_of, start_in}
use Rattle.shell_top.proofs.lives.Lives.restart.Given as goal

abbrev pub ghost-serve : goal.ghost-serve
ghost-serve g a = start_in a.self.now.shape (now_of a.self.now)
