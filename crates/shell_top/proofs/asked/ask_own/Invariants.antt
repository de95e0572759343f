use Rattle.shell_top.proofs.asked.ask_own.Given as goal

abbrev pub ghost-ask : goal.ghost-ask
ghost-ask g a = g.start

abbrev pub ghost-tick : goal.ghost-tick
ghost-tick g a = g.start
