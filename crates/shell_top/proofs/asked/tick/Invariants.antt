use Rattle.shell_top.proofs.asked.tick.Given as goal

abbrev pub ghost-ask : goal.ghost-ask
ghost-ask g a = g.start

abbrev pub ghost-further_rounds : goal.ghost-further_rounds
ghost-further_rounds g a = g.start
