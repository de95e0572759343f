use Rattle.shell_top.proofs.asked.ask_questions.Given as goal

abbrev pub ghost-ask : goal.ghost-ask
ghost-ask g a = g.start
