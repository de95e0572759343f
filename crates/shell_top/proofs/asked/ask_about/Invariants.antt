use Rattle.shell_top.proofs.asked.ask_about.Given as goal

abbrev pub ghost-ask_questions : goal.ghost-ask_questions
ghost-ask_questions g a = g.start
