use Rattle.shell_top.proofs.served.serve.Given as goal

abbrev pub ghost-ask_own : goal.ghost-ask_own
ghost-ask_own g a = g.start

abbrev pub ghost-ask_about : goal.ghost-ask_about
ghost-ask_about g a = g.start

abbrev pub ghost-answers : goal.ghost-answers
ghost-answers g a = g.start
