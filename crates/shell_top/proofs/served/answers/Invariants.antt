use Rattle.shell_top.proofs.served.answers.Given as goal

abbrev pub ghost-take_replies : goal.ghost-take_replies
ghost-take_replies g a = g.start
