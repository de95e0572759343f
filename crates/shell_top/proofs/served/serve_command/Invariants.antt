use Rattle.shell_top.proofs.served.serve_command.Given as goal

abbrev pub ghost-serve : goal.ghost-serve
ghost-serve g a = g.start
