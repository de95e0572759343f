use Rattle.shell_top.proofs.lives.Lives.serve.Given as goal

abbrev pub ghost-serve_command : goal.ghost-serve_command
ghost-serve_command g a = g.start
