use Rattle.link_queue.proofs.link.make.Given as goal

abbrev pub ghosts-taker_of : goal.ghosts-taker_of
ghosts-taker_of a = record { from = a.from; to = a.to }
