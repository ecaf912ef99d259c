use Rattle.aio_listener.proofs.accepting.+accept_most.Given as goal

abbrev pub decreases-accept_most : goal.decreases-accept_most
decreases-accept_most g l = l.more
