use Rattle.rx_typeck_solver.proofs.looks.+copies.Given as goal

abbrev pub decreases-copies : goal.decreases-copies
decreases-copies l = l.at
