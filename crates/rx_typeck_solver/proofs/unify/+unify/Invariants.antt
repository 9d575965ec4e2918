use Rattle.rx_typeck_solver.proofs.unify.+unify.Given as goal

abbrev pub decreases-unify : goal.decreases-unify
decreases-unify l = l.a
