-- The lines so far fit.
use Rattle.rx_cert_tables.proofs.Placed.{FitBefore}
use Rattle.rx_cert_tables.proofs.fitting.misfit.Given as goal

abbrev pub invariant-loop-at : goal.invariant-loop-at
invariant-loop-at l = FitBefore l.shape l.lines l.at
