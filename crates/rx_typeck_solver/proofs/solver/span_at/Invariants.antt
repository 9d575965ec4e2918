use Rattle.std.proofs.Common.{drop}
use Rattle.rx_core.specs.declared.types.Span.{Span}
use Rattle.rx_typeck_solver.specs.Valid.{Asked}
use Rattle.rx_typeck_solver.proofs.solver.span_at.Given as goal

abbrev pub invariant-loop-demand : goal.invariant-loop-demand
invariant-loop-demand l = (s : Span) → Asked l.fn.demands l.node s → Asked (drop l.demand-index l.demands) l.node s
