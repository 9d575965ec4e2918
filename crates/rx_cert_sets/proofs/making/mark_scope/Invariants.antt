-- The sites so far are added.
use Rattle.rx_graph.specs.Tables.{at}
use Rattle.rx_cert_sets.specs.Making.{Filled}
use Rattle.rx_cert_sets.proofs.making.mark_scope.Given as goal

abbrev pub invariant-loop-site : goal.invariant-loop-site
invariant-loop-site l = Filled (λ p. at l.table.rows.items l.loan p) 0 l.site l.fn.row l.row
