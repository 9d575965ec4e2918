-- The next site is added, if the loan is in scope there.
use Rattle.rx_graph.specs.Tables.{at}
use Rattle.rx_cert_sets.proofs.Filled.{filled_next}
use Rattle.rx_cert_sets.proofs.making.mark_scope.Goals as goal

pub loop-site-preserved : goal.loop-site-preserved
loop-site-preserved c =
    filled_next (λ p. at c.args.table.now.rows.items c.args.loan p) c.loop-site.site c.args.row.now c.loop-site.row c.mark.new.row c.in_scope.result c.in_scope.ensures.held
    c.loop-site.invariant c.mark.ensures
