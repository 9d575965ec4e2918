-- The row of the next loan is there.
use Rattle.std.proofs.Common.{refl}
use Rattle.rx_graph.specs.Tables.{at}
use Rattle.rx_cert_sets.specs.Making.{IsScopeRow}
use Rattle.rx_cert_sets.proofs.Filled.{rows_more}
use Rattle.rx_cert_sets.proofs.making.scope_rows.Goals as goal

pub loop-loan-preserved : goal.loop-loan-preserved
loop-loan-preserved c =
    rows_more (IsScopeRow (at c.args.table.now.rows.items) c.args.sites) c.loop-loan.loan _ c.loop-loan.rows.items c.push.new.self.items c.in_ok-scope_row.field-0 refl
    c.in_ok-scope_row.ensures c.in_ok-push.ensures.items c.loop-loan.invariant
