-- The rows of the loans so far.
use Rattle.rx_graph.specs.Tables.{at}
use Rattle.rx_cert_sets.specs.Making.{IsScopeRow, AllRows}
use Rattle.rx_cert_sets.proofs.making.scope_rows.Given as goal

abbrev pub invariant-loop-loan : goal.invariant-loop-loan
invariant-loop-loan l = AllRows (IsScopeRow (at l.table.rows.items) l.sites) l.loan l.rows.items
