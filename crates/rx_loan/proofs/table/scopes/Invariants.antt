use Rattle.std.proofs.Common.{map}
use Rattle.rx_graph.specs.Tables.{at}
use Rattle.rx_lower_walks.specs.PlainSite.{plain-Site}
use Rattle.rx_loan.specs.PlainOf.{plain-Loan}
use Rattle.rx_loan.specs.Tables.{AllScoped}
use Rattle.rx_loan.proofs.table.scopes.Given as goal

abbrev pub invariant-loans : goal.invariant-loans
invariant-loans l = AllScoped (map plain-Site l.sites) (at l.regions) (map plain-Loan l.loans) l.rows.items l.k
