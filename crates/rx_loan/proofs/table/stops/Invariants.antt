use Rattle.std.proofs.Common.{map}
use Rattle.rx_lower_walks.specs.PlainFlow.{plain-Place}
use Rattle.rx_lower_walks.specs.PlainSite.{plain-Site}
use Rattle.rx_loan.proofs.Scoping.{Stopping}
use Rattle.rx_loan.proofs.table.stops.Given as goal

abbrev pub invariant-sites : goal.invariant-sites
invariant-sites l = Stopping (map plain-Site l.sites) (plain-Place l.place) l.row l.k
