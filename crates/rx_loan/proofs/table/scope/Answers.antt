use Rattle.std.proofs.Common.{map, length, refl}
use Rattle.std.proofs.lemmas.Option.{slice_get_read}
use Rattle.rx_graph.specs.Tables.{at}
use Rattle.rx_facts_tables.specs.Along.{edges_of}
use Rattle.rx_lower_walks.specs.PlainSite.{plain-Site}
use Rattle.rx_loan.specs.PlainOf.{plain-Loan}
use Rattle.rx_loan.proofs.Scoping.{scoped, never, row_there}
use Rattle.rx_loan.proofs.table.scope.Goals as goal

pub returns-in-Some : goal.returns-in-Some
returns-in-Some c = scoped (map plain-Site c.args.sites.now) (at c.args.regions.now) (plain-Loan c.args.loan.now) (edges_of (map plain-Site c.args.sites.now)) c.in-Some.inside.now c.in_ok-stops.stops
    c.in_ok-row-in-Some.row refl
    (row_there c.args.regions.now c.args.loan.now.region c.in-Some.inside.now
    (slice_get_read c.args.regions.now (length c.args.regions.now) c.args.loan.now.region c.in-Some.inside.now refl c.in-Some.ensures.lookup.3.0 c.in-Some.ensures.lookup.1))
    c.in_ok-stops.ensures c.in_ok-row-in-Some.ensures

pub returns : goal.returns
returns c = never (map plain-Site c.args.sites.now) c.args.regions.now (plain-Loan c.args.loan.now) c.in_ok-row-in-None.row c.in-None.ensures.lookup.3 c.in_ok-row-in-None.ensures.empty
