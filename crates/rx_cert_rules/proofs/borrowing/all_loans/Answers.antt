use Rattle.std.proofs.Common.{map}
use Rattle.rx_loan.specs.PlainOf.{plain-Loan}
use Rattle.rx_loan.proofs.Listing.{no_site_left, no_own_left}
use Rattle.rx_cert_rules.proofs.borrowing.all_loans.Goals as goal

pub returns-in-None : goal.returns-in-None
returns-in-None c = no_own_left c.args.sites.now c.args.owned.now c.sites.k (map plain-Loan c.sites.loans) c.in-None.ensures.lookup.3 c.sites.invariant

pub returns : goal.returns
returns c = no_site_left c.args.sites.now c.args.owned.now c.sites.k (map plain-Loan c.sites.loans) c.sites-test.false c.sites.invariant
