use Rattle.std.proofs.Common.{map}
use Rattle.rx_loan.specs.PlainOf.{plain-Loan}
use Rattle.rx_loan.proofs.Listing.{Listing}
use Rattle.rx_cert_rules.proofs.borrowing.all_loans.Given as goal

abbrev pub invariant-sites : goal.invariant-sites
invariant-sites l = Listing l.sites l.owned l.k (map plain-Loan l.loans)
