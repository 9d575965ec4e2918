use Rattle.std.proofs.Common.{◌≡◌, map, take}
use Rattle.rx_loan.specs.declared.accesses.Loan.{Loan}
use Rattle.rx_cert.proofs.fitting.sites_of.Given as goal

abbrev pub invariant-loans : goal.invariant-loans
invariant-loans l = l.sites ≡ map (λ (x : Loan). x.site) (take l.k l.loans)
