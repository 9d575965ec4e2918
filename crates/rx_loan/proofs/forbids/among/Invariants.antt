use Rattle.rx_loan.specs.Accesses.{conflicts}
use Rattle.rx_loan.specs.PlainOf.{plain-Access}
use Rattle.rx_loan.proofs.Forbidding.{NoneBefore}
use Rattle.rx_loan.proofs.forbids.among.Given as goal

abbrev pub invariant-loans : goal.invariant-loans
invariant-loans l = NoneBefore l.table (conflicts (plain-Access l.access)) l.site l.k
