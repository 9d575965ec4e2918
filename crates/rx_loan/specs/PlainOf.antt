-- The plain loans and accesses of those in code.
use Rattle.rx_lower_walks.specs.PlainFlow.{plain-Root, plain-Place}
use Rattle.rx_loan.specs.Accesses as spec
use Rattle.rx_loan.specs.declared.accesses.Access.{Access}
use Rattle.rx_loan.specs.declared.accesses.Loan.{Loan}

abbrev pub plain-Access : Access → spec.Access
plain-Access a = record { deep = a.deep; write = a.write; place = record { root = plain-Root a.root; steps = a.steps.now } }

abbrev pub plain-Loan : Loan → spec.Loan
plain-Loan l = record { site = l.site; region = l.region; mutable = l.mutable; place = plain-Place l.place }
