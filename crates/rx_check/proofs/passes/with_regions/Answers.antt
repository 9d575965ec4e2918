use Rattle.std.proofs.Common.{subst, sym}
use Rattle.rx_check.specs.Causes.{BorrowCauses}
use Rattle.rx_check.proofs.PassLemmas.{conflicting}
use Rattle.rx_check.proofs.passes.with_regions.Goals as goal

pub returns-in-Err-clause-fault : goal.returns-in-Err-clause-fault
returns-in-Err-clause-fault c = subst (λ e. BorrowCauses e c.args.typed.now) (sym c.of_loans.ensures)
    (conflicting c.args.typed.now c.args.regions c.in-Err.fault c.requires.regions c.in-Err.ensures)
