use Rattle.std.proofs.Common.{subst, sym}
use Rattle.rx_check.specs.Causes.{TypedCauses}
use Rattle.rx_check.proofs.PassLemmas.{unstarted}
use Rattle.rx_check.proofs.passes.with_graphs.Goals as goal

pub returns-in-Err-clause-fault : goal.returns-in-Err-clause-fault
returns-in-Err-clause-fault c = subst (λ e. TypedCauses e c.args.typed.now) (sym c.of_init.ensures)
    (unstarted c.args.typed.now c.args.graphs c.in-Err.fault c.requires.covered c.requires.graphs c.in-Err.ensures)
