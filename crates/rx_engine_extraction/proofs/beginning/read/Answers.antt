use Rattle.std.proofs.Common.{sym, subst}
use Rattle.rx_engine_extraction.specs.declared.refusal.Fault.{Fault}
use Rattle.rx_engine_extraction.specs.Beginning.{IsUnreadable}
use Rattle.rx_engine_extraction.proofs.Starting.{unreadable}
use Rattle.rx_engine_extraction.proofs.beginning.read.Goals as goal

pub returns-in-Err-clause-fault : goal.returns-in-Err-clause-fault
returns-in-Err-clause-fault c =
    subst (λ (f : Fault). IsUnreadable c.args.text.now f) (sym c.of_syntax.ensures) (unreadable c.in-Err.fault c.args.text.now c.in-Err.ensures.fault)
