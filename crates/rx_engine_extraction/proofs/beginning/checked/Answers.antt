use Rattle.std.proofs.Common.{sym, subst}
use Rattle.rx_tree.specs.PlainOf.{plain-Program}
use Rattle.rx_engine_extraction.specs.declared.refusal.Fault.{Fault}
use Rattle.rx_engine_extraction.specs.Beginning.{IsUnaccepted}
use Rattle.rx_engine_extraction.proofs.Starting.{unaccepted}
use Rattle.rx_engine_extraction.proofs.beginning.checked.Goals as goal

pub returns-in-Err-clause-fault : goal.returns-in-Err-clause-fault
returns-in-Err-clause-fault c = let p = plain-Program c.args.program.now in
    subst (λ (f : Fault). IsUnaccepted p f) (sym c.not_accepted.ensures) (unaccepted c.in-Err.fault p c.in-Err.ensures.fault)
