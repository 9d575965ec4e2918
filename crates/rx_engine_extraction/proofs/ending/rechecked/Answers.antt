use Rattle.std.proofs.Common.{sym, subst}
use Rattle.rx_tree.specs.PlainOf.{plain-Program}
use Rattle.rx_engine_extraction.specs.declared.refusal.Fault.{Fault}
use Rattle.rx_engine_extraction.specs.Ending.{IsUnchecked}
use Rattle.rx_engine_extraction.proofs.Ends.{unchecked}
use Rattle.rx_engine_extraction.proofs.ending.rechecked.Goals as goal

pub returns-in-Ok-clause-accepted : goal.returns-in-Ok-clause-accepted
returns-in-Ok-clause-accepted c = let is = c.in-Ok.ensures.checked in (c.in-Ok.checked.front.typed, record { front = is.front.accepted; borrows = is.borrows })

pub returns-in-Err-clause-fault : goal.returns-in-Err-clause-fault
returns-in-Err-clause-fault c = let p = plain-Program c.args.program.now in
    subst (λ (f : Fault). IsUnchecked p f) (sym c.of_check.ensures) (unchecked c.in-Err.fault p c.in-Err.ensures.fault)
