use Rattle.std.proofs.Common.{sym, subst}
use Rattle.rx_tree.specs.PlainOf.{plain-Program}
use Rattle.rx_engine_extraction.specs.declared.refusal.Fault.{Fault}
use Rattle.rx_engine_extraction.specs.Ending.{IsUnfronted}
use Rattle.rx_engine_extraction.proofs.Ends.{unfronted}
use Rattle.rx_engine_extraction.proofs.ending.fronted.Goals as goal

pub returns-in-Err-clause-fault : goal.returns-in-Err-clause-fault
returns-in-Err-clause-fault c = let p = plain-Program c.args.program.now in
    subst (λ (f : Fault). IsUnfronted p f) (sym c.of_front.ensures) (unfronted c.in-Err.fault p c.in-Err.ensures.fault)
