use Rattle.rx_typeck_typed.proofs.ProgramLemmas.{wrong_at}
use Rattle.rx_typeck_typed.proofs.program.declare.Goals as goal

pub returns-in-Ok-clause-fault : goal.returns-in-Ok-clause-fault
returns-in-Ok-clause-fault c =
    wrong_at c.as_slice-items.result.now c.args.program.now.items c.args.names.now.items c.in-Ok.decls
    c.fitting.result c.as_slice-items.ensures
    c.in-Ok.ensures c.fitting.ensures.fault
