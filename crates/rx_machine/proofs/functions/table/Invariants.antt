use Rattle.std.proofs.Common.{◌≡◌, ◌++◌, drop}
use Rattle.rx_typed.specs.PlainTypes.{declarations}
use Rattle.rx_machine_driver.specs.Fitting.{functions_of}
use Rattle.rx_machine.specs.Functions.{typed_functions}
use Rattle.rx_machine.proofs.functions.table.Given as goal

abbrev pub invariant-loop-decl : goal.invariant-loop-decl
invariant-loop-decl l =
    functions_of l.all.items ++ typed_functions (declarations (drop l.decl-index l.decls)) (drop l.at l.fn.functions) ≡ typed_functions (declarations l.fn.decls) l.fn.functions
