use Rattle.std.proofs.Common.{◌≡◌, map, drop}
use Rattle.rx_tree.specs.PlainOf.{plain-Param}
use Rattle.rx_typeck_typed.specs.Items.{parameters_of}
use Rattle.rx_typeck_typed.specs.Readers.{reading, program}
use Rattle.rx_typeck_typed.proofs.ReadingLemmas.{before}
use Rattle.rx_typeck_typed.proofs.declare_types.Types.parameters.Given as goal

abbrev pub invariant-loop-param : goal.invariant-loop-param
invariant-loop-param l =
    before l.all (parameters_of (program l.self) (map plain-Param (drop l.param-index l.params)) (reading l.reader))
    ≡ parameters_of (program l.fn.self) (map plain-Param l.fn.params) (reading l.fn.reader)
