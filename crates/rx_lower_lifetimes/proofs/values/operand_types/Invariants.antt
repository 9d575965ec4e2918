use Rattle.std.proofs.Common.{◌≡◌, ◌++◌, map, drop}
use Rattle.rx_typed.specs.Regions.{region-Ty}
use Rattle.rx_lower_walks.specs.PlainFlow.{plain-Temporary}
use Rattle.rx_lower_lifetimes.specs.Values.{held_type}
use Rattle.rx_lower_lifetimes.specs.PlainOf.{plain-Held}
use Rattle.rx_lower_lifetimes.proofs.values.operand_types.Given as goal

abbrev pub invariant-loop-operand : goal.invariant-loop-operand
invariant-loop-operand l =
    map region-Ty l.all ++ map (held_type (map plain-Held l.held)) (map plain-Temporary (drop l.operand-index l.operands))
    ≡ map (held_type (map plain-Held l.fn.held)) (map plain-Temporary l.fn.operands)
