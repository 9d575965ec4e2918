use Rattle.std.proofs.Common.{◌≡◌, ◌++◌, map, drop}
use Rattle.rx_typed.specs.Regions.{region-Ty, regions_of}
use Rattle.rx_lower_walks.specs.PlainFlow.{plain-Temporary}
use Rattle.rx_region.specs.Constraints.{parameters_flow}
use Rattle.rx_region.specs.PlainContext.{plain-Given}
use Rattle.rx_region.proofs.given.Given.add_parameters.Given as goal

abbrev pub invariant-loop-ty : goal.invariant-loop-ty
invariant-loop-ty l = l.pairs ++ parameters_flow (plain-Given l.self) (regions_of (map region-Ty (drop l.ty-index l.params))) (map plain-Temporary l.left)
    ≡ l.fn.pairs ++ parameters_flow (plain-Given l.fn.self) (regions_of (map region-Ty l.fn.params)) (map plain-Temporary l.fn.operands)
