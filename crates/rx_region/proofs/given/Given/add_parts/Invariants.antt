use Rattle.std.proofs.Common.{◌≡◌, ◌++◌, map, drop}
use Rattle.rx_lower_walks.specs.PlainFlow.{plain-Temporary}
use Rattle.rx_typed.specs.Renaming.{all_renamed, argument}
use Rattle.rx_region.specs.Constraints.{parts_flow}
use Rattle.rx_region.specs.PlainContext.{plain-Given}
use Rattle.rx_region.specs.Steps.{regions_in}
use Rattle.rx_region.proofs.given.Given.add_parts.Given as goal

abbrev pub invariant-loop-number : goal.invariant-loop-number
invariant-loop-number l = l.pairs ++ parts_flow (plain-Given l.self) (all_renamed (argument l.arguments) (regions_in l.parts)) (drop l.number-index l.numbers) (map plain-Temporary l.left)
    ≡ l.fn.pairs ++ parts_flow (plain-Given l.fn.self) (all_renamed (argument l.fn.arguments) (regions_in l.fn.parts)) l.fn.numbers (map plain-Temporary l.fn.operands)
