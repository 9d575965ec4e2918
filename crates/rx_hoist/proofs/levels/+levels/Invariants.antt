use Rattle.std.proofs.Common.{◌≡◌, drop, map, max}
use Rattle.rx_typed.specs.PlainTypes.{plain-Ty}
use Rattle.rx_typed.specs.Types.{most_levels, shapes_of}
use Rattle.rx_hoist_made.specs.Counts.{capped}
use Rattle.rx_hoist.proofs.levels.+levels.Given as goal

abbrev pub invariant-most_levels-loop-ty : goal.invariant-most_levels-loop-ty
invariant-most_levels-loop-ty l =
    max l.most (capped (most_levels (shapes_of (map plain-Ty (drop l.ty-index l.parts))))) ≡ max l.fn.number (capped (most_levels (shapes_of (map plain-Ty l.fn.parts))))
