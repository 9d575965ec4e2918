use Rattle.std.proofs.Common.{◌≡◌, map, drop, nat_le}
use Rattle.rx_typed.specs.Types.{most_levels, shapes_of}
use Rattle.rx_typed.specs.PlainTypes.{plain-Ty}
use Rattle.rx_typeck_typed.proofs.limits.+levels.Given as goal

abbrev pub invariant-all_have_levels-loop-ty : goal.invariant-all_have_levels-loop-ty
invariant-all_have_levels-loop-ty l =
    nat_le (most_levels (shapes_of (map plain-Ty (drop l.ty-index l.parts)))) l.limit
    ≡ nat_le (most_levels (shapes_of (map plain-Ty l.fn.parts))) l.fn.limit
