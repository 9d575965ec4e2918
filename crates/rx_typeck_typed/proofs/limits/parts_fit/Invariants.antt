use Rattle.std.proofs.Common.{◌≡◌, map, drop}
use Rattle.rx_typed.specs.PlainTypes.{plain-Ty}
use Rattle.rx_typeck_typed.specs.Limits.{parts_fit}
use Rattle.rx_typeck_typed.proofs.limits.parts_fit.Given as goal

abbrev pub invariant-loop-ty : goal.invariant-loop-ty
invariant-loop-ty l = parts_fit (map plain-Ty (drop l.ty-index l.parts)) ≡ parts_fit (map plain-Ty l.fn.parts)
