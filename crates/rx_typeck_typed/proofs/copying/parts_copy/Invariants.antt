use Rattle.std.proofs.Common.{◌≡◌, map, drop}
use Rattle.rx_typed.specs.PlainTypes.{declarations, plain-Ty}
use Rattle.rx_typeck_typed.specs.Programs.{parts_copy}
use Rattle.rx_typeck_typed.proofs.copying.parts_copy.Given as goal

abbrev pub invariant-loop-ty : goal.invariant-loop-ty
invariant-loop-ty l = parts_copy (declarations l.decls.items) (map plain-Ty (drop l.ty-index l.parts))
    ≡ parts_copy (declarations l.fn.decls.items) (map plain-Ty l.fn.parts)
