use Rattle.std.proofs.Common.{◌≡◌, map, drop}
use Rattle.rx_typed.specs.Types.{shapes_of}
use Rattle.rx_typed.specs.PlainTypes.{plain-Ty}
use Rattle.rx_typed_declarations.specs.Sizes.{told_sum}
use Rattle.rx_typed_declarations.proofs.sizing.+parts.Given as goal

abbrev pub invariant-add_parts-loop-ty : goal.invariant-add_parts-loop-ty
invariant-add_parts-loop-ty l = told_sum l.sizes l.total (shapes_of (map plain-Ty (drop l.ty-index l.parts)))
    ≡ told_sum l.fn.sizes l.fn.number (shapes_of (map plain-Ty l.fn.parts))
