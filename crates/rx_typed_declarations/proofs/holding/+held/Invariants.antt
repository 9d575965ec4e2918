use Rattle.std.proofs.Common.{◌≡◌, ◌++◌, map, drop}
use Rattle.rx_typed.specs.Types.{shapes_of}
use Rattle.rx_typed.specs.PlainTypes.{plain-Ty}
use Rattle.rx_typed_declarations.specs.Held.{named_among}
use Rattle.rx_typed_declarations.proofs.holding.+held.Given as goal

abbrev pub invariant-add_named_among-loop-ty : goal.invariant-add_named_among-loop-ty
invariant-add_named_among-loop-ty l = l.held ++ named_among (shapes_of (map plain-Ty (drop l.ty-index l.types)))
    ≡ l.fn.held ++ named_among (shapes_of (map plain-Ty l.fn.types))
