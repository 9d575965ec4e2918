use Rattle.std.proofs.Common.{◌≡◌, drop}
use Rattle.rx_typed.specs.PlainTypes.{declarations}
use Rattle.rx_typed_declarations.specs.Sizes.{fill}
use Rattle.rx_typed_declarations.proofs.sizing.fill.Given as goal

abbrev pub invariant-loop-i : goal.invariant-loop-i
invariant-loop-i l = fill (declarations l.decls.items) l.sizes.items (drop l.i l.order)
    ≡ fill (declarations l.fn.decls.items) l.fn.sizes.items l.fn.order
