use Rattle.std.proofs.Common.{◌≡◌, drop}
use Rattle.rx_typed_declarations.specs.Variance.{fill}
use Rattle.rx_typed_declarations.proofs.invariance.fill.Given as goal

abbrev pub invariant-loop-i : goal.invariant-loop-i
invariant-loop-i l = fill l.items l.table.items (drop l.i l.order) ≡ fill l.fn.items l.fn.table.items l.fn.order
