use Rattle.std.proofs.Common.{◌≡◌, drop}
use Rattle.rx_typed.specs.PlainTypes.{declarations}
use Rattle.rx_cover.specs.Inhabited.{fill}
use Rattle.rx_cover.proofs.inhabitance.fill.Given as goal

abbrev pub invariant-loop-i : goal.invariant-loop-i
invariant-loop-i l = fill (declarations l.decls.items) l.table.items (drop l.i l.order) ≡ fill (declarations l.fn.decls.items) l.fn.table.items l.fn.order
