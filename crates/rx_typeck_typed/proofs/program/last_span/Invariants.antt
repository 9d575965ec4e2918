use Rattle.std.proofs.Common.{◌≡◌, map, drop}
use Rattle.rx_tree.specs.PlainOf.{plain-Item}
use Rattle.rx_tree.specs.Spans.{last_span}
use Rattle.rx_typeck_typed.proofs.program.last_span.Given as goal

abbrev pub invariant-loop-item : goal.invariant-loop-item
invariant-loop-item l = last_span l.span (map plain-Item (drop l.item-index l.items))
    ≡ last_span (record { start = 0; end = 0 }) (map plain-Item l.items)
