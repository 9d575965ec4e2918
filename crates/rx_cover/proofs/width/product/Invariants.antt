use Rattle.std.proofs.Common.{◌≡◌, map, drop}
use Rattle.rx_cover.specs.Width.{scaled}
use Rattle.rx_cover.specs.PlainTested.{plain-Tested}
use Rattle.rx_cover.proofs.width.product.Given as goal

abbrev pub invariant-loop-tested : goal.invariant-loop-tested
invariant-loop-tested l = scaled l.number (map plain-Tested (drop l.tested-index l.table)) ≡ scaled 1 (map plain-Tested l.fn.table)
