use Rattle.std.proofs.Common.{◌≡◌, drop, map}
use Rattle.rx_lower_walks.specs.Flows.{items_of}
use Rattle.rx_lower_walks.specs.PlainFlow.{plain-Item}
use Rattle.rx_lower_walks.specs.Sums.{opened, no_items}
use Rattle.rx_lower_walks.proofs.measure.open_all.Given as goal

abbrev pub invariant-loop-item : goal.invariant-loop-item
invariant-loop-item l = opened (items_of (map plain-Item (drop l.item-index l.items)) no_items) l.around ≡ opened (items_of (map plain-Item l.items) no_items) l.fn.around
