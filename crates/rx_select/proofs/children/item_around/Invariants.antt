use Rattle.std.proofs.Common.{◌≡◌, ◌<◌, ℕ, Some, true, slice_get, map}
use Rattle.rx_tree.specs.PlainOf.{plain-Item}
use Rattle.rx_tree.specs.Positions.{NodeTree, an_item}
use Rattle.rx_select.specs.Search.{around}
use Rattle.rx_select.proofs.children.item_around.Given as goal

abbrev pub invariant-loop-number : goal.invariant-loop-number
invariant-loop-number l = (k : ℕ) (c : NodeTree) → k < l.number → slice_get (map an_item (map plain-Item l.items)) k ≡ Some c → around l.places c ≡ true → ⊥
