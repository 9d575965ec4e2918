-- The items so far are added.
use Rattle.std.proofs.Common.{◌≡◌, ◌++◌, take}
use Rattle.rx_cert_lines.specs.Items.{items_text}
use Rattle.rx_cert_lines.proofs.write.push_items.Given as goal

abbrev pub invariant-loop-item : goal.invariant-loop-item
invariant-loop-item l = l.text ≡ l.fn.text ++ items_text (take l.item-index l.items)
