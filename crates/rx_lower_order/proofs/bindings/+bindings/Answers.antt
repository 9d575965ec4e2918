use Rattle.std.proofs.Common.{map}
use Rattle.rx_typed.specs.PlainTree.{plain-Subpattern, subpatterns_of}
use Rattle.rx_lower_walks.specs.Matching.{bindings_in}
use Rattle.rx_lower_order.specs.Items.{binding_items}
use Rattle.rx_lower_order.specs.PlainParts.{plain-Subject}
use Rattle.rx_lower_order.proofs.Listed.{turned}
use Rattle.rx_lower_order.proofs.Orders.{bindings_more}
use Rattle.rx_lower_order.proofs.bindings.+bindings.Goals as goal

pub push_bindings_in-loop-part-preserved : goal.push_bindings_in-loop-part-preserved
push_bindings_in-loop-part-preserved t c =
    turned (λ ps. binding_items (plain-Subject c.args.subject) (bindings_in c.args.at.now (subpatterns_of (map plain-Subpattern ps))) c.args.end) c.args.parts.now c.loop-part.part-index c.part-item.result
    _ _ _ _ c.loop-part-test.true c.part-item.is (bindings_more (plain-Subject c.args.subject) _ _ c.args.end) c.in_ok-push_bindings_of_part.ensures c.loop-part.invariant
