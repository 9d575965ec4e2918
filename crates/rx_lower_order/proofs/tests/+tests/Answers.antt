use Rattle.std.proofs.Common.{map}
use Rattle.rx_typed.specs.PlainTree.{plain-Subpattern, subpatterns_of}
use Rattle.rx_lower_walks.specs.Matching.{tests_in}
use Rattle.rx_lower_order.specs.Items.{test_items}
use Rattle.rx_lower_order.specs.PlainParts.{plain-Subject}
use Rattle.rx_lower_order.proofs.Listed.{turned}
use Rattle.rx_lower_order.proofs.Orders.{tests_more}
use Rattle.rx_lower_order.proofs.tests.+tests.Goals as goal

pub push_tests_in-loop-part-preserved : goal.push_tests_in-loop-part-preserved
push_tests_in-loop-part-preserved t c =
    turned (λ ps. test_items (plain-Subject c.args.subject) (tests_in c.args.at.now (subpatterns_of (map plain-Subpattern ps)))) c.args.parts.now c.loop-part.part-index c.part-item.result
    _ _ _ _ c.loop-part-test.true c.part-item.is (tests_more (plain-Subject c.args.subject) _ _) c.in_ok-push_tests_of_part.ensures c.loop-part.invariant
