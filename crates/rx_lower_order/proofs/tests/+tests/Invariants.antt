use Rattle.std.proofs.Common.{◌≡◌, ◌++◌, map, drop}
use Rattle.rx_typed.specs.PlainTree.{plain-Subpattern, subpatterns_of}
use Rattle.rx_lower_walks.specs.Matching.{tests_in}
use Rattle.rx_lower_walks.specs.PlainFlow.{plain-Item}
use Rattle.rx_lower_order.specs.Items.{test_items}
use Rattle.rx_lower_order.specs.PlainParts.{plain-Subject}
use Rattle.rx_lower_order.proofs.tests.+tests.Given as goal

abbrev pub invariant-push_tests_in-loop-part : goal.invariant-push_tests_in-loop-part
invariant-push_tests_in-loop-part l =
    map plain-Item l.items ++ test_items (plain-Subject l.subject) (tests_in l.at (subpatterns_of (map plain-Subpattern (drop l.part-index l.parts))))
    ≡ map plain-Item l.fn.items ++ test_items (plain-Subject l.subject) (tests_in l.at (subpatterns_of (map plain-Subpattern l.fn.parts)))
