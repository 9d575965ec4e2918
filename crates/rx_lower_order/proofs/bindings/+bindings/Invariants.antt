use Rattle.std.proofs.Common.{◌≡◌, ◌++◌, map, drop}
use Rattle.rx_typed.specs.PlainTree.{plain-Subpattern, subpatterns_of}
use Rattle.rx_lower_walks.specs.Matching.{bindings_in}
use Rattle.rx_lower_walks.specs.PlainFlow.{plain-Item}
use Rattle.rx_lower_order.specs.Items.{binding_items}
use Rattle.rx_lower_order.specs.PlainParts.{plain-Subject}
use Rattle.rx_lower_order.proofs.bindings.+bindings.Given as goal

abbrev pub invariant-push_bindings_in-loop-part : goal.invariant-push_bindings_in-loop-part
invariant-push_bindings_in-loop-part l =
    map plain-Item l.items ++ binding_items (plain-Subject l.subject) (bindings_in l.at (subpatterns_of (map plain-Subpattern (drop l.part-index l.parts)))) l.end
    ≡ map plain-Item l.fn.items ++ binding_items (plain-Subject l.subject) (bindings_in l.at (subpatterns_of (map plain-Subpattern l.fn.parts))) l.end
