use Rattle.std.proofs.Common.{map, ap, ◌∙◌}
use Rattle.rx_typed.specs.PlainTree.{plain-Param}
use Rattle.rx_lower_order.specs.Items.{parameter_items}
use Rattle.rx_lower_order.proofs.Turns.{function_made}
use Rattle.rx_lower_order.proofs.function.flow_of.Goals as goal

pub returns : goal.returns
returns c =
    function_made c.args.tree.now c.in_ok-items.items c.in_ok-body.items c.node_of.result c.value.result c.sequence.result c.in_ok-body.body c.node_of.ensures
    (c.in_ok-items.ensures ∙ ap (λ l. parameter_items (map plain-Param l) c.node_of.result) c.as_slice.ensures)
    c.in_ok-body.ensures.0 c.in_ok-body.ensures.1 c.value.ensures c.sequence.ensures
