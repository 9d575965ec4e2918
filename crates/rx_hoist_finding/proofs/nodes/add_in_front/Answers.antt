use Rattle.std.proofs.Common.{map, option_map, sym, ap, ◌∙◌, arith}
use Rattle.rx_tree_operations.specs.NodeOf.{plain-Node}
use Rattle.rx_hoist_finding.proofs.Steps.{child_more, children_past}
use Rattle.rx_hoist_finding.proofs.nodes.add_in_front.Goals as goal

pub returns-in-None : goal.returns-in-None
returns-in-None c =
    children_past (plain-Node c.args.node) (map plain-Node c.args.all.now.items) (map plain-Node c.loop-at.all.items) c.loop-at.at c.args.number c.loop-at.invariant
    (sym (ap (option_map plain-Node) c.in-None.is) ∙ c.child.ensures) (let less = c.loop-at-test.true in omega (arith, less))

pub loop-at-preserved : goal.loop-at-preserved
loop-at-preserved c =
    child_more (plain-Node c.args.node) (plain-Node c.in-Some.next) (map plain-Node c.args.all.now.items) (map plain-Node c.loop-at.all.items) _ c.loop-at.at c.loop-at.invariant
    (sym (ap (option_map plain-Node) c.in-Some.is) ∙ c.child.ensures) c.in_ok-add_nodes-in-Some.ensures
