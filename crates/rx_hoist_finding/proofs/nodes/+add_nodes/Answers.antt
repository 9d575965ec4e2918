use Rattle.std.proofs.Common.{map, option_map, sym, ap, ◌∙◌, arith}
use Rattle.rx_tree_operations.specs.NodeOf.{plain-Node}
use Rattle.rx_hoist_nodes.proofs.Within.{less_below}
use Rattle.rx_hoist_finding.proofs.Steps.{child_more, child_within, children_done, too_many}
use Rattle.rx_hoist_finding.proofs.nodes.+add_nodes.Goals as goal

pub add_nodes-requires : goal.add_nodes-requires
add_nodes-requires t c =
    let less = less_below (plain-Node c.args.node) (plain-Node c.in-Some.next) c.loop-number.number (sym c.child.ensures ∙ ap (option_map plain-Node) c.in-Some.is) in
    (omega (arith, less), tt)

pub returns-in-None : goal.returns-in-None
returns-in-None t c =
    children_done (plain-Node c.args.node) (map plain-Node c.args.all.now.items) (map plain-Node c.loop-number.all.items) c.loop-number.number c.loop-number.invariant.0
    (sym (ap (option_map plain-Node) c.in-None.is) ∙ c.child.ensures)

pub loop-number-preserved : goal.loop-number-preserved
loop-number-preserved t c =
    let there = sym (ap (option_map plain-Node) c.in-Some.is) ∙ c.child.ensures in (
      child_more (plain-Node c.args.node) (plain-Node c.in-Some.next) (map plain-Node c.args.all.now.items) (map plain-Node c.loop-number.all.items) _ c.loop-number.number c.loop-number.invariant.0 there
          c.in_ok-add_nodes-in-Some.ensures,
      child_within (plain-Node c.args.node) (plain-Node c.in-Some.next) c.loop-number.number there,
    )

pub unreachable-requires : goal.unreachable-requires
unreachable-requires t c =
    let many = too_many (plain-Node c.args.node) (map plain-Node c.args.all.now.items) c.loop-number.all.items c.loop-number.number c.loop-number.invariant.0 c.loop-number.invariant.1 in
    let end = c.loop-number-test.false in
    let len = c.loop-number.all.ok in
    let cap = c.loop-number.all.small in
    omega (arith, many, end, len, cap)
