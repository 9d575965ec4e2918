use Rattle.std.proofs.Common.{◌≡◌, ◌∷◌, List, length, map, drop, ap, sym, ◌∙◌, arith}
use Rattle.rx_tree.specs.Nodes.{below}
use Rattle.rx_tree.specs.Positions.{NodeTree}
use Rattle.rx_tree_operations.specs.declared.positions.Node.{Node}
use Rattle.rx_tree_operations.specs.NodeOf.{plain-Node}
use Rattle.rx_hoist_extraction.specs.NewFunction.{lifetimes_at_all}
use Rattle.rx_hoist_made.specs.Noting.{joined, with_all}
use Rattle.rx_hoist_made.proofs.Noted.{below_are, fewer_below, node_and_parts, part_here}
use Rattle.rx_hoist_made.proofs.lifetimes.+noting.Goals as goal

pub loop-part-init : goal.loop-part-init
loop-part-init t c =
    ap (λ (ns : List NodeTree). with_all c.in_ok-all.all (lifetimes_at_all (joined ns))) (ap (map plain-Node) c.as_slice-nodes.ensures.value ∙ c.in_ok-parts.ensures)
    ∙ node_and_parts c.args.found c.in_ok-all.all (plain-Node c.args.node) c.in_ok-all.ensures

pub loop-part-preserved : goal.loop-part-preserved
loop-part-preserved t c = part_here c.loop-part.all c.in_ok-all-2.all c.as_slice-nodes.result.now c.loop-part.part-index c.part-item.result
    c.loop-part-test.true c.part-item.is c.in_ok-all-2.ensures ∙ c.loop-part.invariant

pub with_nodes-requires : goal.with_nodes-requires
with_nodes-requires t c =
    let n = plain-Node c.args.node in
    let all = ap (map plain-Node) c.as_slice-nodes.ensures.value ∙ c.in_ok-parts.ensures in
    let whole : length (joined (map plain-Node c.as_slice-nodes.result.now)) ≡ length (below n) = ap (λ (ns : List NodeTree). length (joined ns)) all ∙ ap length (sym (below_are n)) in
    let one = fewer_below c.as_slice-nodes.result.now c.loop-part.part-index c.part-item.result c.loop-part-test.true c.part-item.is in
    let bound = c.decreases in
    (omega (arith, whole, one, bound), tt)
