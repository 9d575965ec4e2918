use Rattle.std.proofs.Common.{◌<◌, length, arith}
use Rattle.rx_typeck_solver.proofs.Parenthood.{parent_low, flatten_more, flatten_end}
use Rattle.rx_typeck_solver.proofs.classes.flatten.Goals as goal

pub index-above-requires : goal.index-above-requires
index-above-requires c =
    let l = c.loop-node.invariant.0.as_long in
    let h : c.loop-node.node < length c.loop-node.parents.items = omega (arith, l, c.loop-node-test.true, c.len-node-end.ensures) in
    let p = (parent_low c.loop-node.parents.items c.loop-node.node c.index.result.now c.loop-node.invariant.0.falling h c.index.ensures).0 in omega (arith, p, h)

pub loop-node-preserved : goal.loop-node-preserved
loop-node-preserved c =
    let l = c.loop-node.invariant.0.as_long in
    let h : c.loop-node.node < length c.loop-node.parents.items = omega (arith, l, c.loop-node-test.true, c.len-node-end.ensures) in
    flatten_more c.args.parents.now.items c.loop-node.parents.items c.loop-node.node c.index.result.now c.index-above.result.now c.loop-node.invariant.0 c.loop-node.invariant.1 h c.index.ensures c.index-above.ensures

pub returns-clause-flat : goal.returns-clause-flat
returns-clause-flat c =
    let l = c.loop-node.invariant.0.as_long in
    flatten_end c.args.parents.now.items c.loop-node.parents.items c.loop-node.node c.loop-node.invariant.0 c.loop-node.invariant.1 (omega (arith, l, c.loop-node-test.false, c.len-node-end.ensures))
