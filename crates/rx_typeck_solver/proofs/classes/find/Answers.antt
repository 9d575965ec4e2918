use Rattle.std.proofs.Common.{arith, sym, ◌∙◌}
use Rattle.rx_typeck_solver.proofs.Parenthood.{turn_smaller, turned, end_found, parent_low, get_or_any}
use Rattle.rx_typeck_solver.proofs.classes.find.Goals as goal

pub index-above-requires : goal.index-above-requires
index-above-requires c = let p = parent_low c.loop-at.parents.items c.loop-at.at c.index-in-loop-at.result.now c.loop-at.invariant.1.falling c.loop-at.invariant.0 c.index-in-loop-at.ensures in let q = p.0 in let i = c.loop-at.invariant.0 in omega (arith, q, i)

pub loop-at-smaller : goal.loop-at-smaller
loop-at-smaller c = turn_smaller c.loop-at.parents.items c.loop-at.at c.index.result.now c.index-in-loop-at.result.now c.index-above.result.now c.loop-at.invariant.1.falling c.loop-at.invariant.0 c.index.ensures c.loop-at-test.true c.index-in-loop-at.ensures c.index-above.ensures

pub loop-at-preserved : goal.loop-at-preserved
loop-at-preserved c = turned c.args.parents.now.items c.loop-at.parents.items c.args.node c.loop-at.at c.index-in-loop-at.result.now c.index-above.result.now c.loop-at.invariant.1 c.loop-at.invariant.2 c.loop-at.invariant.0 c.index-in-loop-at.ensures c.index-above.ensures

pub returns-clause-rep : goal.returns-clause-rep
returns-clause-rep c = end_found c.args.parents.now.items c.loop-at.parents.items c.args.node c.loop-at.at c.loop-at.invariant.1 c.loop-at.invariant.2 c.loop-at.invariant.0 (sym c.loop-at-test.false ∙ c.index.ensures ∙ get_or_any c.loop-at.parents.items c.loop-at.at c.index.result.now c.loop-at.at c.loop-at.invariant.0)
