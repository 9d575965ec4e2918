use Rattle.std.proofs.Common.{arith}
use Rattle.rx_typeck_solver.proofs.Lasting.{in_nodes}
use Rattle.rx_typeck_solver.proofs.last.unclear_class.Goals as goal

pub returns : goal.returns
returns c = λ n r. c.loop-node.invariant n (let h = in_nodes c.args.arena.now.entries.items c.args.tables.now n r in omega (arith, h, c.loop-node-test.false, c.len-node-end.ensures)) r
