use Rattle.std.proofs.Common.{sym, ◌∙◌}
use Rattle.rx_typeck_solver.proofs.Lasting.{is_in_read}
use Rattle.rx_typeck_solver.proofs.last.unclear_literal.Goals as goal

pub returns-then-not-literal_fine : goal.returns-then-not-literal_fine
returns-then-not-literal_fine c = (is_in_read c.as_slice-node-items.result.now c.args.literals.now c.loop-node.node-index 0 c.as_slice-node-items.ensures c.loop-node-test.true, sym c.literal_fine.ensures ∙ c.if-not-literal_fine.true)
