use Rattle.rx_tree_operations.proofs.PositionsLemmas.{statements_found, statements_past}
use Rattle.rx_tree_operations.proofs.positions.statement_in.Goals as goal

pub returns-then-number-stmts : goal.returns-then-number-stmts
returns-then-number-stmts c = statements_found c.args.stmts.now c.args.number c.index-stmts-number.result c.if-number-stmts.true c.index-stmts-number.is

pub returns-else-number-stmts : goal.returns-else-number-stmts
returns-else-number-stmts c = statements_past c.args.stmts.now c.args.number c.if-number-stmts.false
