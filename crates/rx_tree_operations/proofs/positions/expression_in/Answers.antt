use Rattle.rx_tree_operations.proofs.PositionsLemmas.{expressions_found, expressions_past}
use Rattle.rx_tree_operations.proofs.positions.expression_in.Goals as goal

pub returns-then-number-exprs : goal.returns-then-number-exprs
returns-then-number-exprs c = expressions_found c.args.exprs.now c.args.number c.index-exprs-number.result c.if-number-exprs.true c.index-exprs-number.is

pub returns-else-number-exprs : goal.returns-else-number-exprs
returns-else-number-exprs c = expressions_past c.args.exprs.now c.args.number c.if-number-exprs.false
