use Rattle.rx_tree_operations.proofs.PositionsLemmas.{declared_found, declared_past}
use Rattle.rx_tree_operations.proofs.positions.declared_in.Goals as goal

pub returns-then-number-fields : goal.returns-then-number-fields
returns-then-number-fields c = declared_found c.args.fields.now c.args.number c.index-fields-number.result c.if-number-fields.true c.index-fields-number.is

pub returns-else-number-fields : goal.returns-else-number-fields
returns-else-number-fields c = declared_past c.args.fields.now c.args.number c.if-number-fields.false
