use Rattle.rx_tree_operations.proofs.PositionsLemmas.{types_found, types_past}
use Rattle.rx_tree_operations.proofs.positions.type_in.Goals as goal

pub returns-then-number-types : goal.returns-then-number-types
returns-then-number-types c = types_found c.args.types.now c.args.number c.index-types-number.result c.if-number-types.true c.index-types-number.is

pub returns-else-number-types : goal.returns-else-number-types
returns-else-number-types c = types_past c.args.types.now c.args.number c.if-number-types.false
