use Rattle.rx_tree_operations.proofs.PositionsLemmas.{parameters_found, parameters_past}
use Rattle.rx_tree_operations.proofs.positions.parameter_in.Goals as goal

pub returns-then-number-params : goal.returns-then-number-params
returns-then-number-params c = parameters_found c.args.params.now c.args.number c.index-params-number.result c.if-number-params.true c.index-params-number.is

pub returns-else-number-params : goal.returns-else-number-params
returns-else-number-params c = parameters_past c.args.params.now c.args.number c.if-number-params.false
