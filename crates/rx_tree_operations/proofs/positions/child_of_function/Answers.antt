use Rattle.std.proofs.Common.{Some, None, option_map}
use Rattle.rx_tree_operations.specs.NodeOf.{plain-Node}
use Rattle.rx_tree_operations.proofs.PositionsLemmas.{function_front, function_behind}
use Rattle.rx_tree_operations.proofs.positions.child_of_function.Goals as goal

pub returns-then-number-params : goal.returns-then-number-params
returns-then-number-params c = function_front c.args.func.now c.as_slice-params.result.now c.args.number (option_map plain-Node c.parameter_in.result) c.as_slice-params.ensures c.if-number-params.true c.parameter_in.ensures

pub returns-in-Some : goal.returns-in-Some
returns-in-Some c = function_behind c.args.func.now c.as_slice-params.result.now (Some c.in-Some.typ) c.args.number (option_map plain-Node c.two.result) c.as_slice-params.ensures c.in-Some.is c.if-number-params.false c.two.ensures

pub returns-in-None : goal.returns-in-None
returns-in-None c = function_behind c.args.func.now c.as_slice-params.result.now None c.args.number (option_map plain-Node c.one.result) c.as_slice-params.ensures c.in-None.is c.if-number-params.false c.one.ensures
