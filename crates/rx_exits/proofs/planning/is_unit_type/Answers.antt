use Rattle.rx_exits.proofs.Values.{unit_tuple}
use Rattle.rx_exits.proofs.planning.is_unit_type.Goals as goal

pub returns-in-Tuple : goal.returns-in-Tuple
returns-in-Tuple c = unit_tuple c.args.ty.now c.in-Tuple.parts c.is_empty.result c.in-Tuple.is c.is_empty.ensures
