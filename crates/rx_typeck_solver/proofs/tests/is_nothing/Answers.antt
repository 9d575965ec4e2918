use Rattle.rx_typeck_solver.proofs.Units.{unit_tuple}
use Rattle.rx_typeck_solver.proofs.tests.is_nothing.Goals as goal

pub returns : goal.returns
returns c = unit_tuple c.args.parts.now
