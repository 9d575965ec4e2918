use Rattle.rx_exits.proofs.Reading.{param}
use Rattle.rx_exits.proofs.run_points.RunPoints.is_param.Goals as goal

pub returns : goal.returns
returns c A is = param A c.args.variable c.may_be_unset.result (c.may_be_unset.ensures A is)
