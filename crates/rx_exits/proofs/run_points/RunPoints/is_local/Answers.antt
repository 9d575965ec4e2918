use Rattle.rx_exits.proofs.Reading.{local}
use Rattle.rx_exits.proofs.run_points.RunPoints.is_local.Goals as goal

pub returns : goal.returns
returns c A is = local A c.args.variable c.may_stand.result (c.may_stand.ensures A is)
