use Rattle.std.proofs.Common.{refl}
use Rattle.rx_exits.proofs.Reading.{stand, stands_nowhere}
use Rattle.rx_exits.proofs.run_points.RunPoints.may_stand.Goals as goal

pub returns-then-variable-self : goal.returns-then-variable-self
returns-then-variable-self c A is = stand A c.args.self.now c.args.variable 0 c.is_entered_with.result is refl c.if-variable-self.true c.is_entered_with.ensures

pub returns-else-variable-self : goal.returns-else-variable-self
returns-else-variable-self c A is = stands_nowhere A c.args.self.now c.args.variable is c.if-variable-self.false
