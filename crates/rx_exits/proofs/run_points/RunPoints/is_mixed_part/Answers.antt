use Rattle.rx_exits.proofs.Reading.{both_mixed, not_mixed}
use Rattle.rx_exits.proofs.run_points.RunPoints.is_mixed_part.Goals as goal

pub returns-then-is_entered_with : goal.returns-then-is_entered_with
returns-then-is_entered_with c = both_mixed c.args.self.now c.args.part c.is_entered_with-then-is_entered_with.result c.if-is_entered_with.ensures c.is_entered_with-then-is_entered_with.ensures

pub returns-else-is_entered_with : goal.returns-else-is_entered_with
returns-else-is_entered_with c = not_mixed c.args.self.now c.args.part c.if-is_entered_with.ensures
