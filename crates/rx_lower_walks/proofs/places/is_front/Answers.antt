use Rattle.std.proofs.Common.{sym, ◌∙◌}
use Rattle.rx_lower_walks.proofs.Fronts.{too_short}
use Rattle.rx_lower_walks.proofs.places.is_front.Goals as goal

pub returns-in-None : goal.returns-in-None
returns-in-None c = sym (too_short c.args.front.now c.args.steps.now c.loop-i.i c.loop-i-test.true c.in-None.ensures.lookup.3) ∙ c.loop-i.invariant
