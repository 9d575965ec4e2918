use Rattle.rx_facts_tables.proofs.Fronts.{place_is}
use Rattle.rx_facts_tables.proofs.watching.is_place.Goals as goal

pub returns-then-place-variable : goal.returns-then-place-variable
returns-then-place-variable c = place_is c.args.place.now c.args.variable c.as_slice.result.now c.args.steps.now c.same_steps.result c.if-place-variable.true c.as_slice.ensures c.same_steps.ensures
