use Rattle.std.proofs.Common.{map, sym, ap, ◌∙◌}
use Rattle.rx_exits_plan.specs.PlainPlan.{plain-Exit}
use Rattle.rx_exits.proofs.ReachingLemmas.{map_empty, not_so}
use Rattle.rx_exits.proofs.reaching.hindrance.Goals as goal

pub returns-in-Some : goal.returns-in-Some
returns-in-Some c A p K = c.in-Some.ensures A p K

pub returns-then-has_none : goal.returns-then-has_none
returns-then-has_none c A p K = (c.in-None.ensures A p K, K.exits ∙ ap (map plain-Exit) (c.has_none.ensures.0 c.if-has_none.true))

pub returns-else-has_none : goal.returns-else-has_none
returns-else-has_none c A p K = (c.in-None.ensures A p K, λ e. not_so _ _ c.if-has_none.false c.has_none.ensures (map_empty plain-Exit c.args.exits.now (sym K.exits ∙ e)))
