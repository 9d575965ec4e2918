use Rattle.rx_exits_plan.specs.Points.{next, leaves}
use Rattle.rx_exits.specs.Reaching.{come}
use Rattle.rx_exits.proofs.ReachingLemmas.{end_told, none_comes, some_comes}
use Rattle.rx_exits.proofs.reaching.is_not_ended.Goals as goal

pub returns-then-comes : goal.returns-then-comes
returns-then-comes c A p = come (some_comes A (leaves next) c.comes.result c.if-comes.true (c.comes.ensures A p))

pub returns-else-comes : goal.returns-else-comes
returns-else-comes c A p = end_told A _ _ _ (none_comes A (leaves next) c.comes.result c.if-comes.false (c.comes.ensures A p)) c.is_to_end.ensures
