use Rattle.std.proofs.Common.{map}
use Rattle.rx_exits_plan.specs.Points.{enters}
use Rattle.rx_exits_plan.specs.PlainPlan.{plain-Exit}
use Rattle.rx_exits_plan.specs.Unreachable.{not_begun}
use Rattle.rx_exits_plan.specs.PlainSyntax.{plain-Jump, plain-Value}
use Rattle.rx_exits.proofs.ReachingLemmas.{at_last, at_exits, at_a_jump, none_comes, comes_not}
use Rattle.rx_exits.proofs.reaching.not_reached.Goals as goal

pub returns-then-not-comes : goal.returns-then-not-comes
returns-then-not-comes c A p K = not_begun (none_comes A enters c.comes.result c.if-not-comes.true (c.comes.ensures A p))

pub returns-then-is_not_ended : goal.returns-then-is_not_ended
returns-then-is_not_ended c A p K =
    at_last A c.is_not_ended.result (plain-Value c.args.value) (map plain-Exit c.args.exits.now) (map plain-Jump c.args.jumps.now) K (comes_not A enters c.comes.result c.if-not-comes.false (c.comes.ensures A p))
    c.if-is_not_ended.true (c.is_not_ended.ensures A p)

pub returns-in-Some : goal.returns-in-Some
returns-in-Some c A p K =
    at_a_jump A c.is_not_ended.result (plain-Value c.args.value) (map plain-Exit c.args.exits.now) (map plain-Jump c.args.jumps.now) c.in-Some.node K (comes_not A enters c.comes.result c.if-not-comes.false (c.comes.ensures A p))
    c.if-is_not_ended.false (c.is_not_ended.ensures A p) (c.in-Some.ensures A p)

pub returns-in-None : goal.returns-in-None
returns-in-None c A p K =
    at_exits A c.is_not_ended.result (plain-Value c.args.value) (map plain-Exit c.args.exits.now) (map plain-Jump c.args.jumps.now) K (comes_not A enters c.comes.result c.if-not-comes.false (c.comes.ensures A p))
    c.if-is_not_ended.false (c.is_not_ended.ensures A p) (c.in-None.ensures A p)
