use Rattle.std.proofs.Common.{map, sym, ◌∙◌}
use Rattle.rx_exits_plan.specs.Points.{leaves}
use Rattle.rx_exits_plan.specs.PlainPlan.{plain-Exit}
use Rattle.rx_exits_plan.specs.PlainSyntax.{plain-Jump}
use Rattle.rx_exits.proofs.ReachingLemmas.{next_is, next_is_not, first_tells, none_comes, some_comes}
use Rattle.rx_exits.proofs.reaching.jump_not_reached.Goals as goal

pub returns-then-is_next : goal.returns-then-is_next
returns-then-is_next c A p = λ n ne none f. ne (next_is (plain-Exit c.args.exit) (sym c.is_next.ensures ∙ c.if-is_next.true))

pub returns-then-comes : goal.returns-then-comes
returns-then-comes c A p = λ n ne none f. none (some_comes A (leaves (plain-Exit c.args.exit)) c.comes.result c.if-comes.true (c.comes.ensures A p))

pub returns : goal.returns
returns c A p =
    first_tells A (plain-Exit c.args.exit) (map plain-Jump c.args.jumps.now) c.first_jump.result c.first_jump.ensures
    (next_is_not (plain-Exit c.args.exit) (sym c.is_next.ensures ∙ c.if-is_next.false))
    (none_comes A (leaves (plain-Exit c.args.exit)) c.comes.result c.if-comes.false (c.comes.ensures A p))
