use Rattle.std.proofs.Common.{map, subst}
use Rattle.rx_exits_plan.specs.PlainPlan.{plain-Exit}
use Rattle.rx_exits_plan.specs.Exits.{Jump}
use Rattle.rx_exits_plan.specs.PlainSyntax.{plain-Jump}
use Rattle.rx_exits.specs.Reaching.{Tells}
use Rattle.rx_exits.specs.Telling.{ShadowedAt}
use Rattle.rx_exits.proofs.Listing.{some_turn, none_turn, none_end, some_none}
use Rattle.rx_exits.proofs.ReachingLemmas.{tells_true, tells_false}
use Rattle.rx_exits.proofs.refusing.is_shadowed_at_jump.Goals as goal

pub loop-jump-preserved : goal.loop-jump-preserved
loop-jump-preserved c =
    let told = subst (λ l. Tells c.is_shadowed_at.result (ShadowedAt c.args.names.now c.args.exits.now (plain-Exit c.jump-item.result.exit) l c.args.variable)) c.as_slice.ensures c.is_shadowed_at.ensures in
    none_turn plain-Jump (λ (j : Jump). ShadowedAt c.args.names.now c.args.exits.now j.exit j.scope c.args.variable) c.args.jumps.now c.loop-jump.jump-index c.jump-item.result
    c.loop-jump-test.true c.jump-item.is (tells_false _ _ c.if-is_shadowed_at.false told) c.loop-jump.invariant

pub returns-then-is_shadowed_at : goal.returns-then-is_shadowed_at
returns-then-is_shadowed_at c =
    let told = subst (λ l. Tells c.is_shadowed_at.result (ShadowedAt c.args.names.now c.args.exits.now (plain-Exit c.jump-item.result.exit) l c.args.variable)) c.as_slice.ensures c.is_shadowed_at.ensures in
    some_turn plain-Jump (λ (j : Jump). ShadowedAt c.args.names.now c.args.exits.now j.exit j.scope c.args.variable) c.args.jumps.now c.loop-jump.jump-index c.jump-item.result
    c.loop-jump-test.true c.jump-item.is (tells_true _ _ c.if-is_shadowed_at.true told)

pub returns : goal.returns
returns c =
    some_none (λ (j : Jump). ShadowedAt c.args.names.now c.args.exits.now j.exit j.scope c.args.variable) (map plain-Jump c.args.jumps.now)
    (none_end plain-Jump (λ (j : Jump). ShadowedAt c.args.names.now c.args.exits.now j.exit j.scope c.args.variable) c.args.jumps.now c.loop-jump.jump-index c.loop-jump-test.false c.loop-jump.invariant)
