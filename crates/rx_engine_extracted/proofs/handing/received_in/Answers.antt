use Rattle.std.proofs.Common.{ap, ◌∙◌}
use Rattle.rx_engine_extracted.proofs.Received.{with_all, received_from, with_all_none, received_none, received_other, received_next, received_all}
use Rattle.rx_engine_extracted.proofs.handing.received_in.Goals as goal

pub loop-i-init : goal.loop-i-init
loop-i-init c = ap (λ qs. with_all qs (received_from c.args.parts.now 0)) c.new-found.ensures.items ∙ with_all_none (received_from c.args.parts.now 0)

pub returns-then-part-i : goal.returns-then-part-i
returns-then-part-i c = received_other c.args.parts.now c.loop-i.i c.index-parts-i.result c.loop-i.found.items _ c.loop-i-test.true c.index-parts-i.is c.if-part-i.true c.loop-i.invariant

pub returns-in_default : goal.returns-in_default
returns-in_default c = received_none c.args.parts.now c.loop-i.i c.index-parts-i.result c.loop-i.found.items _ c.loop-i-test.true c.index-parts-i.is c.in_default.ensures c.loop-i.invariant

pub loop-i-preserved : goal.loop-i-preserved
loop-i-preserved c =
    received_next c.args.parts.now c.loop-i.i c.index-parts-i.result c.loop-i.found.items c.push.new.self.items c.in-Some.variable _ c.loop-i-test.true c.index-parts-i.is c.if-part-i.false
    c.in-Some.ensures c.in_ok-push.ensures.items c.loop-i.invariant

pub returns : goal.returns
returns c = received_all c.args.parts.now c.loop-i.i c.loop-i.found.items _ c.loop-i-test.false c.loop-i.invariant
