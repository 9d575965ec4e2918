use Rattle.std.proofs.Common.{map, drop, ◌+◌}
use Rattle.rx_typed.specs.PlainTree.{plain-Pattern, plain-Subpattern, subpatterns_of}
use Rattle.rx_exits_plan.specs.Bound.{bound_pattern, bound_parts}
use Rattle.rx_exits_plan.proofs.Turns.{turned}
use Rattle.rx_exits_plan.proofs.BoundLemmas.{parts_more}
use Rattle.rx_exits_plan.proofs.bound.+bound.Goals as goal

pub push_parts-loop-part-preserved : goal.push_parts-loop-part-preserved
push_parts-loop-part-preserved t c =
    turned (λ ps. bound_parts (subpatterns_of (map plain-Subpattern ps))) c.args.parts.now c.loop-part.part-index c.part-item.result
    _ _ (bound_pattern (plain-Pattern c.part-item.result.pattern)) _ c.loop-part-test.true c.part-item.is
    (parts_more c.part-item.result (drop (c.loop-part.part-index + 1) c.args.parts.now)) c.in_ok-push_pattern.ensures c.loop-part.invariant
