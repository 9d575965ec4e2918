-- The goals that no tactic closes: by the lemmas of texts and lists written one part after the other.
use Rattle.rx_print_parts.proofs.WrittenItems.{bounds_step}
use Rattle.rx_print_parts.proofs.signatures.push_bounds.Goals as goal

pub loop-bound-preserved : goal.loop-bound-preserved
loop-bound-preserved c =
    bounds_step c.loop-bound.follows c.args.list.now c.loop-bound.bound-index c.bound-item.result c.loop-bound.out c.push_next_bound.new.out _ c.loop-bound-test.true c.bound-item.is
    c.in_ok-push_next_bound.ensures c.loop-bound.invariant
