use Rattle.std.proofs.Common.{sym, ◌∙◌}
use Rattle.std.proofs.lemmas.List.{at_drop_all}
use Rattle.rx_compact_lifetimes.specs.Merged.{bounds_for}
use Rattle.rx_compact_lifetimes.specs.Steps.{with_bounds}
use Rattle.rx_compact_lifetimes.proofs.Joining.{next_bounds, bounds_are_firsts}
use Rattle.rx_compact_lifetimes.proofs.lists.bounds_of.Goals as goal

pub loop-lifetime-preserved : goal.loop-lifetime-preserved
loop-lifetime-preserved c =
    next_bounds c.args.name.now c.args.lifetimes.now c.loop-lifetime.lifetime-index c.lifetime-item.result c.loop-lifetime.all c.in_ok-all.all
    c.loop-lifetime-test.true c.lifetime-item.is c.in_ok-all.ensures ∙ c.loop-lifetime.invariant

pub returns : goal.returns
returns c =
    sym (at_drop_all (λ ls. with_bounds c.args.name.now c.loop-lifetime.all (bounds_for c.args.name.now ls)) c.args.lifetimes.now c.loop-lifetime.lifetime-index c.loop-lifetime-test.false)
    ∙ (c.loop-lifetime.invariant ∙ bounds_are_firsts c.args.name.now (bounds_for c.args.name.now c.args.lifetimes.now))
