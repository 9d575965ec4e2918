use Rattle.std.proofs.Common.{◌∙◌, arith}
use Rattle.rx_compact_lifetimes.proofs.Occurring.{next_lifetime, end_lifetimes}
use Rattle.rx_compact_lifetimes.proofs.occurrences.times_in_list.Goals as goal

pub loop-lifetime-preserved : goal.loop-lifetime-preserved
loop-lifetime-preserved c = record {
  whole = next_lifetime c.args.name.now c.loop-lifetime.total c.times_here-total.result c.args.lifetimes.now c.loop-lifetime.lifetime-index c.lifetime-item.result
      c.loop-lifetime-test.true c.lifetime-item.is c.times_here-total.ensures ∙ c.loop-lifetime.invariant.whole;
  fits = omega (arith, c.times_here-total.ensures);
}

pub returns : goal.returns
returns c = end_lifetimes c.args.name.now c.loop-lifetime.total _ c.args.lifetimes.now c.loop-lifetime.lifetime-index c.loop-lifetime.invariant.fits c.loop-lifetime-test.false c.loop-lifetime.invariant.whole
