use Rattle.std.proofs.Common.{◌∙◌, arith}
use Rattle.rx_compact_lifetimes.proofs.Occurring.{next_param, end_params}
use Rattle.rx_compact_lifetimes.proofs.occurrences.times_in_parameters.Goals as goal

pub loop-param-preserved : goal.loop-param-preserved
loop-param-preserved c = record {
  whole = next_param c.args.name.now c.loop-param.total c.times_in-total.result c.args.params.now c.loop-param.param-index c.param-item.result
      c.loop-param-test.true c.param-item.is c.times_in-total.ensures ∙ c.loop-param.invariant.whole;
  fits = omega (arith, c.times_in-total.ensures);
}

pub returns : goal.returns
returns c = end_params c.args.name.now c.loop-param.total _ c.args.params.now c.loop-param.param-index c.loop-param.invariant.fits c.loop-param-test.false c.loop-param.invariant.whole
