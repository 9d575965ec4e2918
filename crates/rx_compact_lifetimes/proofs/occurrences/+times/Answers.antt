use Rattle.std.proofs.Common.{◌∙◌, arith}
use Rattle.rx_compact_lifetimes.proofs.Occurring.{next_type, end_types}
use Rattle.rx_compact_lifetimes.proofs.occurrences.+times.Goals as goal

pub times_in_all-loop-typ-preserved : goal.times_in_all-loop-typ-preserved
times_in_all-loop-typ-preserved t c = record {
  whole = next_type c.args.name.now c.loop-typ.total c.times_in-total.result c.args.types.now c.loop-typ.typ-index c.typ-item.result
      c.loop-typ-test.true c.typ-item.is c.times_in-total.ensures ∙ c.loop-typ.invariant.whole;
  fits = omega (arith, c.times_in-total.ensures);
}

pub times_in_all-returns : goal.times_in_all-returns
times_in_all-returns t c = end_types c.args.name.now c.loop-typ.total _ c.args.types.now c.loop-typ.typ-index c.loop-typ.invariant.fits c.loop-typ-test.false c.loop-typ.invariant.whole
