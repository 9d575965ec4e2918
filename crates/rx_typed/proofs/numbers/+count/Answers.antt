use Rattle.rx_typed.proofs.Loops.{counted_end}
use Rattle.rx_typed.proofs.numbers.+count.Goals as goal

pub count_all-returns : goal.count_all-returns
count_all-returns t c = counted_end c.loop-part.total _ c.args.parts.now c.loop-part.part-index c.loop-part.invariant.fits c.loop-part-test.false c.loop-part.invariant.whole
