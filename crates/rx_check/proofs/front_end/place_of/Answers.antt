use Rattle.rx_check.proofs.ReaderLemmas.{found_here}
use Rattle.rx_check.proofs.front_end.place_of.Goals as goal

pub returns-then-functions-i : goal.returns-then-functions-i
returns-then-functions-i c = found_here c.args.functions.now c.loop-i.i c.args.item c.index-functions-i.result c.loop-i-test.true c.index-functions-i.is c.if-functions-i.true c.loop-i.invariant
