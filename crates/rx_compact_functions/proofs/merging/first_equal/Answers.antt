use Rattle.std.proofs.Common.{arith}
use Rattle.rx_compact_known.specs.Knowing.{knows}
use Rattle.rx_compact_functions.proofs.Naming.{first_passed}
use Rattle.rx_compact_functions.proofs.merging.first_equal.Goals as goal

pub loop-k-preserved : goal.loop-k-preserved
loop-k-preserved c =
    first_passed (knows c.args.known.now) c.args.number c.loop-k.k c.args.lifetimes.now c.args.name.now _ c.index-lifetimes-k.result c.are_equal.result
    (let e = c.loop-k-test.true in omega (arith, e)) c.index-lifetimes-k.is c.are_equal.ensures c.if-are_equal.false c.loop-k.invariant
