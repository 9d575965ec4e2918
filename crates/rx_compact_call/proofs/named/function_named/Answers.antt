use Rattle.std.proofs.Common.{arith}
use Rattle.rx_compact_call.proofs.Finding.{passed}
use Rattle.rx_compact_call.proofs.named.function_named.Goals as goal

pub loop-number-preserved : goal.loop-number-preserved
loop-number-preserved c =
    passed c.args.name.now c.args.items.now c.loop-number.number c.index-items-number.result _ (let e = c.loop-number-test.true in omega (arith, e))
    c.index-items-number.is c.in-None.ensures c.loop-number.invariant
