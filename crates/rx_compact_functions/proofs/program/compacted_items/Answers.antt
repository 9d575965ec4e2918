use Rattle.std.proofs.Common.{map, arith}
use Rattle.rx_tree.specs.PlainOf.{plain-Item}
use Rattle.rx_compact_known.specs.Knowing.{knows}
use Rattle.rx_compact_functions.proofs.Placing.{items_end}
use Rattle.rx_compact_functions.proofs.program.compacted_items.Goals as goal

pub returns : goal.returns
returns c = items_end (knows c.args.known.now) c.args.single c.args.function c.loop-number.number c.args.items.now (map plain-Item c.loop-number.all)
    (let e = c.loop-number-test.false in omega (arith, e)) c.loop-number.invariant
