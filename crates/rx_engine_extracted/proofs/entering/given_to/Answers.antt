use Rattle.std.proofs.Common.{map, arith}
use Rattle.rx_typed.specs.PlainTree.{plain-Operand, plain-Param, operands_of}
use Rattle.rx_engine_alike.specs.PlainSights.{plain-Renaming}
use Rattle.rx_engine_extracted.proofs.Firsts.{given_done}
use Rattle.rx_engine_extracted.proofs.entering.given_to.Goals as goal

pub returns : goal.returns
returns c =
    given_done (plain-Renaming c.args.outer.now) (plain-Renaming c.loop-left.inner.items) c.args.closed.now c.loop-left.left.now c.loop-left.rest.modes.now
    (operands_of (map plain-Operand c.loop-left.rest.operands.now)) (map plain-Param c.loop-left.rest.params.now) c.is_done.result _ (omega (arith, c.in_default.len_below))
    (c.is_done.ensures (plain-Renaming c.args.outer.now) (plain-Renaming c.loop-left.inner.items) c.args.closed.now) c.loop-left.invariant
