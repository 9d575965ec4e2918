use Rattle.std.proofs.Common.{map, arith}
use Rattle.rx_machine_values.specs.PlainValues.{plain-Value, values_of}
use Rattle.rx_machine_actions.proofs.MakingLemmas.{placed_at, placed_past}
use Rattle.rx_machine_actions.proofs.making.place_operand.Goals as goal

pub returns-then-at-operands : goal.returns-then-at-operands
returns-then-at-operands c =
    placed_at c.args.operands.now c.args.at c.index-operands-at.result (plain-Value c.args.value) (values_of (map plain-Value c.args.parts.now.items)) (values_of (map plain-Value c.place.new.parts.items))
    (let e = c.if-at-operands.true in omega (arith, e)) c.place.ensures

pub returns-else-at-operands : goal.returns-else-at-operands
returns-else-at-operands c = placed_past c.args.operands.now c.args.at (plain-Value c.args.value) (values_of (map plain-Value c.args.parts.now.items)) (let e = c.if-at-operands.false in omega (arith, e))
