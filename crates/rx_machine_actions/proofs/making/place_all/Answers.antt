use Rattle.rx_machine_actions.proofs.MakingLemmas.{placing_begins, placing_goes_on}
use Rattle.rx_machine_actions.proofs.making.place_all.Goals as goal

pub loop-value-init : goal.loop-value-init
loop-value-init c = placing_begins c.args.operands.now c.args.values c.args.parts.now.items

pub loop-value-preserved : goal.loop-value-preserved
loop-value-preserved c =
    placing_goes_on c.args.operands.now c.args.values c.loop-value.values c.pop.new.self c.args.parts.now.items c.loop-value.parts.items c.place_operand.new.parts.items
    c.in-Some.value c.len.result c.in-Some.ensures c.len.ensures c.place_operand.ensures c.loop-value.invariant
