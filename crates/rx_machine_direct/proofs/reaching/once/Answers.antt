use Rattle.std.proofs.Common.{sym, subst}
use Rattle.rx_typed.specs.PlainTree.{plain-Mark}
use Rattle.rx_machine_values.specs.PlainMemory.{plain-Memory}
use Rattle.rx_meaning.specs.Values.{unit_value}
use Rattle.rx_machine_direct.specs.Reaching.{gave, Comes}
use Rattle.rx_machine_direct.specs.PlainReached.{Goes}
use Rattle.rx_machine_direct.proofs.DirectLemmas.{comes_unit}
use Rattle.rx_machine_direct.proofs.FormLemmas.{unit_form, block_form, choose_form}
use Rattle.rx_machine_direct.proofs.reaching.once.Goals as goal

pub returns-in-Unit : goal.returns-in-Unit
returns-in-Unit c =
    subst (λ e. Comes c.args.slots.now (plain-Memory c.args.memory.now) e (plain-Memory c.args.memory.now) (gave unit_value)) (sym (unit_form c.args.expr.now c.in-Unit.is))
    (comes_unit c.args.slots.now (plain-Memory c.args.memory.now) (plain-Mark c.args.expr.now.mark))

pub returns-in-Block : goal.returns-in-Block
returns-in-Block c =
    subst (λ e. Goes c.args.slots.now (plain-Memory c.args.memory.now) e (plain-Memory c.block_once.new.memory) c.block_once.result)
    (sym (block_form c.args.expr.now c.in-Block.statements c.in-Block.last c.as_slice.result.now c.get.result.now c.in-Block.is c.as_slice.ensures c.get.ensures)) (c.block_once.ensures (plain-Mark c.args.expr.now.mark))

pub returns-in-Choose : goal.returns-in-Choose
returns-in-Choose c =
    c.choice_once.ensures (plain-Mark c.args.expr.now.mark) (choose_form c.args.expr.now c.in-Choose.matched c.in-Choose.arms c.as_slice-in-Choose.result.now c.in-Choose.is c.as_slice-in-Choose.ensures)
