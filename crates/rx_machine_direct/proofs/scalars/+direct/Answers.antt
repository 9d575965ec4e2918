use Rattle.std.proofs.Common.{map, option_map, ap, sym, ◌∙◌}
use Rattle.rx_typed.specs.declared.tree.Operand.{Operand}
use Rattle.rx_typed.specs.PlainTree.{plain-Making, plain-Expr, plain-Operand, operands_of}
use Rattle.rx_machine_values.specs.PlainMemory.{plain-Memory}
use Rattle.rx_machine_direct.specs.Direct.{both, direct, built}
use Rattle.rx_machine_direct.specs.PlainScalar.{plain-Scalar}
use Rattle.rx_machine_direct.proofs.DirectRules.{two_built, other_built}
use Rattle.rx_machine_direct.proofs.scalars.+direct.Goals as goal

pub built-returns-then-operands-eq2 : goal.built-returns-then-operands-eq2
built-returns-then-operands-eq2 t c =
    c.both.ensures
    ∙ ap (λ o. both c.in-Operation.op o (option_map plain-Scalar c.direct-right.result)) (c.direct-left.ensures ∙ ap (λ (z : Operand). direct c.args.slots.now (plain-Memory c.args.memory.now) (plain-Expr z.value)) (sym c.index-operands-0.is))
    ∙ ap (λ o. both c.in-Operation.op (direct c.args.slots.now (plain-Memory c.args.memory.now) (plain-Expr c.index-operands-0.result.value)) o) (c.direct-right.ensures ∙ ap (λ (z : Operand). direct c.args.slots.now (plain-Memory c.args.memory.now) (plain-Expr z.value)) (sym c.index-operands-1.is))
    ∙ sym (two_built c.args.slots.now (plain-Memory c.args.memory.now) c.in-Operation.op c.args.operands.now c.index-operands-0.result c.index-operands-1.result c.if-operands-eq2.true c.index-operands-0.is c.index-operands-1.is)
    ∙ ap (λ m. built c.args.slots.now (plain-Memory c.args.memory.now) (plain-Making m) (operands_of (map plain-Operand c.args.operands.now))) (sym c.in-Operation.is)

pub built-returns-else-operands-eq2 : goal.built-returns-else-operands-eq2
built-returns-else-operands-eq2 t c =
    other_built c.args.slots.now (plain-Memory c.args.memory.now) c.in-Operation.op c.args.operands.now c.if-operands-eq2.false
    ∙ ap (λ m. built c.args.slots.now (plain-Memory c.args.memory.now) (plain-Making m) (operands_of (map plain-Operand c.args.operands.now))) (sym c.in-Operation.is)
