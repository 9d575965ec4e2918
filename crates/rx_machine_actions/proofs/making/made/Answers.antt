use Rattle.std.proofs.Common.{map, ap, sym, ◌∙◌}
use Rattle.rx_meaning.specs.Operators as operators
use Rattle.rx_typed.specs.PlainTree.{plain-Making}
use Rattle.rx_machine_values.specs.PlainValues.{plain-Value}
use Rattle.rx_machine_actions.specs.PlainActs.{written_fields}
use Rattle.rx_machine_actions.proofs.making.made.Goals as goal

pub returns-in-Constant : goal.returns-in-Constant
returns-in-Constant c =
    c.constant_made.ensures (written_fields c.args.operands.now)
    ∙ ap (λ m. operators.make (plain-Making m) (written_fields c.args.operands.now) (map plain-Value c.args.values)) (sym c.in-Constant.is)

pub returns-in-Negation : goal.returns-in-Negation
returns-in-Negation c =
    c.negation_made.ensures (written_fields c.args.operands.now)
    ∙ ap (λ m. operators.make (plain-Making m) (written_fields c.args.operands.now) (map plain-Value c.args.values)) (sym c.in-Negation.is)

pub returns-in-Inversion : goal.returns-in-Inversion
returns-in-Inversion c =
    c.inversion_made.ensures (written_fields c.args.operands.now)
    ∙ ap (λ m. operators.make (plain-Making m) (written_fields c.args.operands.now) (map plain-Value c.args.values)) (sym c.in-Inversion.is)

pub returns-in-Operation : goal.returns-in-Operation
returns-in-Operation c =
    c.operation_made.ensures (written_fields c.args.operands.now)
    ∙ ap (λ m. operators.make (plain-Making m) (written_fields c.args.operands.now) (map plain-Value c.args.values)) (sym c.in-Operation.is)
