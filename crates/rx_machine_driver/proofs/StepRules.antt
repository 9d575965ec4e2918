-- The equations that the proofs of steps use.
use Rattle.std.proofs.Common.{◌≡◌, List, [], ◌∷◌, ◌++◌, refl}
use Rattle.rx_typed.specs.Tree.{Operands, no_operand, operand_and}
use Rattle.rx_typed.specs.PlainTree.{plain-Mark, plain-Form, plain-Expr, expr_is, matched_place, matched_value, stmt_runs, stmt_declares, stmt_lets}
use Rattle.rx_meaning.specs.Values as plain
use Rattle.rx_machine_values.specs.declared.value.Value.TheVariants as value
use Rattle.rx_machine_values.specs.PlainValues.{plain-Value, value_unit}
use Rattle.rx_machine_frames.specs.Frames as frames
use Rattle.rx_machine_driver.specs.PlainSteps.{next_operand}

pub ruleset matched_rules = (matched_place, matched_value)

pub ruleset stmt_rules = (stmt_runs, stmt_declares, stmt_lets)

pub unit_is : plain-Value value.Unit ≡ plain.unit_value
unit_is = value_unit

pub opened_operands_is : (w : frames.Work) (es : Operands) → frames.opened_operands w es ≡ next_operand w [] es
opened_operands_is w no_operand = refl
opened_operands_is w (operand_and i e es) = refl

pub filled_operand_is : (w : frames.Work) (vs : List plain.Value) (es : Operands) (v : plain.Value) → frames.filled (frames.operand w vs es) v ≡ next_operand w (vs ++ v ∷ []) es
filled_operand_is w vs no_operand v = refl
filled_operand_is w vs (operand_and i e es) v = refl
