use Rattle.std.proofs.Common.{map, ap, sym, ◌∙◌}
use Rattle.rx_typed.specs.Tree as tree
use Rattle.rx_meaning.specs.Operators as operators
use Rattle.rx_machine_values.specs.PlainValues.{plain-Value}
use Rattle.rx_machine_actions.proofs.making.negation_made.Goals as goal

pub returns-in-Some : goal.returns-in-Some
returns-in-Some c = λ js. c.negated_value.ensures js ∙ ap (λ l. operators.make tree.negation js (map plain-Value l)) (sym c.in-Some.ensures)
