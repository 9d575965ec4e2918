use Rattle.std.proofs.Common.{ap}
use Rattle.rx_typed.specs.PlainTree.{plain-Expr}
use Rattle.rx_meaning.specs.Values.{unit_value}
use Rattle.rx_machine_values.specs.PlainValues.{value_unit}
use Rattle.rx_machine_frames.specs.Frames as frames
use Rattle.rx_machine_direct.specs.PlainScalar.{plain-Scalar}
use Rattle.rx_machine_driver.specs.PlainSteps.{plain-Next, rest_of}
use Rattle.rx_machine_driver.proofs.ReachLemmas.{begins_gave, begins_into, begins_statements, begins_where}
use Rattle.rx_machine_driver.proofs.arriving.begun.Goals as goal

pub returns-in-Gave : goal.returns-in-Gave
returns-in-Gave c = begins_where c.args.reached _ _ c.in-Gave.is (begins_gave (plain-Scalar c.in-Gave.scalar) _ (ap frames.gives c.value.ensures))

pub returns-in-Unit : goal.returns-in-Unit
returns-in-Unit c = begins_where c.args.reached _ _ c.in-Unit.is (begins_gave unit_value _ (ap frames.gives value_unit))

pub returns-in-Into : goal.returns-in-Into
returns-in-Into c = begins_where c.args.reached _ _ c.in-Into.is (begins_into (plain-Expr c.in-Into.expr.now) (plain-Next c.opened.result) c.opened.ensures)

pub returns-in-Statements : goal.returns-in-Statements
returns-in-Statements c = begins_where c.args.reached _ _ c.in-Statements.is (begins_statements (rest_of c.in-Statements.rest.now c.in-Statements.last.now) (plain-Next c.opened_body.result) c.opened_body.ensures)
