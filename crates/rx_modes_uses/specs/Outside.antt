-- The actions of a run, of the rest of its function, and of the whole function, whether or not some walk holds them: those that the
-- order of actions of the typed tree names. (Rust Reference, "Expressions", "Evaluation order of operands".)
use Rattle.std.specs.Prelude.{◌==◌, if◌then◌else◌, List}
use Rattle.rx_typed.specs.Tree.{unit, jump, Body, ends, Function, mark_of}
use Rattle.rx_lower_walks.specs.Actions.{Action}
use Rattle.rx_lower_walks.specs.Orders.{order_function}
use Rattle.rx_lower_walks.specs.Walks.{actions_in}
use Rattle.rx_exits_plan.specs.Blocks.{tail, before}
use Rattle.rx_exits_plan.specs.Runs.{Run, in_front, behind}
use Rattle.rx_exits_plan.specs.Changed.{Changes, changed_function}
use Rattle.rx_exits_plan.specs.Asked.{Asked}
use Rattle.rx_exits_plan.specs.Plan as plan

-- the run's block: what stands in front of the run and behind it, and the tail unless that is of the run
abbrev pub without_run : Run → Body → Body
without_run r b = before (in_front r b) (before (behind r b) (ends (if r.tail then unit (mark_of (tail b)) else tail b)))

abbrev pub cutting : Run → Changes
cutting r = record {
  at_block = λ n was b. if n == r.block then without_run r was else b;
  at_jump = λ m l again. jump m l again;
  at_return = λ e. e;
}

abbrev pub rest : Asked → Function
rest A = changed_function (cutting A.run) A.function

abbrev pub in_run : Asked → List Action
in_run A = plan.run_actions A.run A.home.body

abbrev pub outside_run : Asked → List Action
outside_run A = actions_in (order_function (rest A))

abbrev pub in_function : Asked → List Action
in_function A = actions_in (order_function A.function)
