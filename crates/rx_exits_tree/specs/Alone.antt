-- The run as a function of its own: no parameters, and a block of the run's statements, with its last value as a statement. It has the
-- actions of the run. (REM, OOPSLA 2023.)
use Rattle.std.specs.Prelude.{List, [], ◌∷◌, Option, Some, None}
use Rattle.rx_typed.specs.Tree.{Exp, unit, block, Body, ends, Function}
use Rattle.rx_exits_plan.specs.Blocks.{Statement, does, before}
use Rattle.rx_exits_plan.specs.Runs.{Run, inside, last_value}
use Rattle.rx_exits_tree.specs.Shapes.{mark_at}

abbrev pub value_as_statement : Option Exp → List Statement
value_as_statement None = []
value_as_statement (Some e) = does e ∷ []

abbrev pub alone : Run → Body → Function
alone r b = record {
  params = [];
  body = block (mark_at r.block) (before (inside r b) (before (value_as_statement (last_value r b)) (ends (unit (mark_at r.block)))));
}
