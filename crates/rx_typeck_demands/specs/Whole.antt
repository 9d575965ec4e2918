-- What the rules of types ask of a function, as data of the code, with the spans of its nodes, what its variables are, and
-- its `let`s that have a type.
use Rattle.std.specs.Prelude.{List}
use Rattle.rx_core.specs.declared.types.Span.{Span}
use Rattle.rx_typed.specs.declared.nodes.Declaration.{Declaration}
use Rattle.rx_typeck_solver.specs.Valid as valid
use Rattle.rx_typeck_elaborate_parts.specs.declared.cursor.Annotation.{Annotation}
use Rattle.rx_typeck_demands.specs.declared.function.Task.{Task}

abbrev pub task_of : valid.Task → List Span → List Declaration → List Annotation → Task
task_of t spans variables annotations =
    record { demands = t.demands; literals = t.literals; spans = spans; variables = variables; annotations = annotations }
