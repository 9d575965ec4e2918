-- The exits of a run that has some jumps. (Rust Reference, "break expressions", "continue expressions", "return expressions".)
use Rattle.std.specs.Prelude.{if◌then◌else◌, List, [], ◌∷◌, ◌++◌}
use Rattle.rx_exits_plan.specs.Points.{Exit, next, returns}
use Rattle.rx_exits_plan.specs.Runs.{Run, Home}
use Rattle.rx_exits_plan.specs.Diverging.{run_diverges}
use Rattle.rx_exits_plan.specs.Exits.{Jump, of_loops, where_taken}

-- those of the run's own jumps are `exits` of rx_exits_plan
abbrev pub exits_by : List Jump → Run → Home → List Exit
exits_by js r h = (if run_diverges r h.body then [] else next ∷ []) ++ (of_loops h.around.loops js ++ where_taken returns js)
