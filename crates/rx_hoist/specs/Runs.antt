-- The run by numbers that a place in a program stands for (REM, "Extract function"). A position counts from the item: its first
-- number is that of the function's body among the children of the item.
use Rattle.std.specs.Prelude.{Bool, true, false, drop, Option, Some}
use Rattle.rx_tree.specs.Plain as plain
use Rattle.rx_tree.specs.Plain.{ItemTree}
use Rattle.rx_typed_runs.specs.declared.runs.RunPos.{RunPos}
use Rattle.rx_hoist_extraction.specs.Run.{Run}

abbrev pub run_of : RunPos → Run
run_of r = record { item = r.function; way = drop 1 r.block.path; first = r.first; last = r.last; span = r.span }

abbrev pub is_function : Option ItemTree → Bool
is_function (Some (plain.function_item s f)) = true
is_function _ = false
