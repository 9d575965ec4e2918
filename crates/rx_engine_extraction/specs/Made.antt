-- The programs that a case makes: the extraction without bounds, and with those that its new function needs (REM, "Extract function").
use Rattle.std.specs.Prelude.{ℕ, [], drop}
use Rattle.rx_tree.specs.Plain.{ProgramTree}
use Rattle.rx_typed_runs.specs.declared.runs.RunPos.{RunPos}
use Rattle.rx_facts.specs.Functions.{body}
use Rattle.rx_hoist_diverging.specs.Diverging.{diverging}
use Rattle.rx_hoist_extraction.specs.Run.{Run}
use Rattle.rx_hoist_extraction.specs.Plan.{Bounds, Plan}
use Rattle.rx_hoist_extraction.specs.Extraction.{extraction, new_number}
use Rattle.rx_hoist_naming.specs.NamedPlan.{Told, named_plan}
use Rattle.rx_repair.specs.Named.{named_at}
use Rattle.rx_engine_extraction.specs.Source.{Text, Wish, declared_in}
use Rattle.rx_engine_extraction.specs.Case.{Case}

-- the run by the way to its block from the function's body on: the children of the item in front of the body are no blocks
abbrev pub run_of : RunPos → Run
run_of r = record { item = r.function; way = drop 1 r.block.path; first = r.first; last = r.last; span = r.span }

abbrev pub told : Text → Wish → Case → Told
told T w d = record {
  tokens = T.tokens;
  program = T.program;
  declared = declared_in T;
  function = d.function;
  diverging = diverging (body d.function).body;
  run = d.run;
  loops = d.home.around.loops;
  plan = d.listed;
  modes = d.modes;
  moved = d.moved;
  name = w.name;
}

-- the plan by names
abbrev pub named : Text → Wish → Case → Plan
named T w d = named_plan (told T w d)

-- the program with the call, whose new function has no bounds
abbrev pub hoisted : Text → Wish → Case → ProgramTree
hoisted T w d = extraction T.program (run_of d.run) (named T w d) []

-- the number of the new function's item
abbrev pub new_item : Text → Wish → Case → ℕ
new_item T w d = new_number (run_of d.run) (named T w d)

-- the bounds by the names of the new function's lifetimes
abbrev pub named_bounds : Text → Wish → Case → Bounds
named_bounds T w d = named_at (hoisted T w d) (new_item T w d) d.bounds

-- the extraction, with these
abbrev pub extracted : Text → Wish → Case → ProgramTree
extracted T w d = extraction T.program (run_of d.run) (named T w d) (named_bounds T w d)
