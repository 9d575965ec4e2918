-- What a run that is selected in a text has (REM, "Extract function"): the plan's names are free, and its function's names have meanings,
-- also with kinds and types written out, where the run stands as is asked and is come to.
use Rattle.std.specs.Prelude.{◌≡◌, Ok}
use Rattle.rx_core.specs.declared.types.Span.{Span}
use Rattle.rx_tree.specs.Plain as plain
use Rattle.rx_tree.specs.Plain.{Function, ProgramTree}
use Rattle.rx_resolve_names.specs.declared.resolved.ItemNames.{ItemNames}
use Rattle.rx_resolve_names.specs.Items.{in_item}
use Rattle.rx_hoist_extraction.specs.Run.{labels_round, run_block, Run}
use Rattle.rx_hoist_extraction.specs.Plan.{Plan}
use Rattle.rx_hoist_extraction.specs.Pinned.{pinned_function}
use Rattle.rx_engine_names.specs.NewNames.{AreFree}
use Rattle.rx_engine_names.specs.Placed.{inside_of}
use Rattle.rx_engine_names.specs.CalledRuns.{RunStands}
use Rattle.rx_engine_names.specs.Reached.{RunReached}

pub record RunSelected (P : ProgramTree) (r : Run) (pl : Plan) (s : Span) (f : Function) : Type 0 where
  pub free : AreFree P pl
  pub text : ItemNames
  pub text_resolves : in_item P r.item (plain.function_item s f) ≡ Ok text
  pub stands : RunStands r pl (pinned_function P r.span pl.pins f)
  pub pinned : ItemNames
  pub resolves : in_item P r.item (plain.function_item s (pinned_function P r.span pl.pins f)) ≡ Ok pinned
  pub reached : RunReached (inside_of P r.item s (pinned_function P r.span pl.pins f)) (labels_round r (pinned_function P r.span pl.pins f)) r (run_block r (pinned_function P r.span pl.pins f))
