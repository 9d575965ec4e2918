-- A text and the extraction of a run of it by a plan: the plan's names are free, its types name structs and enums of the text, and what it makes keeps the limits of
-- types; the names of both have meanings, and both declare what they do (REM, "Extract function"; Rust Reference, "Items").
use Rattle.std.specs.Prelude.{◌≡◌, ℕ, List, Ok, slice_get, Some}
use Rattle.rx_core.specs.declared.types.Span.{Span}
use Rattle.rx_tree.specs.Lists.{nth}
use Rattle.rx_tree.specs.Plain as plain
use Rattle.rx_tree.specs.Plain.{Function, ProgramTree}
use Rattle.rx_resolve_names.specs.declared.resolved.ItemNames.{ItemNames}
use Rattle.rx_resolve_names.specs.Items.{in_program}
use Rattle.rx_typed.specs.PlainTypes.{declarations}
use Rattle.rx_typed.specs.Types.{result_declared}
use Rattle.rx_typed.specs.declared.declarations.Decl.{Decl}
use Rattle.rx_typed_declarations.specs.Sizes.{IsSizes}
use Rattle.rx_typeck_solver.specs.Facts.{KnownItems}
use Rattle.rx_typeck_solver.specs.Stepping.{known}
use Rattle.rx_typeck_typed.specs.Programs.{Declares}
use Rattle.rx_hoist_extraction.specs.Run.{Run}
use Rattle.rx_hoist_extraction.specs.Plan.{Bounds, Plan}
use Rattle.rx_hoist_extraction.specs.Extraction.{extraction}
use Rattle.rx_engine_names.specs.NewNames.{AreFree}
use Rattle.rx_engine_names.specs.NewPlan.{TypesNamed}
use Rattle.rx_engine_standing.specs.PlanFits.{PlanFits}

pub record TwoPrograms (p : ProgramTree) (r : Run) (pl : Plan) (bs : Bounds) : Type 0 where
  pub place : Span
  pub function : Function
  pub there : nth p r.item ≡ Some (plain.function_item place function)
  pub free : AreFree p pl
  pub named : TypesNamed p pl
  pub names : List ItemNames
  pub names' : List ItemNames
  pub meant : in_program p ≡ Ok names
  pub meant' : in_program (extraction p r pl bs) ≡ Ok names'
  pub declared : List Decl
  pub declared' : List Decl
  pub declares : Declares p names declared
  pub declares' : Declares (extraction p r pl bs) names' declared'
  pub sizes : List ℕ
  pub sizes' : List ℕ
  pub sized : IsSizes (declarations declared) sizes
  pub sized' : IsSizes (declarations declared') sizes'
  -- the plan's result is that of the function of the run
  pub result : result_declared (slice_get (declarations declared) r.item) ≡ Some pl.result
  pub most : ℕ → ℕ
  pub fits : PlanFits most (known declared sizes) pl

abbrev pub of_text : {p : ProgramTree} {r : Run} {pl : Plan} {bs : Bounds} → TwoPrograms p r pl bs → KnownItems
of_text t = known t.declared t.sizes

abbrev pub of_extraction : {p : ProgramTree} {r : Run} {pl : Plan} {bs : Bounds} → TwoPrograms p r pl bs → KnownItems
of_extraction t = known t.declared' t.sizes'
