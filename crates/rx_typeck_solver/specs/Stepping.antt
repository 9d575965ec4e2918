-- A step of the code is a step of the solver.
use Rattle.std.specs.Prelude.{◌≡◌, ℕ, Bool, List}
use Rattle.rx_typed.specs.declared.declarations.Decl.{Decl}
use Rattle.rx_typed.specs.PlainTypes.{declarations}
use Rattle.rx_typeck_solver.specs.declared.arena.Entry.{Entry}
use Rattle.rx_typeck_solver.specs.declared.tables.Tables.{Tables}
use Rattle.rx_typeck_solver.specs.Facts.{KnownItems}
use Rattle.rx_typeck_solver.specs.Solver.{Step}
use Rattle.rx_typeck_solver.specs.Parents.{step_if}
use Rattle.rx_typeck_solver.specs.Cells.{sizes_of}
use Rattle.rx_typeck_solver.specs.Tabled.{state_of, Fits, Sized}

-- what is declared, and the parts of items
abbrev pub known : List Decl → List ℕ → KnownItems
known items sizes = record { items = declarations items; sizes = sizes_of sizes }

-- the arena and the tables stand for the state after the step, if it goes on
pub record Stepped (sizes : List ℕ) (es : List Entry) (t : Tables) (asked : Step) (goes : Bool) : Type 0 where
  pub step : asked ≡ step_if goes (state_of es t)
  pub fits : Fits es t
  pub sized : Sized sizes es
