-- The exits of a plan have names of their own, and the types that it makes keep the limits of types (REM, "Extract function"; Rust Reference, "Types").
use Rattle.std.specs.Prelude.{◌≡◌, ◌≤◌, ℕ, IsTrue, length, None}
use Rattle.rx_tree.specs.Lists.{Every}
use Rattle.rx_typed.specs.Types.{keeps_limits, outline}
use Rattle.rx_typeck_solver.specs.Facts.{KnownItems}
use Rattle.rx_hoist_extraction.specs.Names.{Distinct}
use Rattle.rx_hoist_extraction.specs.Plan.{Plan, Variable}
use Rattle.rx_hoist_extraction.specs.Limits.{first_past, made_levels, made_parts}
use Rattle.rx_engine_names.specs.NewPlan.{exit_names}

-- `Z` tells at least as many parts of each struct and enum as the program's table
pub record PlanFits (Z : ℕ → ℕ) (D : KnownItems) (pl : Plan) : Type 0 where
  pub exits : Distinct (exit_names pl.exits)
  pub few : length pl.exits ≤ 4294967296
  pub levels : first_past 128 (made_levels pl) ≡ None
  pub sizes : (i : ℕ) → D.sizes i ≤ Z i
  pub parts : first_past 4096 (made_parts Z pl) ≡ None
  pub redeclared : Every (λ (v : Variable). IsTrue (keeps_limits D.sizes (outline v.typ))) pl.redeclared
