-- What a plan by numbers says of its lists, and of how the caller has the variables outside (rx_exits_plan; REM, "Extract method").
use Rattle.std.specs.Prelude.{◌≡◌, ◌⊎◌, ℕ, [], Some, List}
use Rattle.rx_exits_plan.specs.Plan.{Plan}
use Rattle.rx_exits_plan.specs.Points.{next}
use Rattle.rx_engine_simulation.specs.Sights.{special, sight, In, Renaming, sight_of}
use Rattle.rx_engine_simulation.specs.Passing.{AreShut}
use Rattle.rx_engine_simulation.specs.Variants.{AllSpecial}
use Rattle.rx_engine_made_trees.specs.Seen.{AreUnseen, Distinct}

pub record RunNames (k : Plan) (R : Renaming) (cold : List ℕ) : Type 0 where
  -- each list has a variable once; params and locals are apart, and so are what is handed out and what is declared again
  pub params_distinct : AreUnseen [] k.params
  pub locals_distinct : AreUnseen [] k.locals
  pub params_apart : (x : ℕ) → In x k.locals → In x k.params → ⊥
  pub outs_distinct : Distinct (k.outs next)
  pub outs_apart : (x : ℕ) → In x k.redeclared → In x (k.outs next) → ⊥
  -- what is only looked at or copied isn't written meanwhile
  pub shut : AreShut R cold
  -- what is elsewhere moves, or is a local
  pub locals_special : AllSpecial R k.locals
  pub specials_enter : (x y : ℕ) → sight_of R x ≡ Some (sight y special) → In x k.params ⊎ In x k.locals
  -- what is declared again is not outside
  pub unseen : AreUnseen R k.redeclared
