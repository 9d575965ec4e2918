-- When the name of a variable that an exit hands out means another variable there. (Rust Reference, "Scopes", "Shadowing".)
use Rattle.std.specs.Prelude.{◌≢◌, ℕ, Bool, if◌then◌else◌, List, [], ◌∷◌, Option, Some, None}
use Rattle.rx_lower_walks.specs.Walks.{Among}
use Rattle.rx_exits_plan.specs.Points.{next}
use Rattle.rx_exits_plan.specs.Exits.{Jump, jumps, at_end}
use Rattle.rx_exits_plan.specs.Asked.{Asked}
use Rattle.rx_exits_plan.specs.Plan.{Plan}

-- the variable that a name means, where it is told which variables have one name
abbrev pub meant : (ℕ → ℕ → Bool) → ℕ → List ℕ → Option ℕ
meant same x [] = None
meant same x (y ∷ ys) = if same y x then Some y else meant same x ys

-- at a jump of the exit, reached or not; at the run's end
pub data Shadowed (A : Asked) (k : Plan) (same : ℕ → ℕ → Bool) (x : ℕ) : Type 0 where
  at_jump : (j : Jump) → Among j (jumps A.run A.home) → Among x (k.outs j.exit) → meant same x j.scope ≢ Some x → Shadowed A k same x
  at_the_end : Among next k.exits → Among x (k.outs next) → meant same x (at_end A.run A.home).scope ≢ Some x → Shadowed A k same x
