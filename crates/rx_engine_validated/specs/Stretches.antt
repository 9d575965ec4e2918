-- The statements of a run as a stretch of a block, or with the last one, an expression, apart from the others (Rust Reference, "Statements").
use Rattle.std.specs.Prelude.{◌≡◌, List, [], ◌∷◌, ◌++◌}
use Rattle.rx_typed.specs.Tree.{Exp}
use Rattle.rx_exits_plan.specs.Points.{Point}
use Rattle.rx_exits_plan.specs.Blocks.{Statement, does}
use Rattle.rx_engine_simulation.specs.Blocks.{Stretch}
use Rattle.rx_engine_simulation.specs.Endings.{Last, none_left, a_marked}
use Rattle.rx_engine_related.specs.Stretched.{stretch_of}

-- what is left of statements behind those of a stretch: nothing, or the last one with a mark behind it
pub data Divided (ss : List Statement) : Last → Stretch → Type 0 where
  all_in_front : Divided ss none_left (stretch_of ss)
  last_behind : {e : Exp} {p : Point} (front : List Statement) → ss ≡ front ++ does e ∷ [] → Divided ss (a_marked e p) (stretch_of front)
