-- A block of the text in the typed tree of its function: by its number, with as many statements (Rust Reference, "Block
-- expressions").
use Rattle.std.specs.Prelude.{◌≡◌, ℕ, length}
use Rattle.rx_tree.specs.Plain as plain
use Rattle.rx_tree.specs.Lists.{statements}
use Rattle.rx_typed.specs.Tree.{Body, Function}
use Rattle.rx_lower_walks.specs.Walks.{Among}
use Rattle.rx_exits_plan.specs.Blocks.{statements as typed_statements}
use Rattle.rx_exits_plan.specs.Spots.{Around, a_block, spots_of_function}

pub record TypedBlock (f : Function) (number : ℕ) (b : plain.Body) : Type 0 where
  pub around : Around
  pub body : Body
  pub among : Among (a_block around number body) (spots_of_function f)
  pub long : length (typed_statements body) ≡ length (statements b)
