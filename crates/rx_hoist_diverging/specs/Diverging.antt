-- The `let`s of a function whose initialiser never goes on, by their numbers (Rust Reference, "Never type", "let statements").
use Rattle.std.specs.Prelude.{ℕ, if◌then◌else◌, List, [], ◌∷◌, ◌++◌}
use Rattle.rx_typed.specs.Tree as tree
use Rattle.rx_typed.specs.Tree.{Exp, Operands, Scrutinee, Arms, Body}
use Rattle.rx_exits_plan.specs.Diverging.{diverges}

abbrev mutual
  pub diverging : Exp → List ℕ
  diverging (tree.read m v p) = []
  diverging (tree.borrow m k p) = []
  diverging (tree.share m e) = diverging e
  diverging (tree.build m w es) = diverging_operands es
  diverging (tree.unit m) = []
  diverging (tree.lazily m b e f) = diverging e ++ diverging f
  diverging (tree.assign m p e) = diverging e
  diverging (tree.update m o p e) = diverging e
  diverging (tree.call m f es) = diverging_operands es
  diverging (tree.input m) = []
  diverging (tree.print m e) = diverging e
  diverging (tree.block m b) = diverging_body b
  diverging (tree.choose m s l) = diverging_matched s ++ diverging_arms l
  diverging (tree.loop m l e) = diverging e
  diverging (tree.jump m l k) = []
  diverging (tree.give m e) = diverging e

  pub diverging_operands : Operands → List ℕ
  diverging_operands tree.no_operand = []
  diverging_operands (tree.operand_and i e es) = diverging e ++ diverging_operands es

  pub diverging_matched : Scrutinee → List ℕ
  diverging_matched (tree.at_place m p) = []
  diverging_matched (tree.of_value e) = diverging e

  pub diverging_arms : Arms → List ℕ
  diverging_arms tree.no_arm = []
  diverging_arms (tree.arm_and p e l) = diverging e ++ diverging_arms l

  pub diverging_body : Body → List ℕ
  diverging_body (tree.ends e) = diverging e
  diverging_body (tree.runs e b) = diverging e ++ diverging_body b
  diverging_body (tree.declares s xs b) = diverging_body b
  diverging_body (tree.lets s p c b) = diverging_let s c ++ diverging_body b

  -- of a `let` itself, by its number
  pub diverging_let : ℕ → Scrutinee → List ℕ
  diverging_let s (tree.at_place m p) = []
  diverging_let s (tree.of_value e) = (if diverges e then s ∷ [] else []) ++ diverging e
