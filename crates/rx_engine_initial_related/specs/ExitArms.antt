-- That the match over the exits has no arm but theirs: each arm is the first for the variant of an exit. (REM: "Adventures in refactoring Rust: extract
-- function", OOPSLA 2023; Rust Reference, "match expressions".) The relation of trees says which arm an exit has, and nothing of others; one that
-- is never taken is in the order of actions all the same, and might read a variable that has moved.
use Rattle.std.specs.Prelude.{◌≡◌, ℕ, Bool, Some}
use Rattle.rx_typed.specs.Tree as tree
use Rattle.rx_typed.specs.Tree.{Exp, Arms, Subpatterns}
use Rattle.rx_lower_walks.specs.Walks.{Among}
use Rattle.rx_exits_plan.specs.Points.{Exit}
use Rattle.rx_exits_plan.specs.Plan.{Plan}
use Rattle.rx_engine_simulation.specs.Packing.{Picks}
use Rattle.rx_engine_related.specs.Leaving.{variant_for}

-- of all arms, those that are left
pub data OnlyExits (k : Plan) (all : Arms) : Arms → Type 0 where
  no_more_arms : OnlyExits k all tree.no_arm
  arm_of : {n i v : ℕ} {several : Bool} {ps : Subpatterns} {e : Exp} {l : Arms} (x : Exit) → Among x k.exits → variant_for k x ≡ Some v → Picks all v ps e → OnlyExits k all l
      → OnlyExits k all (tree.arm_and (tree.variant n i several v ps) e l)
