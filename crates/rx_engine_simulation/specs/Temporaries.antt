-- Expressions that do the same to whichever temporary their value goes: they give the unit by their form, or nothing.
use Rattle.std.specs.Prelude.{◌≡◌, ℕ, Bool, List}
use Rattle.rx_tree.specs.declared.tree.BinaryOp.{BinaryOp}
use Rattle.rx_typed.specs.Tree as tree
use Rattle.rx_typed.specs.Tree.{Mark, Place, Pattern, Exp, Scrutinee, Arms, Body, Temporary}
use Rattle.rx_lower_walks.specs.Actions.{Action}
use Rattle.rx_lower_walks.specs.Orders.{order_body}
use Rattle.rx_engine_simulation.specs.Histories.{Facts}
use Rattle.rx_engine_simulation.specs.Passed.{let_pass}

mutual
  pub data Forgets : Exp → Type 0 where
    forgets_unit : {m : Mark} → Forgets (tree.unit m)
    forgets_assignment : {m : Mark} {p : Place} {e : Exp} → Forgets (tree.assign m p e)
    forgets_update : {m : Mark} {o : BinaryOp} {p : Place} {e : Exp} → Forgets (tree.update m o p e)
    forgets_print : {m : Mark} {e : Exp} → Forgets (tree.print m e)
    forgets_block : {m : Mark} {b : Body} → BodyForgets b → Forgets (tree.block m b)
    forgets_choice : {m : Mark} {c : Scrutinee} {l : Arms} → ArmsForget l → Forgets (tree.choose m c l)
    forgets_loop : {m : Mark} {l : ℕ} {e : Exp} → Forgets (tree.loop m l e)
    forgets_jump : {m : Mark} {l : ℕ} {again : Bool} → Forgets (tree.jump m l again)
    forgets_return : {m : Mark} {e : Exp} → Forgets (tree.give m e)

  pub data ArmsForget : Arms → Type 0 where
    no_arm_forgets : ArmsForget tree.no_arm
    each_forgets : {q : Pattern} {e : Exp} {l : Arms} → Forgets e → ArmsForget l → ArmsForget (tree.arm_and q e l)

  pub data BodyForgets : Body → Type 0 where
    tail_forgets : {e : Exp} → Forgets e → BodyForgets (tree.ends e)
    forgets_behind_run : {e : Exp} {b : Body} → BodyForgets b → BodyForgets (tree.runs e b)
    forgets_behind_declaration : {n : ℕ} {xs : List ℕ} {b : Body} → BodyForgets b → BodyForgets (tree.declares n xs b)
    forgets_behind_let : {n : ℕ} {q : Pattern} {c : Scrutinee} {b : Body} → BodyForgets b → BodyForgets (tree.lets n q c b)

-- the tail of a block is such a one, or it is told that it passed; or where a walk comes to the block the value goes to a temporary of an operand
pub data IsPlaced (V : Facts) (block : Body) : Exp → Type 0 where
  is_forgotten : {e : Exp} → Forgets e → IsPlaced V block e
  is_let_pass : {e : Exp} → IsPlaced V block (let_pass e)
  goes_to_operand : {e : Exp} → ((i : ℕ) (t : Temporary) (h : List Action) → V.Comes (order_body block i t) h → t.which ≡ 0) → IsPlaced V block e
