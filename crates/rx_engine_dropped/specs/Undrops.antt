-- Programs of which the one drops what calls of one function give, where they stand in front of a block's unit, and in the other the block gives it
-- (Rust Reference, "Block expressions", "Expression statements"). All else is the same.
use Rattle.std.specs.Prelude.{◌≡◌, ℕ, Bool, List, Option, Some}
use Rattle.rx_tree.specs.declared.tree.BinaryOp.{BinaryOp}
use Rattle.rx_typed.specs.Tree as tree
use Rattle.rx_typed.specs.Tree.{Mark, Place, Pattern, Making, Exp, Operands, Scrutinee, Arms, Body, Function}
use Rattle.rx_meaning.specs.Values.{element}
use Rattle.rx_meaning.specs.Programs.{Program}

-- by the function's item
mutual
  pub data Undrops (N : ℕ) : Exp → Exp → Type 0 where
    u_read : {m : Mark} {v : Bool} {p : Place} → Undrops N (tree.read m v p) (tree.read m v p)
    u_borrow : {m : Mark} {k : Bool} {p : Place} → Undrops N (tree.borrow m k p) (tree.borrow m k p)
    u_share : {m : Mark} {e e' : Exp} → Undrops N e e' → Undrops N (tree.share m e) (tree.share m e')
    u_build : {m : Mark} {w : Making} {es es' : Operands} → UndropsAll N es es' → Undrops N (tree.build m w es) (tree.build m w es')
    u_unit : {m : Mark} → Undrops N (tree.unit m) (tree.unit m)
    u_lazily : {m : Mark} {b : Bool} {e f e' f' : Exp} → Undrops N e e' → Undrops N f f' → Undrops N (tree.lazily m b e f) (tree.lazily m b e' f')
    u_assign : {m : Mark} {p : Place} {e e' : Exp} → Undrops N e e' → Undrops N (tree.assign m p e) (tree.assign m p e')
    u_update : {m : Mark} {o : BinaryOp} {p : Place} {e e' : Exp} → Undrops N e e' → Undrops N (tree.update m o p e) (tree.update m o p e')
    u_call : {m : Mark} {f : ℕ} {es es' : Operands} → UndropsAll N es es' → Undrops N (tree.call m f es) (tree.call m f es')
    u_input : {m : Mark} → Undrops N (tree.input m) (tree.input m)
    u_print : {m : Mark} {e e' : Exp} → Undrops N e e' → Undrops N (tree.print m e) (tree.print m e')
    u_block : {m : Mark} {b b' : Body} → UndropsBody N b b' → Undrops N (tree.block m b) (tree.block m b')
    u_choose : {m : Mark} {c c' : Scrutinee} {l l' : Arms} → UndropsMatched N c c' → UndropsArms N l l' → Undrops N (tree.choose m c l) (tree.choose m c' l')
    u_loop : {m : Mark} {l : ℕ} {e e' : Exp} → Undrops N e e' → Undrops N (tree.loop m l e) (tree.loop m l e')
    u_jump : {m : Mark} {l : ℕ} {k : Bool} → Undrops N (tree.jump m l k) (tree.jump m l k)
    u_give : {m : Mark} {e e' : Exp} → Undrops N e e' → Undrops N (tree.give m e) (tree.give m e')

  pub data UndropsAll (N : ℕ) : Operands → Operands → Type 0 where
    u_none : UndropsAll N tree.no_operand tree.no_operand
    u_operand : {i : ℕ} {e e' : Exp} {es es' : Operands} → Undrops N e e' → UndropsAll N es es' → UndropsAll N (tree.operand_and i e es) (tree.operand_and i e' es')

  pub data UndropsMatched (N : ℕ) : Scrutinee → Scrutinee → Type 0 where
    u_place : {m : Mark} {p : Place} → UndropsMatched N (tree.at_place m p) (tree.at_place m p)
    u_value : {e e' : Exp} → Undrops N e e' → UndropsMatched N (tree.of_value e) (tree.of_value e')

  pub data UndropsArms (N : ℕ) : Arms → Arms → Type 0 where
    u_no_arm : UndropsArms N tree.no_arm tree.no_arm
    u_arm : {q : Pattern} {e e' : Exp} {l l' : Arms} → Undrops N e e' → UndropsArms N l l' → UndropsArms N (tree.arm_and q e l) (tree.arm_and q e' l')

  pub data UndropsBody (N : ℕ) : Body → Body → Type 0 where
    -- here: of a block, or of a function's body
    undropped : {m mu : Mark} {es es' : Operands} → UndropsAll N es es' → UndropsBody N (tree.runs (tree.call m N es) (tree.ends (tree.unit mu))) (tree.ends (tree.call m N es'))
    undropped_given : {m mg mu : Mark} {es es' : Operands} → UndropsAll N es es'
        → UndropsBody N (tree.runs (tree.call m N es) (tree.ends (tree.give mg (tree.unit mu)))) (tree.ends (tree.give mg (tree.call m N es')))
    u_ends : {e e' : Exp} → Undrops N e e' → UndropsBody N (tree.ends e) (tree.ends e')
    u_runs : {e e' : Exp} {b b' : Body} → Undrops N e e' → UndropsBody N b b' → UndropsBody N (tree.runs e b) (tree.runs e' b')
    u_declares : {i : ℕ} {xs : List ℕ} {b b' : Body} → UndropsBody N b b' → UndropsBody N (tree.declares i xs b) (tree.declares i xs b')
    u_lets : {i : ℕ} {q : Pattern} {c c' : Scrutinee} {b b' : Body} → UndropsMatched N c c' → UndropsBody N b b' → UndropsBody N (tree.lets i q c b) (tree.lets i q c' b')

pub record UndropsFunction (N : ℕ) (g g' : Function) : Type 0 where
  pub params : g.params ≡ g'.params
  pub body : Undrops N g.body g'.body

-- what no function stands at is the same
pub data UndropsEntry (N : ℕ) : Option (Option Function) → Option (Option Function) → Type 0 where
  u_same : {o : Option (Option Function)} → UndropsEntry N o o
  u_function : {g g' : Function} → UndropsFunction N g g' → UndropsEntry N (Some (Some g)) (Some (Some g'))

pub record UndropsProgram (N : ℕ) (P Q : Program) : Type 0 where
  pub all : (f : ℕ) → UndropsEntry N (element P.functions f) (element Q.functions f)
  pub mains : P.main ≡ Q.main
