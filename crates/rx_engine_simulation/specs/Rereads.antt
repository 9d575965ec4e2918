-- Programs in which the reference that a variable holds is read, where the other asks for it again, as a coercion does (Rust
-- Reference, "Coercion sites", "Coercion types"). All else is the same.
use Rattle.std.specs.Prelude.{◌≡◌, ℕ, Bool, true, [], ◌∷◌, List, Option, Some}
use Rattle.rx_core.specs.declared.types.Step.TheVariants as step
use Rattle.rx_tree.specs.declared.tree.BinaryOp.{BinaryOp}
use Rattle.rx_typed.specs.Tree as tree
use Rattle.rx_typed.specs.Tree.{Place, Pattern, Mark, Making, Exp, Operands, Scrutinee, Arms, Body, Function, own, under}
use Rattle.rx_meaning.specs.Values.{element}
use Rattle.rx_meaning.specs.Programs.{Program}

mutual
  pub data Rereads : Exp → Exp → Type 0 where
    -- here
    is_read : {m : Mark} {z : ℕ} {n w : Bool} → Rereads (tree.borrow m true (under (own z) (step.Deref n ∷ []))) (tree.read m w (own z))
    same_read : {m : Mark} {w : Bool} {p : Place} → Rereads (tree.read m w p) (tree.read m w p)
    same_borrow : {m : Mark} {k : Bool} {p : Place} → Rereads (tree.borrow m k p) (tree.borrow m k p)
    same_unit : {m : Mark} → Rereads (tree.unit m) (tree.unit m)
    same_input : {m : Mark} → Rereads (tree.input m) (tree.input m)
    same_jump : {m : Mark} {l : ℕ} {again : Bool} → Rereads (tree.jump m l again) (tree.jump m l again)
    in_share : {m : Mark} {e e' : Exp} → Rereads e e' → Rereads (tree.share m e) (tree.share m e')
    in_build : {m : Mark} {w : Making} {es es' : Operands} → RereadsAll es es' → Rereads (tree.build m w es) (tree.build m w es')
    in_lazily : {m : Mark} {b : Bool} {e f e' f' : Exp} → Rereads e e' → Rereads f f' → Rereads (tree.lazily m b e f) (tree.lazily m b e' f')
    in_assign : {m : Mark} {p : Place} {e e' : Exp} → Rereads e e' → Rereads (tree.assign m p e) (tree.assign m p e')
    in_update : {m : Mark} {o : BinaryOp} {p : Place} {e e' : Exp} → Rereads e e' → Rereads (tree.update m o p e) (tree.update m o p e')
    in_call : {m : Mark} {f : ℕ} {es es' : Operands} → RereadsAll es es' → Rereads (tree.call m f es) (tree.call m f es')
    in_print : {m : Mark} {e e' : Exp} → Rereads e e' → Rereads (tree.print m e) (tree.print m e')
    in_block : {m : Mark} {b b' : Body} → RereadsBody b b' → Rereads (tree.block m b) (tree.block m b')
    in_choose : {m : Mark} {c c' : Scrutinee} {l l' : Arms} → RereadsMatched c c' → RereadsArms l l' → Rereads (tree.choose m c l) (tree.choose m c' l')
    in_loop : {m : Mark} {l : ℕ} {e e' : Exp} → Rereads e e' → Rereads (tree.loop m l e) (tree.loop m l e')
    in_give : {m : Mark} {e e' : Exp} → Rereads e e' → Rereads (tree.give m e) (tree.give m e')

  pub data RereadsAll : Operands → Operands → Type 0 where
    in_none : RereadsAll tree.no_operand tree.no_operand
    in_operand : {i : ℕ} {e e' : Exp} {es es' : Operands} → Rereads e e' → RereadsAll es es' → RereadsAll (tree.operand_and i e es) (tree.operand_and i e' es')

  pub data RereadsMatched : Scrutinee → Scrutinee → Type 0 where
    in_place_of : {m : Mark} {p : Place} → RereadsMatched (tree.at_place m p) (tree.at_place m p)
    in_value_of : {e e' : Exp} → Rereads e e' → RereadsMatched (tree.of_value e) (tree.of_value e')

  pub data RereadsArms : Arms → Arms → Type 0 where
    in_no_arm : RereadsArms tree.no_arm tree.no_arm
    in_arm : {q : Pattern} {e e' : Exp} {l l' : Arms} → Rereads e e' → RereadsArms l l' → RereadsArms (tree.arm_and q e l) (tree.arm_and q e' l')

  pub data RereadsBody : Body → Body → Type 0 where
    in_end : {e e' : Exp} → Rereads e e' → RereadsBody (tree.ends e) (tree.ends e')
    in_run : {e e' : Exp} {b b' : Body} → Rereads e e' → RereadsBody b b' → RereadsBody (tree.runs e b) (tree.runs e' b')
    in_declare : {i : ℕ} {xs : List ℕ} {b b' : Body} → RereadsBody b b' → RereadsBody (tree.declares i xs b) (tree.declares i xs b')
    in_let : {i : ℕ} {q : Pattern} {c c' : Scrutinee} {b b' : Body} → RereadsMatched c c' → RereadsBody b b' → RereadsBody (tree.lets i q c b) (tree.lets i q c' b')

abbrev pub IsNoFunction : Option (Option Function) → Type 0
IsNoFunction (Some (Some f)) = ⊥
IsNoFunction _ = Unit {0}

pub data RereadsEntry : Option (Option Function) → Option (Option Function) → Type 0 where
  no_function : {o o' : Option (Option Function)} → IsNoFunction o → IsNoFunction o' → RereadsEntry o o'
  in_function : {f f' : Function} → f.params ≡ f'.params → Rereads f.body f'.body → RereadsEntry (Some (Some f)) (Some (Some f'))

pub record RereadsProgram (P Q : Program) : Type 0 where
  pub all : (f : ℕ) → RereadsEntry (element P.functions f) (element Q.functions f)
  pub mains : P.main ≡ Q.main
