-- The equations of what is given at once, form by form.
use Rattle.std.proofs.Common.{◌≡◌, ℕ, List, [], ◌∷◌, Bool, Option, None, map, length, get_or, refl, sym, ap, ◌∙◌, arith}
use Rattle.rx_tree.specs.declared.tree.BinaryOp.{BinaryOp}
use Rattle.rx_typed.specs.Tree.{Mark, Constant, Making, constant, operation, negation, inversion, tuple, struct, variant_of, Place, Exp, read, build, borrow, share, unit, lazily, assign, update, call, input, print, block, choose, loop, jump, give, Operands, Scrutinee, Arms, Body}
use Rattle.rx_typed.specs.declared.tree.Operand.{Operand}
use Rattle.rx_typed.specs.PlainTree.{plain-Expr, plain-Operand, operands_of}
use Rattle.rx_typed.proofs.Rules.{operand_by_parts}
use Rattle.rx_meaning.specs.Values.{Value}
use Rattle.rx_machine_direct.specs.Direct.{at_place, both, of_constant, direct, built}

pub read_direct : (T : List (Option ℕ)) (M : List Value) (m : Mark) (v : Bool) (p : Place) → direct T M (read m v p) ≡ at_place T M p.root p.steps
unfolding direct
read_direct T M m v p = refl

pub build_direct : (T : List (Option ℕ)) (M : List Value) (m : Mark) (w : Making) (es : Operands) → direct T M (build m w es) ≡ built T M w es
unfolding direct
build_direct T M m w es = refl

pub borrow_direct : (T : List (Option ℕ)) (M : List Value) (m : Mark) (k : Bool) (p : Place) → direct T M (borrow m k p) ≡ None
unfolding direct
borrow_direct T M m k p = refl

pub share_direct : (T : List (Option ℕ)) (M : List Value) (m : Mark) (e : Exp) → direct T M (share m e) ≡ None
unfolding direct
share_direct T M m e = refl

pub unit_direct : (T : List (Option ℕ)) (M : List Value) (m : Mark) → direct T M (unit m) ≡ None
unfolding direct
unit_direct T M m = refl

pub lazily_direct : (T : List (Option ℕ)) (M : List Value) (m : Mark) (b : Bool) (e f : Exp) → direct T M (lazily m b e f) ≡ None
unfolding direct
lazily_direct T M m b e f = refl

pub assign_direct : (T : List (Option ℕ)) (M : List Value) (m : Mark) (p : Place) (e : Exp) → direct T M (assign m p e) ≡ None
unfolding direct
assign_direct T M m p e = refl

pub update_direct : (T : List (Option ℕ)) (M : List Value) (m : Mark) (o : BinaryOp) (p : Place) (e : Exp) → direct T M (update m o p e) ≡ None
unfolding direct
update_direct T M m o p e = refl

pub call_direct : (T : List (Option ℕ)) (M : List Value) (m : Mark) (f : ℕ) (es : Operands) → direct T M (call m f es) ≡ None
unfolding direct
call_direct T M m f es = refl

pub input_direct : (T : List (Option ℕ)) (M : List Value) (m : Mark) → direct T M (input m) ≡ None
unfolding direct
input_direct T M m = refl

pub print_direct : (T : List (Option ℕ)) (M : List Value) (m : Mark) (e : Exp) → direct T M (print m e) ≡ None
unfolding direct
print_direct T M m e = refl

pub block_direct : (T : List (Option ℕ)) (M : List Value) (m : Mark) (b : Body) → direct T M (block m b) ≡ None
unfolding direct
block_direct T M m b = refl

pub choose_direct : (T : List (Option ℕ)) (M : List Value) (m : Mark) (c : Scrutinee) (l : Arms) → direct T M (choose m c l) ≡ None
unfolding direct
choose_direct T M m c l = refl

pub loop_direct : (T : List (Option ℕ)) (M : List Value) (m : Mark) (l : ℕ) (e : Exp) → direct T M (loop m l e) ≡ None
unfolding direct
loop_direct T M m l e = refl

pub jump_direct : (T : List (Option ℕ)) (M : List Value) (m : Mark) (l : ℕ) (k : Bool) → direct T M (jump m l k) ≡ None
unfolding direct
jump_direct T M m l k = refl

pub give_direct : (T : List (Option ℕ)) (M : List Value) (m : Mark) (e : Exp) → direct T M (give m e) ≡ None
unfolding direct
give_direct T M m e = refl

pub ruleset direct_rules = (read_direct, build_direct, borrow_direct, share_direct, unit_direct, lazily_direct, assign_direct, update_direct, call_direct, input_direct, print_direct, block_direct, choose_direct, loop_direct, jump_direct, give_direct)

pub constant_built : (T : List (Option ℕ)) (M : List Value) (c : Constant) (es : Operands) → built T M (constant c) es ≡ of_constant c es
unfolding direct
constant_built T M c es = refl

pub negation_built : (T : List (Option ℕ)) (M : List Value) (es : Operands) → built T M negation es ≡ None
unfolding direct
negation_built T M es = refl

pub inversion_built : (T : List (Option ℕ)) (M : List Value) (es : Operands) → built T M inversion es ≡ None
unfolding direct
inversion_built T M es = refl

pub tuple_built : (T : List (Option ℕ)) (M : List Value) (es : Operands) → built T M tuple es ≡ None
unfolding direct
tuple_built T M es = refl

pub struct_built : (T : List (Option ℕ)) (M : List Value) (i : ℕ) (es : Operands) → built T M (struct i) es ≡ None
unfolding direct
struct_built T M i es = refl

pub variant_built : (T : List (Option ℕ)) (M : List Value) (i v : ℕ) (es : Operands) → built T M (variant_of i v) es ≡ None
unfolding direct
variant_built T M i v es = refl

pub ruleset built_rules = (constant_built, negation_built, inversion_built, tuple_built, struct_built, variant_built)

-- an operator of two operands, and of another number of them
pub two_built : (T : List (Option ℕ)) (M : List Value) (o : BinaryOp) (es : List Operand) (a b : Operand) → length es ≡ 2 → a ≡ get_or es 0 a → b ≡ get_or es 1 b
    → built T M (operation o) (operands_of (map plain-Operand es)) ≡ both o (direct T M (plain-Expr a.value)) (direct T M (plain-Expr b.value))
unfolding direct
two_built T M o [] a b l e f = cc
two_built T M o (x ∷ []) a b l e f = absurd (omega (arith, l))
two_built T M o (x ∷ y ∷ []) a b l e f =
    ap (λ (q : ℕ × Exp). both o (direct T M q.1) (direct T M (plain-Operand y).1)) (operand_by_parts x)
    ∙ ap (λ (q : ℕ × Exp). both o (direct T M (plain-Expr x.value)) (direct T M q.1)) (operand_by_parts y)
    ∙ ap (λ (z : Operand). both o (direct T M (plain-Expr z.value)) (direct T M (plain-Expr y.value))) (sym e)
    ∙ ap (λ (z : Operand). both o (direct T M (plain-Expr a.value)) (direct T M (plain-Expr z.value))) (sym f)
two_built T M o (x ∷ y ∷ z ∷ es) a b l e f = absurd (omega (arith, l))

pub other_built : (T : List (Option ℕ)) (M : List Value) (o : BinaryOp) (es : List Operand) → (length es ≡ 2 → ⊥) → None ≡ built T M (operation o) (operands_of (map plain-Operand es))
unfolding direct
other_built T M o [] l = refl
other_built T M o (x ∷ []) l = refl
other_built T M o (x ∷ y ∷ []) l = absurd (l refl)
other_built T M o (x ∷ y ∷ z ∷ es) l = refl
