-- What a typed tree or a pattern of the answer is, by its form: the parts of that form, or nothing where it has another (Rust Reference,
-- "Expressions", "Statements", "Patterns").
use Rattle.std.specs.Prelude.{ℕ, Bool, true, false, List, Option, Some, None}
use Rattle.rx_tree.specs.declared.tree.BinaryOp.{BinaryOp}
use Rattle.rx_typed.specs.Tree as tree
use Rattle.rx_typed.specs.Tree.{Place, Constant, Mode, Pattern, Subpatterns, Mark, Making, Exp, Operands, Scrutinee, Arms, Body}

abbrev pub as_read : Exp → Option (Mark × Bool × Place)
as_read (tree.read m v p) = Some (m, v, p)
as_read _ = None

abbrev pub as_borrow : Exp → Option (Mark × Bool × Place)
as_borrow (tree.borrow m b p) = Some (m, b, p)
as_borrow _ = None

abbrev pub as_share : Exp → Option (Mark × Exp)
as_share (tree.share m e) = Some (m, e)
as_share _ = None

abbrev pub as_build : Exp → Option (Mark × Making × Operands)
as_build (tree.build m w es) = Some (m, w, es)
as_build _ = None

abbrev pub as_unit : Exp → Option Mark
as_unit (tree.unit m) = Some m
as_unit _ = None

abbrev pub as_lazily : Exp → Option (Mark × Bool × Exp × Exp)
as_lazily (tree.lazily m b e f) = Some (m, b, e, f)
as_lazily _ = None

abbrev pub as_assign : Exp → Option (Mark × Place × Exp)
as_assign (tree.assign m p e) = Some (m, p, e)
as_assign _ = None

abbrev pub as_update : Exp → Option (Mark × BinaryOp × Place × Exp)
as_update (tree.update m o p e) = Some (m, o, p, e)
as_update _ = None

abbrev pub as_call : Exp → Option (Mark × ℕ × Operands)
as_call (tree.call m f es) = Some (m, f, es)
as_call _ = None

abbrev pub as_input : Exp → Option Mark
as_input (tree.input m) = Some m
as_input _ = None

abbrev pub as_print : Exp → Option (Mark × Exp)
as_print (tree.print m e) = Some (m, e)
as_print _ = None

abbrev pub as_block : Exp → Option (Mark × Body)
as_block (tree.block m b) = Some (m, b)
as_block _ = None

abbrev pub as_choose : Exp → Option (Mark × Scrutinee × Arms)
as_choose (tree.choose m c l) = Some (m, c, l)
as_choose _ = None

abbrev pub as_loop : Exp → Option (Mark × ℕ × Exp)
as_loop (tree.loop m l e) = Some (m, l, e)
as_loop _ = None

abbrev pub as_jump : Exp → Option (Mark × ℕ × Bool)
as_jump (tree.jump m l again) = Some (m, l, again)
as_jump _ = None

abbrev pub as_give : Exp → Option (Mark × Exp)
as_give (tree.give m e) = Some (m, e)
as_give _ = None

abbrev pub as_no_operand : Operands → Option (Unit {0})
as_no_operand tree.no_operand = Some tt
as_no_operand _ = None

abbrev pub as_operand : Operands → Option (ℕ × Exp × Operands)
as_operand (tree.operand_and i e es) = Some (i, e, es)
as_operand _ = None

abbrev pub as_at_place : Scrutinee → Option (Mark × Place)
as_at_place (tree.at_place m p) = Some (m, p)
as_at_place _ = None

abbrev pub as_of_value : Scrutinee → Option Exp
as_of_value (tree.of_value e) = Some e
as_of_value _ = None

abbrev pub as_no_arm : Arms → Option (Unit {0})
as_no_arm tree.no_arm = Some tt
as_no_arm _ = None

abbrev pub as_arm : Arms → Option (Pattern × Exp × Arms)
as_arm (tree.arm_and q e l) = Some (q, e, l)
as_arm _ = None

abbrev pub as_ends : Body → Option Exp
as_ends (tree.ends e) = Some e
as_ends _ = None

abbrev pub as_runs : Body → Option (Exp × Body)
as_runs (tree.runs e b) = Some (e, b)
as_runs _ = None

abbrev pub as_declares : Body → Option (ℕ × List ℕ × Body)
as_declares (tree.declares n xs b) = Some (n, xs, b)
as_declares _ = None

abbrev pub as_lets : Body → Option (ℕ × Pattern × Scrutinee × Body)
as_lets (tree.lets n q c b) = Some (n, q, c, b)
as_lets _ = None

-- ---- patterns

abbrev pub is_any : Pattern → Bool
is_any tree.any = true
is_any _ = false

abbrev pub as_bind : Pattern → Option (ℕ × ℕ × Mode)
as_bind (tree.bind n x m) = Some (n, x, m)
as_bind _ = None

abbrev pub as_exactly : Pattern → Option (ℕ × Constant)
as_exactly (tree.exactly n c) = Some (n, c)
as_exactly _ = None

abbrev pub as_parts : Pattern → Option Subpatterns
as_parts (tree.parts ps) = Some ps
as_parts _ = None

abbrev pub as_variant : Pattern → Option (ℕ × ℕ × Bool × ℕ × Subpatterns)
as_variant (tree.variant n i several v ps) = Some (n, i, several, v, ps)
as_variant _ = None

abbrev pub as_behind : Pattern → Option (Bool × Pattern)
as_behind (tree.behind k p) = Some (k, p)
as_behind _ = None
