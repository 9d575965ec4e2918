-- The plain typed tree of a typed tree of the code: a fold with one step a type, and an equation for each form.
use Rattle.std.specs.Prelude.{◌≡◌, ℕ, Bool, List, [], ◌∷◌, Option, Some, None, map, option_map}
use Rattle.std.proofs.Common.{ap, sym, ◌∙◌}
use Rattle.rx_core.specs.declared.types.Kind.{Kind}
use Rattle.rx_core.specs.declared.types.Ty.{Ty}
use Rattle.rx_core.specs.declared.types.Place.{Place}
use Rattle.rx_tree.specs.declared.tree.BinaryOp.{BinaryOp}
use Rattle.rx_typed.specs.PlainTypes.{plain-Ty}
use Rattle.rx_typed.specs.Elaborated.{with_sign}
use Rattle.rx_typed.specs.Tree as tree
use Rattle.rx_typed.specs.Tree.{Exp, Operands, Scrutinee, Arms, Body, Subpatterns}
use Rattle.rx_typed.specs.declared.tree.Constant.{Constant}
use Rattle.rx_typed.specs.declared.tree.Mode.{Mode}
use Rattle.rx_typed.specs.declared.tree.Making.{Making}
use Rattle.rx_typed.specs.declared.tree.Mark.{Mark}
use Rattle.rx_typed.specs.declared.tree.Param.{Param}
use Rattle.rx_typed.specs.declared.tree.TypedTree.{TypedTree}
use Rattle.rx_typed.specs.declared.tree.Pattern.{Pattern, Pattern-F, fold-Pattern, fold-roll-Pattern}
use Rattle.rx_typed.specs.declared.tree.Pattern.TheOpen as pattern_form
use Rattle.rx_typed.specs.declared.tree.Pattern.TheVariants as pattern
use Rattle.rx_typed.specs.declared.tree.Subpattern.{Subpattern, Subpattern-F, fold-Subpattern, fold-roll-Subpattern}
use Rattle.rx_typed.specs.declared.tree.Form.{Form, Form-F, fold-Form, fold-roll-Form}
use Rattle.rx_typed.specs.declared.tree.Form.TheOpen as open_form
use Rattle.rx_typed.specs.declared.tree.Form.TheVariants as form
use Rattle.rx_typed.specs.declared.tree.Matched.{Matched, Matched-F, fold-Matched, fold-roll-Matched}
use Rattle.rx_typed.specs.declared.tree.Matched.TheVariants as matched
use Rattle.rx_typed.specs.declared.tree.Stmt.{Stmt, Stmt-F, fold-Stmt, fold-roll-Stmt}
use Rattle.rx_typed.specs.declared.tree.Stmt.TheVariants as stmt
use Rattle.rx_typed.specs.declared.tree.Expr.{Expr, Expr-F, fold-Expr, fold-roll-Expr}
use Rattle.rx_typed.specs.declared.tree.Operand.{Operand, Operand-F, fold-Operand, fold-roll-Operand}
use Rattle.rx_typed.specs.declared.tree.Arm.{Arm, Arm-F, fold-Arm, fold-roll-Arm}

-- ---- what has no tree in it

abbrev pub plain-Mark : Mark → tree.Mark
plain-Mark m = record { node = m.node; typ = option_map plain-Ty m.ty }

abbrev pub plain-Place : Place → tree.Place
plain-Place p = record { root = tree.variable p.var; steps = p.steps }

abbrev pub plain-Constant : Constant → tree.Constant
plain-Constant (Constant.Integer k g v) = tree.whole_number k (with_sign g v)
plain-Constant (Constant.Truth b) = tree.truth b

abbrev pub plain-Mode : Mode → tree.Mode
plain-Mode (Mode.Value m) = tree.by_value m
plain-Mode (Mode.Reference m) = tree.by_reference m

abbrev pub plain-Making : Making → tree.Making
plain-Making (Making.Constant c) = tree.constant (plain-Constant c)
plain-Making Making.Negation = tree.negation
plain-Making Making.Inversion = tree.inversion
plain-Making (Making.Operation o) = tree.operation o
plain-Making Making.Tuple = tree.tuple
plain-Making (Making.Struct i) = tree.struct i
plain-Making (Making.Variant i v) = tree.variant_of i v

-- ---- patterns

abbrev pub subpatterns_of : List (ℕ × tree.Pattern) → Subpatterns
subpatterns_of [] = tree.no_part
subpatterns_of (p ∷ ps) = tree.part_and p.0 p.1 (subpatterns_of ps)

abbrev pub pattern_step : Pattern-F tree.Pattern (ℕ × tree.Pattern) → tree.Pattern
pattern_step pattern_form.Any = tree.any
pattern_step (pattern_form.Bind n x m) = tree.bind n x (plain-Mode m)
pattern_step (pattern_form.Exactly n c) = tree.exactly n (plain-Constant c)
pattern_step (pattern_form.Parts ps) = tree.parts (subpatterns_of ps)
pattern_step (pattern_form.Variant n i b v ps) = tree.variant n i b v (subpatterns_of ps)
pattern_step (pattern_form.Behind m p) = tree.behind m p

abbrev pub subpattern_step : Subpattern-F tree.Pattern (ℕ × tree.Pattern) → ℕ × tree.Pattern
subpattern_step p = (p.field, p.pattern)

unfoldable pub plain-Pattern : Pattern → tree.Pattern
plain-Pattern = fold-Pattern tree.Pattern (ℕ × tree.Pattern) pattern_step subpattern_step

unfoldable pub plain-Subpattern : Subpattern → ℕ × tree.Pattern
plain-Subpattern = fold-Subpattern tree.Pattern (ℕ × tree.Pattern) pattern_step subpattern_step

pub subpattern_is : (i : ℕ) (p : Pattern) → plain-Subpattern (record { field = i; pattern = p }) ≡ (i, plain-Pattern p)
unfolding plain-Pattern plain-Subpattern
subpattern_is i p = fold-roll-Subpattern tree.Pattern (ℕ × tree.Pattern) pattern_step subpattern_step (record { field = i; pattern = p })

pub pattern_any : plain-Pattern pattern.Any ≡ tree.any
unfolding plain-Pattern plain-Subpattern
pattern_any =
    ap (λ (x : Pattern). fold-Pattern tree.Pattern (ℕ × tree.Pattern) pattern_step subpattern_step x) (sym pattern.rolls-Any)
    ∙ fold-roll-Pattern tree.Pattern (ℕ × tree.Pattern) pattern_step subpattern_step pattern_form.Any

pub pattern_bind : (n x : ℕ) (m : Mode) → plain-Pattern (pattern.Bind n x m) ≡ tree.bind n x (plain-Mode m)
unfolding plain-Pattern plain-Subpattern
pattern_bind n x m =
    ap (λ (x : Pattern). fold-Pattern tree.Pattern (ℕ × tree.Pattern) pattern_step subpattern_step x) (sym (pattern.rolls-Bind n x m))
    ∙ fold-roll-Pattern tree.Pattern (ℕ × tree.Pattern) pattern_step subpattern_step (pattern_form.Bind n x m)

pub pattern_exactly : (n : ℕ) (c : Constant) → plain-Pattern (pattern.Exactly n c) ≡ tree.exactly n (plain-Constant c)
unfolding plain-Pattern plain-Subpattern
pattern_exactly n c =
    ap (λ (x : Pattern). fold-Pattern tree.Pattern (ℕ × tree.Pattern) pattern_step subpattern_step x) (sym (pattern.rolls-Exactly n c))
    ∙ fold-roll-Pattern tree.Pattern (ℕ × tree.Pattern) pattern_step subpattern_step (pattern_form.Exactly n c)

pub pattern_parts : (ps : List Subpattern) → plain-Pattern (pattern.Parts ps) ≡ tree.parts (subpatterns_of (map plain-Subpattern ps))
unfolding plain-Pattern plain-Subpattern
pattern_parts ps =
    ap (λ (x : Pattern). fold-Pattern tree.Pattern (ℕ × tree.Pattern) pattern_step subpattern_step x) (sym (pattern.rolls-Parts ps))
    ∙ fold-roll-Pattern tree.Pattern (ℕ × tree.Pattern) pattern_step subpattern_step (pattern_form.Parts ps)

pub pattern_variant : (n i : ℕ) (b : Bool) (v : ℕ) (ps : List Subpattern) → plain-Pattern (pattern.Variant n i b v ps) ≡ tree.variant n i b v (subpatterns_of (map plain-Subpattern ps))
unfolding plain-Pattern plain-Subpattern
pattern_variant n i b v ps =
    ap (λ (x : Pattern). fold-Pattern tree.Pattern (ℕ × tree.Pattern) pattern_step subpattern_step x) (sym (pattern.rolls-Variant n i b v ps))
    ∙ fold-roll-Pattern tree.Pattern (ℕ × tree.Pattern) pattern_step subpattern_step (pattern_form.Variant n i b v ps)

pub pattern_behind : (m : Bool) (p : Pattern) → plain-Pattern (pattern.Behind m p) ≡ tree.behind m (plain-Pattern p)
unfolding plain-Pattern plain-Subpattern
pattern_behind m p =
    ap (λ (x : Pattern). fold-Pattern tree.Pattern (ℕ × tree.Pattern) pattern_step subpattern_step x) (sym (pattern.rolls-Behind m p))
    ∙ fold-roll-Pattern tree.Pattern (ℕ × tree.Pattern) pattern_step subpattern_step (pattern_form.Behind m p)

-- ---- expressions

abbrev pub operands_of : List (ℕ × Exp) → Operands
operands_of [] = tree.no_operand
operands_of (e ∷ es) = tree.operand_and e.0 e.1 (operands_of es)

abbrev pub arms_of : List (tree.Pattern × Exp) → Arms
arms_of [] = tree.no_arm
arms_of (a ∷ l) = tree.arm_and a.0 a.1 (arms_of l)

-- the statements, each round the rest of the block
abbrev pub nested_of : List (Body → Body) → Exp → Body
nested_of [] last = tree.ends last
nested_of (f ∷ fs) last = f (nested_of fs last)

abbrev pub form_step : Form-F (tree.Mark → Exp) Scrutinee (Body → Body) (tree.Pattern × Exp) Exp (ℕ × Exp) → tree.Mark → Exp
form_step (open_form.Read v p) m = tree.read m v (plain-Place p)
form_step (open_form.Borrow k p) m = tree.borrow m k (plain-Place p)
form_step (open_form.Share e) m = tree.share m e
form_step (open_form.Build w es) m = tree.build m (plain-Making w) (operands_of es)
form_step open_form.Unit m = tree.unit m
form_step (open_form.Lazily b x y) m = tree.lazily m b x y
form_step (open_form.Assign p e) m = tree.assign m (plain-Place p) e
form_step (open_form.Update o p e) m = tree.update m o (plain-Place p) e
form_step (open_form.Call f es) m = tree.call m f (operands_of es)
form_step open_form.Input m = tree.input m
form_step (open_form.Print e) m = tree.print m e
form_step (open_form.Block ss e) m = tree.block m (nested_of ss e)
form_step (open_form.Choose s l) m = tree.choose m s (arms_of l)
form_step (open_form.Loop l e) m = tree.loop m l e
form_step (open_form.Jump l k) m = tree.jump m l k
form_step (open_form.Give e) m = tree.give m e

abbrev pub matched_step : Matched-F (tree.Mark → Exp) Scrutinee (Body → Body) (tree.Pattern × Exp) Exp (ℕ × Exp) → Scrutinee
matched_step (open_form.Place m p) = tree.at_place (plain-Mark m) (plain-Place p)
matched_step (open_form.Value e) = tree.of_value e

abbrev pub stmt_step : Stmt-F (tree.Mark → Exp) Scrutinee (Body → Body) (tree.Pattern × Exp) Exp (ℕ × Exp) → Body → Body
stmt_step (open_form.Runs e) rest = tree.runs e rest
stmt_step (open_form.Declares n xs) rest = tree.declares n xs rest
stmt_step (open_form.Lets n p s) rest = tree.lets n (plain-Pattern p) s rest

abbrev pub arm_step : Arm-F (tree.Mark → Exp) Scrutinee (Body → Body) (tree.Pattern × Exp) Exp (ℕ × Exp) → tree.Pattern × Exp
arm_step a = (plain-Pattern a.pattern, a.body)

abbrev pub expr_step : Expr-F (tree.Mark → Exp) Scrutinee (Body → Body) (tree.Pattern × Exp) Exp (ℕ × Exp) → Exp
expr_step e = e.form (plain-Mark e.mark)

abbrev pub operand_step : Operand-F (tree.Mark → Exp) Scrutinee (Body → Body) (tree.Pattern × Exp) Exp (ℕ × Exp) → ℕ × Exp
operand_step e = (e.field, e.value)

unfoldable pub plain-Form : Form → tree.Mark → Exp
plain-Form = fold-Form (tree.Mark → Exp) Scrutinee (Body → Body) (tree.Pattern × Exp) Exp (ℕ × Exp) form_step matched_step stmt_step arm_step expr_step operand_step

unfoldable pub plain-Matched : Matched → Scrutinee
plain-Matched = fold-Matched (tree.Mark → Exp) Scrutinee (Body → Body) (tree.Pattern × Exp) Exp (ℕ × Exp) form_step matched_step stmt_step arm_step expr_step operand_step

unfoldable pub plain-Stmt : Stmt → Body → Body
plain-Stmt = fold-Stmt (tree.Mark → Exp) Scrutinee (Body → Body) (tree.Pattern × Exp) Exp (ℕ × Exp) form_step matched_step stmt_step arm_step expr_step operand_step

unfoldable pub plain-Arm : Arm → tree.Pattern × Exp
plain-Arm = fold-Arm (tree.Mark → Exp) Scrutinee (Body → Body) (tree.Pattern × Exp) Exp (ℕ × Exp) form_step matched_step stmt_step arm_step expr_step operand_step

unfoldable pub plain-Expr : Expr → Exp
plain-Expr = fold-Expr (tree.Mark → Exp) Scrutinee (Body → Body) (tree.Pattern × Exp) Exp (ℕ × Exp) form_step matched_step stmt_step arm_step expr_step operand_step

unfoldable pub plain-Operand : Operand → ℕ × Exp
plain-Operand = fold-Operand (tree.Mark → Exp) Scrutinee (Body → Body) (tree.Pattern × Exp) Exp (ℕ × Exp) form_step matched_step stmt_step arm_step expr_step operand_step

pub expr_is : (m : Mark) (n : Form) → plain-Expr (record { mark = m; form = n }) ≡ plain-Form n (plain-Mark m)
unfolding plain-Form plain-Matched plain-Stmt plain-Arm plain-Expr plain-Operand
expr_is m n = fold-roll-Expr (tree.Mark → Exp) Scrutinee (Body → Body) (tree.Pattern × Exp) Exp (ℕ × Exp) form_step matched_step stmt_step arm_step expr_step operand_step (record { mark = m; form = n })

pub operand_is : (i : ℕ) (e : Expr) → plain-Operand (record { field = i; value = e }) ≡ (i, plain-Expr e)
unfolding plain-Form plain-Matched plain-Stmt plain-Arm plain-Expr plain-Operand
operand_is i e = fold-roll-Operand (tree.Mark → Exp) Scrutinee (Body → Body) (tree.Pattern × Exp) Exp (ℕ × Exp) form_step matched_step stmt_step arm_step expr_step operand_step (record { field = i; value = e })

pub arm_is : (p : Pattern) (e : Expr) → plain-Arm (record { pattern = p; body = e }) ≡ (plain-Pattern p, plain-Expr e)
unfolding plain-Form plain-Matched plain-Stmt plain-Arm plain-Expr plain-Operand
arm_is p e = fold-roll-Arm (tree.Mark → Exp) Scrutinee (Body → Body) (tree.Pattern × Exp) Exp (ℕ × Exp) form_step matched_step stmt_step arm_step expr_step operand_step (record { pattern = p; body = e })

pub form_read : (v : Bool) (p : Place) (m : tree.Mark) → plain-Form (form.Read v p) m ≡ tree.read m v (plain-Place p)
unfolding plain-Form plain-Matched plain-Stmt plain-Arm plain-Expr plain-Operand
form_read v p m =
    ap (λ (x : Form). fold-Form (tree.Mark → Exp) Scrutinee (Body → Body) (tree.Pattern × Exp) Exp (ℕ × Exp) form_step matched_step stmt_step arm_step expr_step operand_step x m) (sym (form.rolls-Read v p))
    ∙ ap (λ (f : tree.Mark → Exp). f m) (fold-roll-Form (tree.Mark → Exp) Scrutinee (Body → Body) (tree.Pattern × Exp) Exp (ℕ × Exp) form_step matched_step stmt_step arm_step expr_step operand_step (open_form.Read v p))

pub form_borrow : (k : Bool) (p : Place) (m : tree.Mark) → plain-Form (form.Borrow k p) m ≡ tree.borrow m k (plain-Place p)
unfolding plain-Form plain-Matched plain-Stmt plain-Arm plain-Expr plain-Operand
form_borrow k p m =
    ap (λ (x : Form). fold-Form (tree.Mark → Exp) Scrutinee (Body → Body) (tree.Pattern × Exp) Exp (ℕ × Exp) form_step matched_step stmt_step arm_step expr_step operand_step x m) (sym (form.rolls-Borrow k p))
    ∙ ap (λ (f : tree.Mark → Exp). f m) (fold-roll-Form (tree.Mark → Exp) Scrutinee (Body → Body) (tree.Pattern × Exp) Exp (ℕ × Exp) form_step matched_step stmt_step arm_step expr_step operand_step (open_form.Borrow k p))

pub form_share : (e : Expr) (m : tree.Mark) → plain-Form (form.Share e) m ≡ tree.share m (plain-Expr e)
unfolding plain-Form plain-Matched plain-Stmt plain-Arm plain-Expr plain-Operand
form_share e m =
    ap (λ (x : Form). fold-Form (tree.Mark → Exp) Scrutinee (Body → Body) (tree.Pattern × Exp) Exp (ℕ × Exp) form_step matched_step stmt_step arm_step expr_step operand_step x m) (sym (form.rolls-Share e))
    ∙ ap (λ (f : tree.Mark → Exp). f m) (fold-roll-Form (tree.Mark → Exp) Scrutinee (Body → Body) (tree.Pattern × Exp) Exp (ℕ × Exp) form_step matched_step stmt_step arm_step expr_step operand_step (open_form.Share e))

pub form_build : (w : Making) (es : List Operand) (m : tree.Mark) → plain-Form (form.Build w es) m ≡ tree.build m (plain-Making w) (operands_of (map plain-Operand es))
unfolding plain-Form plain-Matched plain-Stmt plain-Arm plain-Expr plain-Operand
form_build w es m =
    ap (λ (x : Form). fold-Form (tree.Mark → Exp) Scrutinee (Body → Body) (tree.Pattern × Exp) Exp (ℕ × Exp) form_step matched_step stmt_step arm_step expr_step operand_step x m) (sym (form.rolls-Build w es))
    ∙ ap (λ (f : tree.Mark → Exp). f m) (fold-roll-Form (tree.Mark → Exp) Scrutinee (Body → Body) (tree.Pattern × Exp) Exp (ℕ × Exp) form_step matched_step stmt_step arm_step expr_step operand_step (open_form.Build w es))

pub form_unit : (m : tree.Mark) → plain-Form form.Unit m ≡ tree.unit m
unfolding plain-Form plain-Matched plain-Stmt plain-Arm plain-Expr plain-Operand
form_unit m =
    ap (λ (x : Form). fold-Form (tree.Mark → Exp) Scrutinee (Body → Body) (tree.Pattern × Exp) Exp (ℕ × Exp) form_step matched_step stmt_step arm_step expr_step operand_step x m) (sym form.rolls-Unit)
    ∙ ap (λ (f : tree.Mark → Exp). f m) (fold-roll-Form (tree.Mark → Exp) Scrutinee (Body → Body) (tree.Pattern × Exp) Exp (ℕ × Exp) form_step matched_step stmt_step arm_step expr_step operand_step open_form.Unit)

pub form_lazily : (b : Bool) (x y : Expr) (m : tree.Mark) → plain-Form (form.Lazily b x y) m ≡ tree.lazily m b (plain-Expr x) (plain-Expr y)
unfolding plain-Form plain-Matched plain-Stmt plain-Arm plain-Expr plain-Operand
form_lazily b x y m =
    ap (λ (x : Form). fold-Form (tree.Mark → Exp) Scrutinee (Body → Body) (tree.Pattern × Exp) Exp (ℕ × Exp) form_step matched_step stmt_step arm_step expr_step operand_step x m) (sym (form.rolls-Lazily b x y))
    ∙ ap (λ (f : tree.Mark → Exp). f m) (fold-roll-Form (tree.Mark → Exp) Scrutinee (Body → Body) (tree.Pattern × Exp) Exp (ℕ × Exp) form_step matched_step stmt_step arm_step expr_step operand_step (open_form.Lazily b x y))

pub form_assign : (p : Place) (e : Expr) (m : tree.Mark) → plain-Form (form.Assign p e) m ≡ tree.assign m (plain-Place p) (plain-Expr e)
unfolding plain-Form plain-Matched plain-Stmt plain-Arm plain-Expr plain-Operand
form_assign p e m =
    ap (λ (x : Form). fold-Form (tree.Mark → Exp) Scrutinee (Body → Body) (tree.Pattern × Exp) Exp (ℕ × Exp) form_step matched_step stmt_step arm_step expr_step operand_step x m) (sym (form.rolls-Assign p e))
    ∙ ap (λ (f : tree.Mark → Exp). f m) (fold-roll-Form (tree.Mark → Exp) Scrutinee (Body → Body) (tree.Pattern × Exp) Exp (ℕ × Exp) form_step matched_step stmt_step arm_step expr_step operand_step (open_form.Assign p e))

pub form_update : (o : BinaryOp) (p : Place) (e : Expr) (m : tree.Mark) → plain-Form (form.Update o p e) m ≡ tree.update m o (plain-Place p) (plain-Expr e)
unfolding plain-Form plain-Matched plain-Stmt plain-Arm plain-Expr plain-Operand
form_update o p e m =
    ap (λ (x : Form). fold-Form (tree.Mark → Exp) Scrutinee (Body → Body) (tree.Pattern × Exp) Exp (ℕ × Exp) form_step matched_step stmt_step arm_step expr_step operand_step x m) (sym (form.rolls-Update o p e))
    ∙ ap (λ (f : tree.Mark → Exp). f m) (fold-roll-Form (tree.Mark → Exp) Scrutinee (Body → Body) (tree.Pattern × Exp) Exp (ℕ × Exp) form_step matched_step stmt_step arm_step expr_step operand_step (open_form.Update o p e))

pub form_call : (f : ℕ) (es : List Operand) (m : tree.Mark) → plain-Form (form.Call f es) m ≡ tree.call m f (operands_of (map plain-Operand es))
unfolding plain-Form plain-Matched plain-Stmt plain-Arm plain-Expr plain-Operand
form_call f es m =
    ap (λ (x : Form). fold-Form (tree.Mark → Exp) Scrutinee (Body → Body) (tree.Pattern × Exp) Exp (ℕ × Exp) form_step matched_step stmt_step arm_step expr_step operand_step x m) (sym (form.rolls-Call f es))
    ∙ ap (λ (f : tree.Mark → Exp). f m) (fold-roll-Form (tree.Mark → Exp) Scrutinee (Body → Body) (tree.Pattern × Exp) Exp (ℕ × Exp) form_step matched_step stmt_step arm_step expr_step operand_step (open_form.Call f es))

pub form_input : (m : tree.Mark) → plain-Form form.Input m ≡ tree.input m
unfolding plain-Form plain-Matched plain-Stmt plain-Arm plain-Expr plain-Operand
form_input m =
    ap (λ (x : Form). fold-Form (tree.Mark → Exp) Scrutinee (Body → Body) (tree.Pattern × Exp) Exp (ℕ × Exp) form_step matched_step stmt_step arm_step expr_step operand_step x m) (sym form.rolls-Input)
    ∙ ap (λ (f : tree.Mark → Exp). f m) (fold-roll-Form (tree.Mark → Exp) Scrutinee (Body → Body) (tree.Pattern × Exp) Exp (ℕ × Exp) form_step matched_step stmt_step arm_step expr_step operand_step open_form.Input)

pub form_print : (e : Expr) (m : tree.Mark) → plain-Form (form.Print e) m ≡ tree.print m (plain-Expr e)
unfolding plain-Form plain-Matched plain-Stmt plain-Arm plain-Expr plain-Operand
form_print e m =
    ap (λ (x : Form). fold-Form (tree.Mark → Exp) Scrutinee (Body → Body) (tree.Pattern × Exp) Exp (ℕ × Exp) form_step matched_step stmt_step arm_step expr_step operand_step x m) (sym (form.rolls-Print e))
    ∙ ap (λ (f : tree.Mark → Exp). f m) (fold-roll-Form (tree.Mark → Exp) Scrutinee (Body → Body) (tree.Pattern × Exp) Exp (ℕ × Exp) form_step matched_step stmt_step arm_step expr_step operand_step (open_form.Print e))

pub form_block : (ss : List Stmt) (e : Expr) (m : tree.Mark) → plain-Form (form.Block ss e) m ≡ tree.block m (nested_of (map plain-Stmt ss) (plain-Expr e))
unfolding plain-Form plain-Matched plain-Stmt plain-Arm plain-Expr plain-Operand
form_block ss e m =
    ap (λ (x : Form). fold-Form (tree.Mark → Exp) Scrutinee (Body → Body) (tree.Pattern × Exp) Exp (ℕ × Exp) form_step matched_step stmt_step arm_step expr_step operand_step x m) (sym (form.rolls-Block ss e))
    ∙ ap (λ (f : tree.Mark → Exp). f m) (fold-roll-Form (tree.Mark → Exp) Scrutinee (Body → Body) (tree.Pattern × Exp) Exp (ℕ × Exp) form_step matched_step stmt_step arm_step expr_step operand_step (open_form.Block ss e))

pub form_choose : (s : Matched) (l : List Arm) (m : tree.Mark) → plain-Form (form.Choose s l) m ≡ tree.choose m (plain-Matched s) (arms_of (map plain-Arm l))
unfolding plain-Form plain-Matched plain-Stmt plain-Arm plain-Expr plain-Operand
form_choose s l m =
    ap (λ (x : Form). fold-Form (tree.Mark → Exp) Scrutinee (Body → Body) (tree.Pattern × Exp) Exp (ℕ × Exp) form_step matched_step stmt_step arm_step expr_step operand_step x m) (sym (form.rolls-Choose s l))
    ∙ ap (λ (f : tree.Mark → Exp). f m) (fold-roll-Form (tree.Mark → Exp) Scrutinee (Body → Body) (tree.Pattern × Exp) Exp (ℕ × Exp) form_step matched_step stmt_step arm_step expr_step operand_step (open_form.Choose s l))

pub form_loop : (l : ℕ) (e : Expr) (m : tree.Mark) → plain-Form (form.Loop l e) m ≡ tree.loop m l (plain-Expr e)
unfolding plain-Form plain-Matched plain-Stmt plain-Arm plain-Expr plain-Operand
form_loop l e m =
    ap (λ (x : Form). fold-Form (tree.Mark → Exp) Scrutinee (Body → Body) (tree.Pattern × Exp) Exp (ℕ × Exp) form_step matched_step stmt_step arm_step expr_step operand_step x m) (sym (form.rolls-Loop l e))
    ∙ ap (λ (f : tree.Mark → Exp). f m) (fold-roll-Form (tree.Mark → Exp) Scrutinee (Body → Body) (tree.Pattern × Exp) Exp (ℕ × Exp) form_step matched_step stmt_step arm_step expr_step operand_step (open_form.Loop l e))

pub form_jump : (l : ℕ) (k : Bool) (m : tree.Mark) → plain-Form (form.Jump l k) m ≡ tree.jump m l k
unfolding plain-Form plain-Matched plain-Stmt plain-Arm plain-Expr plain-Operand
form_jump l k m =
    ap (λ (x : Form). fold-Form (tree.Mark → Exp) Scrutinee (Body → Body) (tree.Pattern × Exp) Exp (ℕ × Exp) form_step matched_step stmt_step arm_step expr_step operand_step x m) (sym (form.rolls-Jump l k))
    ∙ ap (λ (f : tree.Mark → Exp). f m) (fold-roll-Form (tree.Mark → Exp) Scrutinee (Body → Body) (tree.Pattern × Exp) Exp (ℕ × Exp) form_step matched_step stmt_step arm_step expr_step operand_step (open_form.Jump l k))

pub form_give : (e : Expr) (m : tree.Mark) → plain-Form (form.Give e) m ≡ tree.give m (plain-Expr e)
unfolding plain-Form plain-Matched plain-Stmt plain-Arm plain-Expr plain-Operand
form_give e m =
    ap (λ (x : Form). fold-Form (tree.Mark → Exp) Scrutinee (Body → Body) (tree.Pattern × Exp) Exp (ℕ × Exp) form_step matched_step stmt_step arm_step expr_step operand_step x m) (sym (form.rolls-Give e))
    ∙ ap (λ (f : tree.Mark → Exp). f m) (fold-roll-Form (tree.Mark → Exp) Scrutinee (Body → Body) (tree.Pattern × Exp) Exp (ℕ × Exp) form_step matched_step stmt_step arm_step expr_step operand_step (open_form.Give e))

pub matched_place : (m : Mark) (p : Place) → plain-Matched (matched.Place m p) ≡ tree.at_place (plain-Mark m) (plain-Place p)
unfolding plain-Form plain-Matched plain-Stmt plain-Arm plain-Expr plain-Operand
matched_place m p =
    ap (λ (x : Matched). fold-Matched (tree.Mark → Exp) Scrutinee (Body → Body) (tree.Pattern × Exp) Exp (ℕ × Exp) form_step matched_step stmt_step arm_step expr_step operand_step x) (sym (matched.rolls-Place m p))
    ∙ fold-roll-Matched (tree.Mark → Exp) Scrutinee (Body → Body) (tree.Pattern × Exp) Exp (ℕ × Exp) form_step matched_step stmt_step arm_step expr_step operand_step (open_form.Place m p)

pub matched_value : (e : Expr) → plain-Matched (matched.Value e) ≡ tree.of_value (plain-Expr e)
unfolding plain-Form plain-Matched plain-Stmt plain-Arm plain-Expr plain-Operand
matched_value e =
    ap (λ (x : Matched). fold-Matched (tree.Mark → Exp) Scrutinee (Body → Body) (tree.Pattern × Exp) Exp (ℕ × Exp) form_step matched_step stmt_step arm_step expr_step operand_step x) (sym (matched.rolls-Value e))
    ∙ fold-roll-Matched (tree.Mark → Exp) Scrutinee (Body → Body) (tree.Pattern × Exp) Exp (ℕ × Exp) form_step matched_step stmt_step arm_step expr_step operand_step (open_form.Value e)

pub stmt_runs : (e : Expr) (rest : Body) → plain-Stmt (stmt.Runs e) rest ≡ tree.runs (plain-Expr e) rest
unfolding plain-Form plain-Matched plain-Stmt plain-Arm plain-Expr plain-Operand
stmt_runs e rest =
    ap (λ (x : Stmt). fold-Stmt (tree.Mark → Exp) Scrutinee (Body → Body) (tree.Pattern × Exp) Exp (ℕ × Exp) form_step matched_step stmt_step arm_step expr_step operand_step x rest) (sym (stmt.rolls-Runs e))
    ∙ ap (λ (f : Body → Body). f rest) (fold-roll-Stmt (tree.Mark → Exp) Scrutinee (Body → Body) (tree.Pattern × Exp) Exp (ℕ × Exp) form_step matched_step stmt_step arm_step expr_step operand_step (open_form.Runs e))

pub stmt_declares : (n : ℕ) (xs : List ℕ) (rest : Body) → plain-Stmt (stmt.Declares n xs) rest ≡ tree.declares n xs rest
unfolding plain-Form plain-Matched plain-Stmt plain-Arm plain-Expr plain-Operand
stmt_declares n xs rest =
    ap (λ (x : Stmt). fold-Stmt (tree.Mark → Exp) Scrutinee (Body → Body) (tree.Pattern × Exp) Exp (ℕ × Exp) form_step matched_step stmt_step arm_step expr_step operand_step x rest) (sym (stmt.rolls-Declares n xs))
    ∙ ap (λ (f : Body → Body). f rest) (fold-roll-Stmt (tree.Mark → Exp) Scrutinee (Body → Body) (tree.Pattern × Exp) Exp (ℕ × Exp) form_step matched_step stmt_step arm_step expr_step operand_step (open_form.Declares n xs))

pub stmt_lets : (n : ℕ) (p : Pattern) (s : Matched) (rest : Body) → plain-Stmt (stmt.Lets n p s) rest ≡ tree.lets n (plain-Pattern p) (plain-Matched s) rest
unfolding plain-Form plain-Matched plain-Stmt plain-Arm plain-Expr plain-Operand
stmt_lets n p s rest =
    ap (λ (x : Stmt). fold-Stmt (tree.Mark → Exp) Scrutinee (Body → Body) (tree.Pattern × Exp) Exp (ℕ × Exp) form_step matched_step stmt_step arm_step expr_step operand_step x rest) (sym (stmt.rolls-Lets n p s))
    ∙ ap (λ (f : Body → Body). f rest) (fold-roll-Stmt (tree.Mark → Exp) Scrutinee (Body → Body) (tree.Pattern × Exp) Exp (ℕ × Exp) form_step matched_step stmt_step arm_step expr_step operand_step (open_form.Lets n p s))

-- ---- functions

abbrev pub plain-Param : Param → tree.Parameter
plain-Param p = record { node = p.node; variable = p.variable }

abbrev pub plain-TypedTree : TypedTree → tree.Function
plain-TypedTree f = record { params = map plain-Param f.params; body = plain-Expr f.body }
