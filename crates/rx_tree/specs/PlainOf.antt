-- The plain tree of a tree: a fold with one step a type, and an equation for each form.
use Rattle.std.specs.Prelude.{◌≡◌, ℕ, Bool, List, [], ◌∷◌, Option, Some, None, map, option_map}
use Rattle.std.proofs.Common.{ap, sym, ◌∙◌}
use Rattle.rx_core.specs.declared.types.Span.{Span}
use Rattle.rx_core.specs.declared.types.Kind.{Kind}
use Rattle.rx_tree.specs.declared.tree.Ident.{Ident}
use Rattle.rx_tree.specs.declared.tree.BinaryOp.{BinaryOp}
use Rattle.rx_tree.specs.declared.tree.UpdateOp.{UpdateOp}
use Rattle.rx_tree.specs.declared.tree.TypeText.{TypeText, TypeText-F, fold-TypeText, fold-roll-TypeText}
use Rattle.rx_tree.specs.declared.tree.TypeNode.{TypeNode, TypeNode-F, fold-TypeNode, fold-roll-TypeNode}
use Rattle.rx_tree.specs.declared.tree.TypeNode.TheOpen as type_form
use Rattle.rx_tree.specs.declared.tree.TypeNode.TheVariants as type_node
use Rattle.rx_tree.specs.declared.tree.Pattern.{Pattern, Pattern-F, fold-Pattern, fold-roll-Pattern}
use Rattle.rx_tree.specs.declared.tree.FieldPattern.{FieldPattern, FieldPattern-F, fold-FieldPattern, fold-roll-FieldPattern}
use Rattle.rx_tree.specs.declared.tree.PatternNode.{PatternNode, PatternNode-F, fold-PatternNode, fold-roll-PatternNode}
use Rattle.rx_tree.specs.declared.tree.PatternNode.TheOpen as pattern_form
use Rattle.rx_tree.specs.declared.tree.PatternNode.TheVariants as pattern_node
use Rattle.rx_tree.specs.declared.tree.Expr.{Expr, Expr-F, fold-Expr, fold-roll-Expr}
use Rattle.rx_tree.specs.declared.tree.Stmt.{Stmt, Stmt-F, fold-Stmt, fold-roll-Stmt}
use Rattle.rx_tree.specs.declared.tree.Arm.{Arm, Arm-F, fold-Arm, fold-roll-Arm}
use Rattle.rx_tree.specs.declared.tree.FieldExpr.{FieldExpr, FieldExpr-F, fold-FieldExpr, fold-roll-FieldExpr}
use Rattle.rx_tree.specs.declared.tree.Block.{Block, Block-F, fold-Block, fold-roll-Block, roll-Block}
use Rattle.rx_tree.specs.declared.tree.ExprNode.{ExprNode, ExprNode-F, fold-ExprNode, fold-roll-ExprNode}
use Rattle.rx_tree.specs.declared.tree.ExprNode.TheOpen as form
use Rattle.rx_tree.specs.declared.tree.ExprNode.TheVariants as node
use Rattle.rx_tree.specs.declared.tree.StmtNode.{StmtNode, StmtNode-F, fold-StmtNode, fold-roll-StmtNode}
use Rattle.rx_tree.specs.declared.tree.StmtNode.TheVariants as stmt_node
use Rattle.rx_tree.specs.declared.tree.Param.{Param}
use Rattle.rx_tree.specs.declared.tree.Func.{Func}
use Rattle.rx_tree.specs.declared.tree.Field.{Field}
use Rattle.rx_tree.specs.declared.tree.Struct.{Struct}
use Rattle.rx_tree.specs.declared.tree.EnumVariant.{EnumVariant}
use Rattle.rx_tree.specs.declared.tree.Enum.{Enum}
use Rattle.rx_tree.specs.declared.tree.Item.{Item}
use Rattle.rx_tree.specs.declared.tree.ItemNode.{ItemNode}
use Rattle.rx_tree.specs.declared.tree.ItemNode.TheVariants as item_node
use Rattle.rx_tree.specs.declared.tree.Program.{Program}
use Rattle.rx_tree.specs.Plain as plain
use Rattle.rx_tree.specs.Plain.{TypeTree, TypeTrees, PatternTree, PatternTrees, FieldPatterns, Expression, Expressions, OptionalExpression, OptionalExpressions, FieldExpressions, Arms, Body, Statement, Statements, Parameter, Function, FieldOf, Structure, VariantOf, Enumeration, ItemTree, ProgramTree}

-- ---- types

abbrev pub types_of : List TypeTree → TypeTrees
types_of [] = plain.no_type
types_of (x ∷ xs) = plain.type_and x (types_of xs)

abbrev pub type_node_step : TypeNode-F (Span → TypeTree) TypeTree → Span → TypeTree
type_node_step (type_form.Kind k) s = plain.kind_type s k
type_node_step type_form.Bool s = plain.bool_type s
type_node_step (type_form.Tuple ts) s = plain.tuple_type s (types_of ts)
type_node_step (type_form.Ref l m t) s = plain.ref_type s l m t
type_node_step (type_form.Named n ls) s = plain.named_type s n ls

abbrev pub type_step : TypeText-F (Span → TypeTree) TypeTree → TypeTree
type_step t = t.node t.span

unfoldable pub plain-TypeNode : TypeNode → Span → TypeTree
plain-TypeNode = fold-TypeNode (Span → TypeTree) TypeTree type_node_step type_step

unfoldable pub plain-TypeText : TypeText → TypeTree
plain-TypeText = fold-TypeText (Span → TypeTree) TypeTree type_node_step type_step

pub type_is : (s : Span) (n : TypeNode) → plain-TypeText (record { span = s; node = n }) ≡ plain-TypeNode n s
unfolding plain-TypeText plain-TypeNode
type_is s n = fold-roll-TypeText (Span → TypeTree) TypeTree type_node_step type_step (record { span = s; node = n })

pub type_kind : (s : Span) (k : Kind) → plain-TypeNode (type_node.Kind k) s ≡ plain.kind_type s k
unfolding plain-TypeText plain-TypeNode
type_kind s k =
    ap (λ (x : TypeNode). fold-TypeNode (Span → TypeTree) TypeTree type_node_step type_step x s) (sym (type_node.rolls-Kind k))
    ∙ ap (λ (f : Span → TypeTree). f s) (fold-roll-TypeNode (Span → TypeTree) TypeTree type_node_step type_step (type_form.Kind k))

pub type_bool : (s : Span) → plain-TypeNode type_node.Bool s ≡ plain.bool_type s
unfolding plain-TypeText plain-TypeNode
type_bool s =
    ap (λ (x : TypeNode). fold-TypeNode (Span → TypeTree) TypeTree type_node_step type_step x s) (sym type_node.rolls-Bool)
    ∙ ap (λ (f : Span → TypeTree). f s) (fold-roll-TypeNode (Span → TypeTree) TypeTree type_node_step type_step type_form.Bool)

pub type_tuple : (s : Span) (ts : List TypeText) → plain-TypeNode (type_node.Tuple ts) s ≡ plain.tuple_type s (types_of (map plain-TypeText ts))
unfolding plain-TypeText plain-TypeNode
type_tuple s ts =
    ap (λ (x : TypeNode). fold-TypeNode (Span → TypeTree) TypeTree type_node_step type_step x s) (sym (type_node.rolls-Tuple ts))
    ∙ ap (λ (f : Span → TypeTree). f s) (fold-roll-TypeNode (Span → TypeTree) TypeTree type_node_step type_step (type_form.Tuple ts))

pub type_ref : (s : Span) (l : Option Ident) (m : Bool) (t : TypeText) → plain-TypeNode (type_node.Ref l m t) s ≡ plain.ref_type s l m (plain-TypeText t)
unfolding plain-TypeText plain-TypeNode
type_ref s l m t =
    ap (λ (x : TypeNode). fold-TypeNode (Span → TypeTree) TypeTree type_node_step type_step x s) (sym (type_node.rolls-Ref l m t))
    ∙ ap (λ (f : Span → TypeTree). f s) (fold-roll-TypeNode (Span → TypeTree) TypeTree type_node_step type_step (type_form.Ref l m t))

pub type_named : (s : Span) (n : Ident) (ls : Option (List (Option Ident))) → plain-TypeNode (type_node.Named n ls) s ≡ plain.named_type s n ls
unfolding plain-TypeText plain-TypeNode
type_named s n ls =
    ap (λ (x : TypeNode). fold-TypeNode (Span → TypeTree) TypeTree type_node_step type_step x s) (sym (type_node.rolls-Named n ls))
    ∙ ap (λ (f : Span → TypeTree). f s) (fold-roll-TypeNode (Span → TypeTree) TypeTree type_node_step type_step (type_form.Named n ls))

-- ---- patterns

abbrev pub patterns_of : List PatternTree → PatternTrees
patterns_of [] = plain.no_pattern
patterns_of (x ∷ xs) = plain.pattern_and x (patterns_of xs)

abbrev pub field_patterns_of : List (Ident × PatternTree) → FieldPatterns
field_patterns_of [] = plain.no_field_pattern
field_patterns_of (x ∷ xs) = plain.field_pattern_and x.0 x.1 (field_patterns_of xs)

abbrev pub pattern_node_step : PatternNode-F (Span → PatternTree) (Ident × PatternTree) PatternTree → Span → PatternTree
pattern_node_step pattern_form.Wild s = plain.wild s
pattern_node_step (pattern_form.Bind n m) s = plain.bind s n m
pattern_node_step (pattern_form.Int g v k) s = plain.int_pattern s g v k
pattern_node_step (pattern_form.Bool b) s = plain.bool_pattern s b
pattern_node_step (pattern_form.Tuple ps) s = plain.tuple_pattern s (patterns_of ps)
pattern_node_step (pattern_form.Variant a v ps) s = plain.variant_pattern s a v (patterns_of ps)
pattern_node_step (pattern_form.Make n fs) s = plain.make_pattern s n (field_patterns_of fs)

abbrev pub field_pattern_step : FieldPattern-F (Span → PatternTree) (Ident × PatternTree) PatternTree → Ident × PatternTree
field_pattern_step f = (f.field, f.pattern)

abbrev pub pattern_step : Pattern-F (Span → PatternTree) (Ident × PatternTree) PatternTree → PatternTree
pattern_step p = p.node p.span

unfoldable pub plain-PatternNode : PatternNode → Span → PatternTree
plain-PatternNode = fold-PatternNode (Span → PatternTree) (Ident × PatternTree) PatternTree pattern_node_step field_pattern_step pattern_step

unfoldable pub plain-FieldPattern : FieldPattern → Ident × PatternTree
plain-FieldPattern = fold-FieldPattern (Span → PatternTree) (Ident × PatternTree) PatternTree pattern_node_step field_pattern_step pattern_step

unfoldable pub plain-Pattern : Pattern → PatternTree
plain-Pattern = fold-Pattern (Span → PatternTree) (Ident × PatternTree) PatternTree pattern_node_step field_pattern_step pattern_step

pub pattern_is : (s : Span) (n : PatternNode) → plain-Pattern (record { span = s; node = n }) ≡ plain-PatternNode n s
unfolding plain-PatternNode plain-FieldPattern plain-Pattern
pattern_is s n = fold-roll-Pattern (Span → PatternTree) (Ident × PatternTree) PatternTree pattern_node_step field_pattern_step pattern_step (record { span = s; node = n })

pub field_pattern_is : (f : Ident) (p : Pattern) → plain-FieldPattern (record { field = f; pattern = p }) ≡ (f, plain-Pattern p)
unfolding plain-PatternNode plain-FieldPattern plain-Pattern
field_pattern_is f p = fold-roll-FieldPattern (Span → PatternTree) (Ident × PatternTree) PatternTree pattern_node_step field_pattern_step pattern_step (record { field = f; pattern = p })

pub pattern_wild : (s : Span) → plain-PatternNode pattern_node.Wild s ≡ plain.wild s
unfolding plain-PatternNode plain-FieldPattern plain-Pattern
pattern_wild s =
    ap (λ (x : PatternNode). fold-PatternNode (Span → PatternTree) (Ident × PatternTree) PatternTree pattern_node_step field_pattern_step pattern_step x s) (sym pattern_node.rolls-Wild)
    ∙ ap (λ (f : Span → PatternTree). f s) (fold-roll-PatternNode (Span → PatternTree) (Ident × PatternTree) PatternTree pattern_node_step field_pattern_step pattern_step pattern_form.Wild)

pub pattern_bind : (s : Span) (n : Ident) (m : Bool) → plain-PatternNode (pattern_node.Bind n m) s ≡ plain.bind s n m
unfolding plain-PatternNode plain-FieldPattern plain-Pattern
pattern_bind s n m =
    ap (λ (x : PatternNode). fold-PatternNode (Span → PatternTree) (Ident × PatternTree) PatternTree pattern_node_step field_pattern_step pattern_step x s) (sym (pattern_node.rolls-Bind n m))
    ∙ ap (λ (f : Span → PatternTree). f s) (fold-roll-PatternNode (Span → PatternTree) (Ident × PatternTree) PatternTree pattern_node_step field_pattern_step pattern_step (pattern_form.Bind n m))

pub pattern_int : (s : Span) (g : Bool) (v : ℕ) (k : Option Kind) → plain-PatternNode (pattern_node.Int g v k) s ≡ plain.int_pattern s g v k
unfolding plain-PatternNode plain-FieldPattern plain-Pattern
pattern_int s g v k =
    ap (λ (x : PatternNode). fold-PatternNode (Span → PatternTree) (Ident × PatternTree) PatternTree pattern_node_step field_pattern_step pattern_step x s) (sym (pattern_node.rolls-Int g v k))
    ∙ ap (λ (f : Span → PatternTree). f s) (fold-roll-PatternNode (Span → PatternTree) (Ident × PatternTree) PatternTree pattern_node_step field_pattern_step pattern_step (pattern_form.Int g v k))

pub pattern_bool : (s : Span) (b : Bool) → plain-PatternNode (pattern_node.Bool b) s ≡ plain.bool_pattern s b
unfolding plain-PatternNode plain-FieldPattern plain-Pattern
pattern_bool s b =
    ap (λ (x : PatternNode). fold-PatternNode (Span → PatternTree) (Ident × PatternTree) PatternTree pattern_node_step field_pattern_step pattern_step x s) (sym (pattern_node.rolls-Bool b))
    ∙ ap (λ (f : Span → PatternTree). f s) (fold-roll-PatternNode (Span → PatternTree) (Ident × PatternTree) PatternTree pattern_node_step field_pattern_step pattern_step (pattern_form.Bool b))

pub pattern_tuple : (s : Span) (ps : List Pattern) → plain-PatternNode (pattern_node.Tuple ps) s ≡ plain.tuple_pattern s (patterns_of (map plain-Pattern ps))
unfolding plain-PatternNode plain-FieldPattern plain-Pattern
pattern_tuple s ps =
    ap (λ (x : PatternNode). fold-PatternNode (Span → PatternTree) (Ident × PatternTree) PatternTree pattern_node_step field_pattern_step pattern_step x s) (sym (pattern_node.rolls-Tuple ps))
    ∙ ap (λ (f : Span → PatternTree). f s) (fold-roll-PatternNode (Span → PatternTree) (Ident × PatternTree) PatternTree pattern_node_step field_pattern_step pattern_step (pattern_form.Tuple ps))

pub pattern_variant : (s : Span) (a : Ident) (v : Ident) (ps : List Pattern) → plain-PatternNode (pattern_node.Variant a v ps) s ≡ plain.variant_pattern s a v (patterns_of (map plain-Pattern ps))
unfolding plain-PatternNode plain-FieldPattern plain-Pattern
pattern_variant s a v ps =
    ap (λ (x : PatternNode). fold-PatternNode (Span → PatternTree) (Ident × PatternTree) PatternTree pattern_node_step field_pattern_step pattern_step x s) (sym (pattern_node.rolls-Variant a v ps))
    ∙ ap (λ (f : Span → PatternTree). f s) (fold-roll-PatternNode (Span → PatternTree) (Ident × PatternTree) PatternTree pattern_node_step field_pattern_step pattern_step (pattern_form.Variant a v ps))

pub pattern_make : (s : Span) (n : Ident) (fs : List FieldPattern) → plain-PatternNode (pattern_node.Make n fs) s ≡ plain.make_pattern s n (field_patterns_of (map plain-FieldPattern fs))
unfolding plain-PatternNode plain-FieldPattern plain-Pattern
pattern_make s n fs =
    ap (λ (x : PatternNode). fold-PatternNode (Span → PatternTree) (Ident × PatternTree) PatternTree pattern_node_step field_pattern_step pattern_step x s) (sym (pattern_node.rolls-Make n fs))
    ∙ ap (λ (f : Span → PatternTree). f s) (fold-roll-PatternNode (Span → PatternTree) (Ident × PatternTree) PatternTree pattern_node_step field_pattern_step pattern_step (pattern_form.Make n fs))

-- ---- expressions, statements, blocks

abbrev pub expressions_of : List Expression → Expressions
expressions_of [] = plain.no_expression
expressions_of (x ∷ xs) = plain.expression_and x (expressions_of xs)

abbrev pub optional_of : Option Expression → OptionalExpression
optional_of None = plain.absent
optional_of (Some e) = plain.present e

abbrev pub optional_list_of : Option (List Expression) → OptionalExpressions
optional_list_of None = plain.no_list
optional_list_of (Some es) = plain.a_list (expressions_of es)

abbrev pub field_expressions_of : List (Ident × Expression) → FieldExpressions
field_expressions_of [] = plain.no_field
field_expressions_of (x ∷ xs) = plain.field_and x.0 x.1 (field_expressions_of xs)

abbrev pub arms_of : List (PatternTree × Expression) → Arms
arms_of [] = plain.no_arm
arms_of (x ∷ xs) = plain.arm_and x.0 x.1 (arms_of xs)

abbrev pub statements_of : List Statement → Statements
statements_of [] = plain.no_statement
statements_of (x ∷ xs) = plain.statement_and x (statements_of xs)

abbrev pub expression_node_step : ExprNode-F (Span → Expression) (Span → Statement) (PatternTree × Expression) Body Expression (Ident × Expression) Statement → Span → Expression
expression_node_step (form.Int v k) s = plain.int s v k
expression_node_step (form.Bool b) s = plain.bool s b
expression_node_step (form.Tuple l) s = plain.tuple s (expressions_of l)
expression_node_step (form.Var x) s = plain.var s x
expression_node_step (form.Field e n) s = plain.field s e n
expression_node_step (form.Part e i) s = plain.part s e i
expression_node_step (form.Deref e) s = plain.deref s e
expression_node_step (form.Neg e) s = plain.negate s e
expression_node_step (form.Not e) s = plain.invert s e
expression_node_step (form.Borrow m e) s = plain.borrow s m e
expression_node_step (form.Binary o a c) s = plain.binary s o a c
expression_node_step (form.Assign a c) s = plain.assign s a c
expression_node_step (form.Update o a c) s = plain.update s o a c
expression_node_step (form.Call f l) s = plain.call s f (expressions_of l)
expression_node_step form.NextInput s = plain.next_input s
expression_node_step (form.Variant a v l) s = plain.variant s a v (optional_list_of l)
expression_node_step (form.Make n l) s = plain.make s n (field_expressions_of l)
expression_node_step (form.Print e) s = plain.print s e
expression_node_step (form.Block b) s = plain.block s b
expression_node_step (form.If c b o) s = plain.if s c b (optional_of o)
expression_node_step (form.IfLet p e b o) s = plain.if_let s (plain-Pattern p) e b (optional_of o)
expression_node_step (form.Match e l) s = plain.match s e (arms_of l)
expression_node_step (form.Loop l b) s = plain.loop s l b
expression_node_step (form.While l c b) s = plain.while s l c b
expression_node_step (form.WhileLet l p e b) s = plain.while_let s l (plain-Pattern p) e b
expression_node_step (form.Break l) s = plain.break s l
expression_node_step (form.Continue l) s = plain.continue s l
expression_node_step (form.Return o) s = plain.return s (optional_of o)

abbrev pub statement_node_step : StmtNode-F (Span → Expression) (Span → Statement) (PatternTree × Expression) Body Expression (Ident × Expression) Statement → Span → Statement
statement_node_step (form.Let p t i) s = plain.let_statement s (plain-Pattern p) (option_map plain-TypeText t) (optional_of i)
statement_node_step (form.Eval e b) s = plain.expression_statement s e b

abbrev pub arm_step : Arm-F (Span → Expression) (Span → Statement) (PatternTree × Expression) Body Expression (Ident × Expression) Statement → PatternTree × Expression
arm_step a = (plain-Pattern a.pattern, a.body)

abbrev pub block_step : Block-F (Span → Expression) (Span → Statement) (PatternTree × Expression) Body Expression (Ident × Expression) Statement → Body
block_step b = plain.body b.span (statements_of b.stmts) (optional_of b.tail)

abbrev pub expression_step : Expr-F (Span → Expression) (Span → Statement) (PatternTree × Expression) Body Expression (Ident × Expression) Statement → Expression
expression_step e = e.node e.span

abbrev pub field_expression_step : FieldExpr-F (Span → Expression) (Span → Statement) (PatternTree × Expression) Body Expression (Ident × Expression) Statement → Ident × Expression
field_expression_step f = (f.field, f.value)

abbrev pub statement_step : Stmt-F (Span → Expression) (Span → Statement) (PatternTree × Expression) Body Expression (Ident × Expression) Statement → Statement
statement_step s = s.node s.span

unfoldable pub plain-ExprNode : ExprNode → Span → Expression
plain-ExprNode = fold-ExprNode (Span → Expression) (Span → Statement) (PatternTree × Expression) Body Expression (Ident × Expression) Statement expression_node_step statement_node_step arm_step block_step expression_step field_expression_step statement_step

unfoldable pub plain-StmtNode : StmtNode → Span → Statement
plain-StmtNode = fold-StmtNode (Span → Expression) (Span → Statement) (PatternTree × Expression) Body Expression (Ident × Expression) Statement expression_node_step statement_node_step arm_step block_step expression_step field_expression_step statement_step

unfoldable pub plain-Arm : Arm → PatternTree × Expression
plain-Arm = fold-Arm (Span → Expression) (Span → Statement) (PatternTree × Expression) Body Expression (Ident × Expression) Statement expression_node_step statement_node_step arm_step block_step expression_step field_expression_step statement_step

unfoldable pub plain-Block : Block → Body
plain-Block = fold-Block (Span → Expression) (Span → Statement) (PatternTree × Expression) Body Expression (Ident × Expression) Statement expression_node_step statement_node_step arm_step block_step expression_step field_expression_step statement_step

unfoldable pub plain-Expr : Expr → Expression
plain-Expr = fold-Expr (Span → Expression) (Span → Statement) (PatternTree × Expression) Body Expression (Ident × Expression) Statement expression_node_step statement_node_step arm_step block_step expression_step field_expression_step statement_step

unfoldable pub plain-FieldExpr : FieldExpr → Ident × Expression
plain-FieldExpr = fold-FieldExpr (Span → Expression) (Span → Statement) (PatternTree × Expression) Body Expression (Ident × Expression) Statement expression_node_step statement_node_step arm_step block_step expression_step field_expression_step statement_step

unfoldable pub plain-Stmt : Stmt → Statement
plain-Stmt = fold-Stmt (Span → Expression) (Span → Statement) (PatternTree × Expression) Body Expression (Ident × Expression) Statement expression_node_step statement_node_step arm_step block_step expression_step field_expression_step statement_step

pub expression_is : (s : Span) (n : ExprNode) → plain-Expr (record { span = s; node = n }) ≡ plain-ExprNode n s
unfolding plain-ExprNode plain-StmtNode plain-Arm plain-Block plain-Expr plain-FieldExpr plain-Stmt
expression_is s n = fold-roll-Expr (Span → Expression) (Span → Statement) (PatternTree × Expression) Body Expression (Ident × Expression) Statement expression_node_step statement_node_step arm_step block_step expression_step field_expression_step statement_step (record { span = s; node = n })

pub statement_is : (s : Span) (n : StmtNode) → plain-Stmt (record { span = s; node = n }) ≡ plain-StmtNode n s
unfolding plain-ExprNode plain-StmtNode plain-Arm plain-Block plain-Expr plain-FieldExpr plain-Stmt
statement_is s n = fold-roll-Stmt (Span → Expression) (Span → Statement) (PatternTree × Expression) Body Expression (Ident × Expression) Statement expression_node_step statement_node_step arm_step block_step expression_step field_expression_step statement_step (record { span = s; node = n })

pub arm_is : (p : Pattern) (e : Expr) → plain-Arm (record { pattern = p; body = e }) ≡ (plain-Pattern p, plain-Expr e)
unfolding plain-ExprNode plain-StmtNode plain-Arm plain-Block plain-Expr plain-FieldExpr plain-Stmt
arm_is p e = fold-roll-Arm (Span → Expression) (Span → Statement) (PatternTree × Expression) Body Expression (Ident × Expression) Statement expression_node_step statement_node_step arm_step block_step expression_step field_expression_step statement_step (record { pattern = p; body = e })

pub field_expression_is : (f : Ident) (e : Expr) → plain-FieldExpr (record { field = f; value = e }) ≡ (f, plain-Expr e)
unfolding plain-ExprNode plain-StmtNode plain-Arm plain-Block plain-Expr plain-FieldExpr plain-Stmt
field_expression_is f e = fold-roll-FieldExpr (Span → Expression) (Span → Statement) (PatternTree × Expression) Body Expression (Ident × Expression) Statement expression_node_step statement_node_step arm_step block_step expression_step field_expression_step statement_step (record { field = f; value = e })

pub block_is : (s : Span) (l : List Stmt) (t : Option Expr) → plain-Block (roll-Block (record { span = s; stmts = l; tail = t })) ≡ plain.body s (statements_of (map plain-Stmt l)) (optional_of (option_map plain-Expr t))
unfolding plain-ExprNode plain-StmtNode plain-Arm plain-Block plain-Expr plain-FieldExpr plain-Stmt
block_is s l None = fold-roll-Block (Span → Expression) (Span → Statement) (PatternTree × Expression) Body Expression (Ident × Expression) Statement expression_node_step statement_node_step arm_step block_step expression_step field_expression_step statement_step (record { span = s; stmts = l; tail = None })
block_is s l (Some e) = fold-roll-Block (Span → Expression) (Span → Statement) (PatternTree × Expression) Body Expression (Ident × Expression) Statement expression_node_step statement_node_step arm_step block_step expression_step field_expression_step statement_step (record { span = s; stmts = l; tail = Some e })

pub expression_int : (s : Span) (v : ℕ) (k : Option Kind) → plain-ExprNode (node.Int v k) s ≡ plain.int s v k
unfolding plain-ExprNode plain-StmtNode plain-Arm plain-Block plain-Expr plain-FieldExpr plain-Stmt
expression_int s v k =
    ap (λ (x : ExprNode). fold-ExprNode (Span → Expression) (Span → Statement) (PatternTree × Expression) Body Expression (Ident × Expression) Statement expression_node_step statement_node_step arm_step block_step expression_step field_expression_step statement_step x s) (sym (node.rolls-Int v k))
    ∙ ap (λ (f : Span → Expression). f s) (fold-roll-ExprNode (Span → Expression) (Span → Statement) (PatternTree × Expression) Body Expression (Ident × Expression) Statement expression_node_step statement_node_step arm_step block_step expression_step field_expression_step statement_step (form.Int v k))

pub expression_bool : (s : Span) (b : Bool) → plain-ExprNode (node.Bool b) s ≡ plain.bool s b
unfolding plain-ExprNode plain-StmtNode plain-Arm plain-Block plain-Expr plain-FieldExpr plain-Stmt
expression_bool s b =
    ap (λ (x : ExprNode). fold-ExprNode (Span → Expression) (Span → Statement) (PatternTree × Expression) Body Expression (Ident × Expression) Statement expression_node_step statement_node_step arm_step block_step expression_step field_expression_step statement_step x s) (sym (node.rolls-Bool b))
    ∙ ap (λ (f : Span → Expression). f s) (fold-roll-ExprNode (Span → Expression) (Span → Statement) (PatternTree × Expression) Body Expression (Ident × Expression) Statement expression_node_step statement_node_step arm_step block_step expression_step field_expression_step statement_step (form.Bool b))

pub expression_tuple : (s : Span) (l : List Expr) → plain-ExprNode (node.Tuple l) s ≡ plain.tuple s (expressions_of (map plain-Expr l))
unfolding plain-ExprNode plain-StmtNode plain-Arm plain-Block plain-Expr plain-FieldExpr plain-Stmt
expression_tuple s l =
    ap (λ (x : ExprNode). fold-ExprNode (Span → Expression) (Span → Statement) (PatternTree × Expression) Body Expression (Ident × Expression) Statement expression_node_step statement_node_step arm_step block_step expression_step field_expression_step statement_step x s) (sym (node.rolls-Tuple l))
    ∙ ap (λ (f : Span → Expression). f s) (fold-roll-ExprNode (Span → Expression) (Span → Statement) (PatternTree × Expression) Body Expression (Ident × Expression) Statement expression_node_step statement_node_step arm_step block_step expression_step field_expression_step statement_step (form.Tuple l))

pub expression_var : (s : Span) (x : List ℕ) → plain-ExprNode (node.Var x) s ≡ plain.var s x
unfolding plain-ExprNode plain-StmtNode plain-Arm plain-Block plain-Expr plain-FieldExpr plain-Stmt
expression_var s x =
    ap (λ (x : ExprNode). fold-ExprNode (Span → Expression) (Span → Statement) (PatternTree × Expression) Body Expression (Ident × Expression) Statement expression_node_step statement_node_step arm_step block_step expression_step field_expression_step statement_step x s) (sym (node.rolls-Var x))
    ∙ ap (λ (f : Span → Expression). f s) (fold-roll-ExprNode (Span → Expression) (Span → Statement) (PatternTree × Expression) Body Expression (Ident × Expression) Statement expression_node_step statement_node_step arm_step block_step expression_step field_expression_step statement_step (form.Var x))

pub expression_field : (s : Span) (e : Expr) (n : Ident) → plain-ExprNode (node.Field e n) s ≡ plain.field s (plain-Expr e) n
unfolding plain-ExprNode plain-StmtNode plain-Arm plain-Block plain-Expr plain-FieldExpr plain-Stmt
expression_field s e n =
    ap (λ (x : ExprNode). fold-ExprNode (Span → Expression) (Span → Statement) (PatternTree × Expression) Body Expression (Ident × Expression) Statement expression_node_step statement_node_step arm_step block_step expression_step field_expression_step statement_step x s) (sym (node.rolls-Field e n))
    ∙ ap (λ (f : Span → Expression). f s) (fold-roll-ExprNode (Span → Expression) (Span → Statement) (PatternTree × Expression) Body Expression (Ident × Expression) Statement expression_node_step statement_node_step arm_step block_step expression_step field_expression_step statement_step (form.Field e n))

pub expression_part : (s : Span) (e : Expr) (i : ℕ) → plain-ExprNode (node.Part e i) s ≡ plain.part s (plain-Expr e) i
unfolding plain-ExprNode plain-StmtNode plain-Arm plain-Block plain-Expr plain-FieldExpr plain-Stmt
expression_part s e i =
    ap (λ (x : ExprNode). fold-ExprNode (Span → Expression) (Span → Statement) (PatternTree × Expression) Body Expression (Ident × Expression) Statement expression_node_step statement_node_step arm_step block_step expression_step field_expression_step statement_step x s) (sym (node.rolls-Part e i))
    ∙ ap (λ (f : Span → Expression). f s) (fold-roll-ExprNode (Span → Expression) (Span → Statement) (PatternTree × Expression) Body Expression (Ident × Expression) Statement expression_node_step statement_node_step arm_step block_step expression_step field_expression_step statement_step (form.Part e i))

pub expression_deref : (s : Span) (e : Expr) → plain-ExprNode (node.Deref e) s ≡ plain.deref s (plain-Expr e)
unfolding plain-ExprNode plain-StmtNode plain-Arm plain-Block plain-Expr plain-FieldExpr plain-Stmt
expression_deref s e =
    ap (λ (x : ExprNode). fold-ExprNode (Span → Expression) (Span → Statement) (PatternTree × Expression) Body Expression (Ident × Expression) Statement expression_node_step statement_node_step arm_step block_step expression_step field_expression_step statement_step x s) (sym (node.rolls-Deref e))
    ∙ ap (λ (f : Span → Expression). f s) (fold-roll-ExprNode (Span → Expression) (Span → Statement) (PatternTree × Expression) Body Expression (Ident × Expression) Statement expression_node_step statement_node_step arm_step block_step expression_step field_expression_step statement_step (form.Deref e))

pub expression_neg : (s : Span) (e : Expr) → plain-ExprNode (node.Neg e) s ≡ plain.negate s (plain-Expr e)
unfolding plain-ExprNode plain-StmtNode plain-Arm plain-Block plain-Expr plain-FieldExpr plain-Stmt
expression_neg s e =
    ap (λ (x : ExprNode). fold-ExprNode (Span → Expression) (Span → Statement) (PatternTree × Expression) Body Expression (Ident × Expression) Statement expression_node_step statement_node_step arm_step block_step expression_step field_expression_step statement_step x s) (sym (node.rolls-Neg e))
    ∙ ap (λ (f : Span → Expression). f s) (fold-roll-ExprNode (Span → Expression) (Span → Statement) (PatternTree × Expression) Body Expression (Ident × Expression) Statement expression_node_step statement_node_step arm_step block_step expression_step field_expression_step statement_step (form.Neg e))

pub expression_not : (s : Span) (e : Expr) → plain-ExprNode (node.Not e) s ≡ plain.invert s (plain-Expr e)
unfolding plain-ExprNode plain-StmtNode plain-Arm plain-Block plain-Expr plain-FieldExpr plain-Stmt
expression_not s e =
    ap (λ (x : ExprNode). fold-ExprNode (Span → Expression) (Span → Statement) (PatternTree × Expression) Body Expression (Ident × Expression) Statement expression_node_step statement_node_step arm_step block_step expression_step field_expression_step statement_step x s) (sym (node.rolls-Not e))
    ∙ ap (λ (f : Span → Expression). f s) (fold-roll-ExprNode (Span → Expression) (Span → Statement) (PatternTree × Expression) Body Expression (Ident × Expression) Statement expression_node_step statement_node_step arm_step block_step expression_step field_expression_step statement_step (form.Not e))

pub expression_borrow : (s : Span) (m : Bool) (e : Expr) → plain-ExprNode (node.Borrow m e) s ≡ plain.borrow s m (plain-Expr e)
unfolding plain-ExprNode plain-StmtNode plain-Arm plain-Block plain-Expr plain-FieldExpr plain-Stmt
expression_borrow s m e =
    ap (λ (x : ExprNode). fold-ExprNode (Span → Expression) (Span → Statement) (PatternTree × Expression) Body Expression (Ident × Expression) Statement expression_node_step statement_node_step arm_step block_step expression_step field_expression_step statement_step x s) (sym (node.rolls-Borrow m e))
    ∙ ap (λ (f : Span → Expression). f s) (fold-roll-ExprNode (Span → Expression) (Span → Statement) (PatternTree × Expression) Body Expression (Ident × Expression) Statement expression_node_step statement_node_step arm_step block_step expression_step field_expression_step statement_step (form.Borrow m e))

pub expression_binary : (s : Span) (o : BinaryOp) (a : Expr) (c : Expr) → plain-ExprNode (node.Binary o a c) s ≡ plain.binary s o (plain-Expr a) (plain-Expr c)
unfolding plain-ExprNode plain-StmtNode plain-Arm plain-Block plain-Expr plain-FieldExpr plain-Stmt
expression_binary s o a c =
    ap (λ (x : ExprNode). fold-ExprNode (Span → Expression) (Span → Statement) (PatternTree × Expression) Body Expression (Ident × Expression) Statement expression_node_step statement_node_step arm_step block_step expression_step field_expression_step statement_step x s) (sym (node.rolls-Binary o a c))
    ∙ ap (λ (f : Span → Expression). f s) (fold-roll-ExprNode (Span → Expression) (Span → Statement) (PatternTree × Expression) Body Expression (Ident × Expression) Statement expression_node_step statement_node_step arm_step block_step expression_step field_expression_step statement_step (form.Binary o a c))

pub expression_assign : (s : Span) (a : Expr) (c : Expr) → plain-ExprNode (node.Assign a c) s ≡ plain.assign s (plain-Expr a) (plain-Expr c)
unfolding plain-ExprNode plain-StmtNode plain-Arm plain-Block plain-Expr plain-FieldExpr plain-Stmt
expression_assign s a c =
    ap (λ (x : ExprNode). fold-ExprNode (Span → Expression) (Span → Statement) (PatternTree × Expression) Body Expression (Ident × Expression) Statement expression_node_step statement_node_step arm_step block_step expression_step field_expression_step statement_step x s) (sym (node.rolls-Assign a c))
    ∙ ap (λ (f : Span → Expression). f s) (fold-roll-ExprNode (Span → Expression) (Span → Statement) (PatternTree × Expression) Body Expression (Ident × Expression) Statement expression_node_step statement_node_step arm_step block_step expression_step field_expression_step statement_step (form.Assign a c))

pub expression_update : (s : Span) (o : UpdateOp) (a : Expr) (c : Expr) → plain-ExprNode (node.Update o a c) s ≡ plain.update s o (plain-Expr a) (plain-Expr c)
unfolding plain-ExprNode plain-StmtNode plain-Arm plain-Block plain-Expr plain-FieldExpr plain-Stmt
expression_update s o a c =
    ap (λ (x : ExprNode). fold-ExprNode (Span → Expression) (Span → Statement) (PatternTree × Expression) Body Expression (Ident × Expression) Statement expression_node_step statement_node_step arm_step block_step expression_step field_expression_step statement_step x s) (sym (node.rolls-Update o a c))
    ∙ ap (λ (f : Span → Expression). f s) (fold-roll-ExprNode (Span → Expression) (Span → Statement) (PatternTree × Expression) Body Expression (Ident × Expression) Statement expression_node_step statement_node_step arm_step block_step expression_step field_expression_step statement_step (form.Update o a c))

pub expression_call : (s : Span) (f : Ident) (l : List Expr) → plain-ExprNode (node.Call f l) s ≡ plain.call s f (expressions_of (map plain-Expr l))
unfolding plain-ExprNode plain-StmtNode plain-Arm plain-Block plain-Expr plain-FieldExpr plain-Stmt
expression_call s f l =
    ap (λ (x : ExprNode). fold-ExprNode (Span → Expression) (Span → Statement) (PatternTree × Expression) Body Expression (Ident × Expression) Statement expression_node_step statement_node_step arm_step block_step expression_step field_expression_step statement_step x s) (sym (node.rolls-Call f l))
    ∙ ap (λ (f : Span → Expression). f s) (fold-roll-ExprNode (Span → Expression) (Span → Statement) (PatternTree × Expression) Body Expression (Ident × Expression) Statement expression_node_step statement_node_step arm_step block_step expression_step field_expression_step statement_step (form.Call f l))

pub expression_nextinput : (s : Span) → plain-ExprNode node.NextInput s ≡ plain.next_input s
unfolding plain-ExprNode plain-StmtNode plain-Arm plain-Block plain-Expr plain-FieldExpr plain-Stmt
expression_nextinput s =
    ap (λ (x : ExprNode). fold-ExprNode (Span → Expression) (Span → Statement) (PatternTree × Expression) Body Expression (Ident × Expression) Statement expression_node_step statement_node_step arm_step block_step expression_step field_expression_step statement_step x s) (sym node.rolls-NextInput)
    ∙ ap (λ (f : Span → Expression). f s) (fold-roll-ExprNode (Span → Expression) (Span → Statement) (PatternTree × Expression) Body Expression (Ident × Expression) Statement expression_node_step statement_node_step arm_step block_step expression_step field_expression_step statement_step form.NextInput)

pub expression_variant : (s : Span) (a : Ident) (v : Ident) (l : Option (List Expr)) → plain-ExprNode (node.Variant a v l) s ≡ plain.variant s a v (optional_list_of (option_map (map plain-Expr) l))
unfolding plain-ExprNode plain-StmtNode plain-Arm plain-Block plain-Expr plain-FieldExpr plain-Stmt
expression_variant s a v None =
    ap (λ (x : ExprNode). fold-ExprNode (Span → Expression) (Span → Statement) (PatternTree × Expression) Body Expression (Ident × Expression) Statement expression_node_step statement_node_step arm_step block_step expression_step field_expression_step statement_step x s) (sym (node.rolls-Variant a v None))
    ∙ ap (λ (f : Span → Expression). f s) (fold-roll-ExprNode (Span → Expression) (Span → Statement) (PatternTree × Expression) Body Expression (Ident × Expression) Statement expression_node_step statement_node_step arm_step block_step expression_step field_expression_step statement_step (form.Variant a v None))
expression_variant s a v (Some held) =
    ap (λ (x : ExprNode). fold-ExprNode (Span → Expression) (Span → Statement) (PatternTree × Expression) Body Expression (Ident × Expression) Statement expression_node_step statement_node_step arm_step block_step expression_step field_expression_step statement_step x s) (sym (node.rolls-Variant a v (Some held)))
    ∙ ap (λ (f : Span → Expression). f s) (fold-roll-ExprNode (Span → Expression) (Span → Statement) (PatternTree × Expression) Body Expression (Ident × Expression) Statement expression_node_step statement_node_step arm_step block_step expression_step field_expression_step statement_step (form.Variant a v (Some held)))

pub expression_make : (s : Span) (n : Ident) (l : List FieldExpr) → plain-ExprNode (node.Make n l) s ≡ plain.make s n (field_expressions_of (map plain-FieldExpr l))
unfolding plain-ExprNode plain-StmtNode plain-Arm plain-Block plain-Expr plain-FieldExpr plain-Stmt
expression_make s n l =
    ap (λ (x : ExprNode). fold-ExprNode (Span → Expression) (Span → Statement) (PatternTree × Expression) Body Expression (Ident × Expression) Statement expression_node_step statement_node_step arm_step block_step expression_step field_expression_step statement_step x s) (sym (node.rolls-Make n l))
    ∙ ap (λ (f : Span → Expression). f s) (fold-roll-ExprNode (Span → Expression) (Span → Statement) (PatternTree × Expression) Body Expression (Ident × Expression) Statement expression_node_step statement_node_step arm_step block_step expression_step field_expression_step statement_step (form.Make n l))

pub expression_print : (s : Span) (e : Expr) → plain-ExprNode (node.Print e) s ≡ plain.print s (plain-Expr e)
unfolding plain-ExprNode plain-StmtNode plain-Arm plain-Block plain-Expr plain-FieldExpr plain-Stmt
expression_print s e =
    ap (λ (x : ExprNode). fold-ExprNode (Span → Expression) (Span → Statement) (PatternTree × Expression) Body Expression (Ident × Expression) Statement expression_node_step statement_node_step arm_step block_step expression_step field_expression_step statement_step x s) (sym (node.rolls-Print e))
    ∙ ap (λ (f : Span → Expression). f s) (fold-roll-ExprNode (Span → Expression) (Span → Statement) (PatternTree × Expression) Body Expression (Ident × Expression) Statement expression_node_step statement_node_step arm_step block_step expression_step field_expression_step statement_step (form.Print e))

pub expression_block : (s : Span) (b : Block) → plain-ExprNode (node.Block b) s ≡ plain.block s (plain-Block b)
unfolding plain-ExprNode plain-StmtNode plain-Arm plain-Block plain-Expr plain-FieldExpr plain-Stmt
expression_block s b =
    ap (λ (x : ExprNode). fold-ExprNode (Span → Expression) (Span → Statement) (PatternTree × Expression) Body Expression (Ident × Expression) Statement expression_node_step statement_node_step arm_step block_step expression_step field_expression_step statement_step x s) (sym (node.rolls-Block b))
    ∙ ap (λ (f : Span → Expression). f s) (fold-roll-ExprNode (Span → Expression) (Span → Statement) (PatternTree × Expression) Body Expression (Ident × Expression) Statement expression_node_step statement_node_step arm_step block_step expression_step field_expression_step statement_step (form.Block b))

pub expression_if : (s : Span) (c : Expr) (b : Block) (o : Option Expr) → plain-ExprNode (node.If c b o) s ≡ plain.if s (plain-Expr c) (plain-Block b) (optional_of (option_map plain-Expr o))
unfolding plain-ExprNode plain-StmtNode plain-Arm plain-Block plain-Expr plain-FieldExpr plain-Stmt
expression_if s c b None =
    ap (λ (x : ExprNode). fold-ExprNode (Span → Expression) (Span → Statement) (PatternTree × Expression) Body Expression (Ident × Expression) Statement expression_node_step statement_node_step arm_step block_step expression_step field_expression_step statement_step x s) (sym (node.rolls-If c b None))
    ∙ ap (λ (f : Span → Expression). f s) (fold-roll-ExprNode (Span → Expression) (Span → Statement) (PatternTree × Expression) Body Expression (Ident × Expression) Statement expression_node_step statement_node_step arm_step block_step expression_step field_expression_step statement_step (form.If c b None))
expression_if s c b (Some held) =
    ap (λ (x : ExprNode). fold-ExprNode (Span → Expression) (Span → Statement) (PatternTree × Expression) Body Expression (Ident × Expression) Statement expression_node_step statement_node_step arm_step block_step expression_step field_expression_step statement_step x s) (sym (node.rolls-If c b (Some held)))
    ∙ ap (λ (f : Span → Expression). f s) (fold-roll-ExprNode (Span → Expression) (Span → Statement) (PatternTree × Expression) Body Expression (Ident × Expression) Statement expression_node_step statement_node_step arm_step block_step expression_step field_expression_step statement_step (form.If c b (Some held)))

pub expression_if_let : (s : Span) (p : Pattern) (e : Expr) (b : Block) (o : Option Expr) → plain-ExprNode (node.IfLet p e b o) s ≡ plain.if_let s (plain-Pattern p) (plain-Expr e) (plain-Block b) (optional_of (option_map plain-Expr o))
unfolding plain-ExprNode plain-StmtNode plain-Arm plain-Block plain-Expr plain-FieldExpr plain-Stmt
expression_if_let s p e b None =
    ap (λ (x : ExprNode). fold-ExprNode (Span → Expression) (Span → Statement) (PatternTree × Expression) Body Expression (Ident × Expression) Statement expression_node_step statement_node_step arm_step block_step expression_step field_expression_step statement_step x s) (sym (node.rolls-IfLet p e b None))
    ∙ ap (λ (f : Span → Expression). f s) (fold-roll-ExprNode (Span → Expression) (Span → Statement) (PatternTree × Expression) Body Expression (Ident × Expression) Statement expression_node_step statement_node_step arm_step block_step expression_step field_expression_step statement_step (form.IfLet p e b None))
expression_if_let s p e b (Some held) =
    ap (λ (x : ExprNode). fold-ExprNode (Span → Expression) (Span → Statement) (PatternTree × Expression) Body Expression (Ident × Expression) Statement expression_node_step statement_node_step arm_step block_step expression_step field_expression_step statement_step x s) (sym (node.rolls-IfLet p e b (Some held)))
    ∙ ap (λ (f : Span → Expression). f s) (fold-roll-ExprNode (Span → Expression) (Span → Statement) (PatternTree × Expression) Body Expression (Ident × Expression) Statement expression_node_step statement_node_step arm_step block_step expression_step field_expression_step statement_step (form.IfLet p e b (Some held)))

pub expression_match : (s : Span) (e : Expr) (l : List Arm) → plain-ExprNode (node.Match e l) s ≡ plain.match s (plain-Expr e) (arms_of (map plain-Arm l))
unfolding plain-ExprNode plain-StmtNode plain-Arm plain-Block plain-Expr plain-FieldExpr plain-Stmt
expression_match s e l =
    ap (λ (x : ExprNode). fold-ExprNode (Span → Expression) (Span → Statement) (PatternTree × Expression) Body Expression (Ident × Expression) Statement expression_node_step statement_node_step arm_step block_step expression_step field_expression_step statement_step x s) (sym (node.rolls-Match e l))
    ∙ ap (λ (f : Span → Expression). f s) (fold-roll-ExprNode (Span → Expression) (Span → Statement) (PatternTree × Expression) Body Expression (Ident × Expression) Statement expression_node_step statement_node_step arm_step block_step expression_step field_expression_step statement_step (form.Match e l))

pub expression_loop : (s : Span) (l : Option Ident) (b : Block) → plain-ExprNode (node.Loop l b) s ≡ plain.loop s l (plain-Block b)
unfolding plain-ExprNode plain-StmtNode plain-Arm plain-Block plain-Expr plain-FieldExpr plain-Stmt
expression_loop s l b =
    ap (λ (x : ExprNode). fold-ExprNode (Span → Expression) (Span → Statement) (PatternTree × Expression) Body Expression (Ident × Expression) Statement expression_node_step statement_node_step arm_step block_step expression_step field_expression_step statement_step x s) (sym (node.rolls-Loop l b))
    ∙ ap (λ (f : Span → Expression). f s) (fold-roll-ExprNode (Span → Expression) (Span → Statement) (PatternTree × Expression) Body Expression (Ident × Expression) Statement expression_node_step statement_node_step arm_step block_step expression_step field_expression_step statement_step (form.Loop l b))

pub expression_while : (s : Span) (l : Option Ident) (c : Expr) (b : Block) → plain-ExprNode (node.While l c b) s ≡ plain.while s l (plain-Expr c) (plain-Block b)
unfolding plain-ExprNode plain-StmtNode plain-Arm plain-Block plain-Expr plain-FieldExpr plain-Stmt
expression_while s l c b =
    ap (λ (x : ExprNode). fold-ExprNode (Span → Expression) (Span → Statement) (PatternTree × Expression) Body Expression (Ident × Expression) Statement expression_node_step statement_node_step arm_step block_step expression_step field_expression_step statement_step x s) (sym (node.rolls-While l c b))
    ∙ ap (λ (f : Span → Expression). f s) (fold-roll-ExprNode (Span → Expression) (Span → Statement) (PatternTree × Expression) Body Expression (Ident × Expression) Statement expression_node_step statement_node_step arm_step block_step expression_step field_expression_step statement_step (form.While l c b))

pub expression_while_let : (s : Span) (l : Option Ident) (p : Pattern) (e : Expr) (b : Block) → plain-ExprNode (node.WhileLet l p e b) s ≡ plain.while_let s l (plain-Pattern p) (plain-Expr e) (plain-Block b)
unfolding plain-ExprNode plain-StmtNode plain-Arm plain-Block plain-Expr plain-FieldExpr plain-Stmt
expression_while_let s l p e b =
    ap (λ (x : ExprNode). fold-ExprNode (Span → Expression) (Span → Statement) (PatternTree × Expression) Body Expression (Ident × Expression) Statement expression_node_step statement_node_step arm_step block_step expression_step field_expression_step statement_step x s) (sym (node.rolls-WhileLet l p e b))
    ∙ ap (λ (f : Span → Expression). f s) (fold-roll-ExprNode (Span → Expression) (Span → Statement) (PatternTree × Expression) Body Expression (Ident × Expression) Statement expression_node_step statement_node_step arm_step block_step expression_step field_expression_step statement_step (form.WhileLet l p e b))

pub expression_break : (s : Span) (l : Option Ident) → plain-ExprNode (node.Break l) s ≡ plain.break s l
unfolding plain-ExprNode plain-StmtNode plain-Arm plain-Block plain-Expr plain-FieldExpr plain-Stmt
expression_break s l =
    ap (λ (x : ExprNode). fold-ExprNode (Span → Expression) (Span → Statement) (PatternTree × Expression) Body Expression (Ident × Expression) Statement expression_node_step statement_node_step arm_step block_step expression_step field_expression_step statement_step x s) (sym (node.rolls-Break l))
    ∙ ap (λ (f : Span → Expression). f s) (fold-roll-ExprNode (Span → Expression) (Span → Statement) (PatternTree × Expression) Body Expression (Ident × Expression) Statement expression_node_step statement_node_step arm_step block_step expression_step field_expression_step statement_step (form.Break l))

pub expression_continue : (s : Span) (l : Option Ident) → plain-ExprNode (node.Continue l) s ≡ plain.continue s l
unfolding plain-ExprNode plain-StmtNode plain-Arm plain-Block plain-Expr plain-FieldExpr plain-Stmt
expression_continue s l =
    ap (λ (x : ExprNode). fold-ExprNode (Span → Expression) (Span → Statement) (PatternTree × Expression) Body Expression (Ident × Expression) Statement expression_node_step statement_node_step arm_step block_step expression_step field_expression_step statement_step x s) (sym (node.rolls-Continue l))
    ∙ ap (λ (f : Span → Expression). f s) (fold-roll-ExprNode (Span → Expression) (Span → Statement) (PatternTree × Expression) Body Expression (Ident × Expression) Statement expression_node_step statement_node_step arm_step block_step expression_step field_expression_step statement_step (form.Continue l))

pub expression_return : (s : Span) (o : Option Expr) → plain-ExprNode (node.Return o) s ≡ plain.return s (optional_of (option_map plain-Expr o))
unfolding plain-ExprNode plain-StmtNode plain-Arm plain-Block plain-Expr plain-FieldExpr plain-Stmt
expression_return s None =
    ap (λ (x : ExprNode). fold-ExprNode (Span → Expression) (Span → Statement) (PatternTree × Expression) Body Expression (Ident × Expression) Statement expression_node_step statement_node_step arm_step block_step expression_step field_expression_step statement_step x s) (sym (node.rolls-Return None))
    ∙ ap (λ (f : Span → Expression). f s) (fold-roll-ExprNode (Span → Expression) (Span → Statement) (PatternTree × Expression) Body Expression (Ident × Expression) Statement expression_node_step statement_node_step arm_step block_step expression_step field_expression_step statement_step (form.Return None))
expression_return s (Some held) =
    ap (λ (x : ExprNode). fold-ExprNode (Span → Expression) (Span → Statement) (PatternTree × Expression) Body Expression (Ident × Expression) Statement expression_node_step statement_node_step arm_step block_step expression_step field_expression_step statement_step x s) (sym (node.rolls-Return (Some held)))
    ∙ ap (λ (f : Span → Expression). f s) (fold-roll-ExprNode (Span → Expression) (Span → Statement) (PatternTree × Expression) Body Expression (Ident × Expression) Statement expression_node_step statement_node_step arm_step block_step expression_step field_expression_step statement_step (form.Return (Some held)))

pub statement_let : (s : Span) (p : Pattern) (t : Option TypeText) (i : Option Expr) → plain-StmtNode (stmt_node.Let p t i) s ≡ plain.let_statement s (plain-Pattern p) (option_map plain-TypeText t) (optional_of (option_map plain-Expr i))
unfolding plain-ExprNode plain-StmtNode plain-Arm plain-Block plain-Expr plain-FieldExpr plain-Stmt
statement_let s p t None =
    ap (λ (x : StmtNode). fold-StmtNode (Span → Expression) (Span → Statement) (PatternTree × Expression) Body Expression (Ident × Expression) Statement expression_node_step statement_node_step arm_step block_step expression_step field_expression_step statement_step x s) (sym (stmt_node.rolls-Let p t None))
    ∙ ap (λ (f : Span → Statement). f s) (fold-roll-StmtNode (Span → Expression) (Span → Statement) (PatternTree × Expression) Body Expression (Ident × Expression) Statement expression_node_step statement_node_step arm_step block_step expression_step field_expression_step statement_step (form.Let p t None))
statement_let s p t (Some held) =
    ap (λ (x : StmtNode). fold-StmtNode (Span → Expression) (Span → Statement) (PatternTree × Expression) Body Expression (Ident × Expression) Statement expression_node_step statement_node_step arm_step block_step expression_step field_expression_step statement_step x s) (sym (stmt_node.rolls-Let p t (Some held)))
    ∙ ap (λ (f : Span → Statement). f s) (fold-roll-StmtNode (Span → Expression) (Span → Statement) (PatternTree × Expression) Body Expression (Ident × Expression) Statement expression_node_step statement_node_step arm_step block_step expression_step field_expression_step statement_step (form.Let p t (Some held)))

pub statement_eval : (s : Span) (e : Expr) (b : Bool) → plain-StmtNode (stmt_node.Eval e b) s ≡ plain.expression_statement s (plain-Expr e) b
unfolding plain-ExprNode plain-StmtNode plain-Arm plain-Block plain-Expr plain-FieldExpr plain-Stmt
statement_eval s e b =
    ap (λ (x : StmtNode). fold-StmtNode (Span → Expression) (Span → Statement) (PatternTree × Expression) Body Expression (Ident × Expression) Statement expression_node_step statement_node_step arm_step block_step expression_step field_expression_step statement_step x s) (sym (stmt_node.rolls-Eval e b))
    ∙ ap (λ (f : Span → Statement). f s) (fold-roll-StmtNode (Span → Expression) (Span → Statement) (PatternTree × Expression) Body Expression (Ident × Expression) Statement expression_node_step statement_node_step arm_step block_step expression_step field_expression_step statement_step (form.Eval e b))

-- ---- items

abbrev pub plain-Param : Param → Parameter
plain-Param x = record { name = x.name; mutable = x.mutable; typ = plain-TypeText x.typ }

abbrev pub plain-Func : Func → Function
plain-Func f = record {
  name = f.name;
  lifetimes = f.lifetimes;
  params = map plain-Param f.params;
  result = option_map plain-TypeText f.result;
  body = plain-Block f.body;
}

abbrev pub plain-Field : Field → FieldOf
plain-Field f = record { name = f.name; typ = plain-TypeText f.typ }

abbrev pub plain-Struct : Struct → Structure
plain-Struct x = record { name = x.name; derives = x.derives; lifetimes = x.lifetimes; fields = map plain-Field x.fields }

abbrev pub plain-EnumVariant : EnumVariant → VariantOf
plain-EnumVariant v = record { name = v.name; types = types_of (map plain-TypeText v.types) }

abbrev pub plain-Enum : Enum → Enumeration
plain-Enum x = record { name = x.name; derives = x.derives; lifetimes = x.lifetimes; variants = map plain-EnumVariant x.variants }

abbrev pub plain-ItemNode : ItemNode → Span → ItemTree
plain-ItemNode (item_node.Rt r) s = plain.rt_item s r
plain-ItemNode (item_node.Struct x) s = plain.struct_item s (plain-Struct x)
plain-ItemNode (item_node.Enum x) s = plain.enum_item s (plain-Enum x)
plain-ItemNode (item_node.Func f) s = plain.function_item s (plain-Func f)

abbrev pub plain-Item : Item → ItemTree
plain-Item i = plain-ItemNode i.node i.span

-- the plain tree of a program
abbrev pub plain-Program : Program → ProgramTree
plain-Program x = map plain-Item x.items
