-- What a node becomes, where what its form or its parts become is known.
use Rattle.std.proofs.Common.{◌≡◌, List, [], ◌∷◌, map, Option, Some, None, option_map, Result, Ok, IfOk, sym, ◌∙◌, ap, subst}
use Rattle.rx_core.specs.declared.types.Span.{Span}
use Rattle.rx_tree.specs.declared.tree.Expr.{Expr}
use Rattle.rx_tree.specs.declared.tree.ExprNode.{ExprNode}
use Rattle.rx_tree.specs.declared.tree.Block.{Block, out-Block, roll-Block}
use Rattle.rx_tree.specs.declared.tree.Stmt.{Stmt}
use Rattle.rx_tree.specs.declared.tree.StmtNode.{StmtNode}
use Rattle.rx_tree.specs.declared.tree.FieldExpr.{FieldExpr}
use Rattle.rx_tree.specs.declared.tree.Arm.{Arm}
use Rattle.rx_tree.specs.Plain as plain
use Rattle.rx_tree.specs.Plain.{Expression, OptionalExpression, Statement}
use Rattle.rx_tree.specs.PlainOf.{plain-Expr, plain-ExprNode, plain-Block, plain-Stmt, plain-StmtNode, plain-FieldExpr, plain-Arm, expression_is, block_is, optional_of, optional_list_of, expressions_of, field_expressions_of, arms_of, statements_of}
use Rattle.rx_tree.proofs.Rules.{expression_by_node, statement_by_node, block_by_parts}
use Rattle.rx_resolve_names.specs.Meant.{Around}
use Rattle.rx_hoist_extraction.specs.Names.{Names, behind_all}
use Rattle.rx_hoist_extraction.specs.Changed.{Changes, changed, changed_all, changed_arguments, changed_fields, changed_arms, changed_body, changed_optional, changed_statement, changed_statements}
use Rattle.rx_hoist_changes.proofs.ListLemmas.{given}

pub at_node : {E : Type 0} (C : Changes) (own : Names) (ls : List Around) (e : Expr) (n : ExprNode) (x : Expression) (r : Result Expr E) → e.node ≡ n → plain-ExprNode n e.span ≡ x
    → IfOk r (λ it. plain-Expr it ≡ changed C own ls x) → IfOk r (λ it. plain-Expr it ≡ changed C own ls (plain-Expr e))
at_node C own ls e n x r is form made =
    subst (λ y. IfOk r (λ it. plain-Expr it ≡ changed C own ls y)) (sym (expression_by_node e ∙ ap (λ m. plain-ExprNode m e.span) is ∙ form)) made

-- ---- what is walked, where it stands

pub expression_here : {E : Type 0} (C : Changes) (names : Names) (around : List Around) (own : Names) (ls : List Around) (x y : Expr) (r : Result Expr E)
    → IfOk r (λ it. plain-Expr it ≡ changed C own ls (plain-Expr x)) → x ≡ y → own ≡ names → ls ≡ around
    → IfOk r (λ it. plain-Expr it ≡ changed C names around (plain-Expr y))
expression_here C names around own ls x y r made seen same there =
    subst (λ k. IfOk r (λ it. plain-Expr it ≡ changed C names k (plain-Expr y))) there
    (subst (λ o. IfOk r (λ it. plain-Expr it ≡ changed C o ls (plain-Expr y))) same
    (subst (λ e. IfOk r (λ it. plain-Expr it ≡ changed C own ls (plain-Expr e))) seen made))

pub block_here : {E : Type 0} (C : Changes) (names : Names) (around : List Around) (own : Names) (ls : List Around) (x y : Block) (r : Result Block E)
    → IfOk r (λ it. plain-Block it ≡ changed_body C own ls (plain-Block x)) → x ≡ y → own ≡ names → ls ≡ around
    → IfOk r (λ it. plain-Block it ≡ changed_body C names around (plain-Block y))
block_here C names around own ls x y r made seen same there =
    subst (λ k. IfOk r (λ it. plain-Block it ≡ changed_body C names k (plain-Block y))) there
    (subst (λ o. IfOk r (λ it. plain-Block it ≡ changed_body C o ls (plain-Block y))) same
    (subst (λ b. IfOk r (λ it. plain-Block it ≡ changed_body C own ls (plain-Block b))) seen made))

pub list_here : {E : Type 0} (C : Changes) (own : Names) (ls : List Around) (x y : List Expr) (r : Result (List Expr) E)
    → IfOk r (λ it. expressions_of (map plain-Expr it) ≡ changed_all C own ls (expressions_of (map plain-Expr x))) → x ≡ y
    → IfOk r (λ it. expressions_of (map plain-Expr it) ≡ changed_all C own ls (expressions_of (map plain-Expr y)))
list_here C own ls x y r made seen = subst (λ l. IfOk r (λ it. expressions_of (map plain-Expr it) ≡ changed_all C own ls (expressions_of (map plain-Expr l)))) seen made

pub fields_here : {E : Type 0} (C : Changes) (own : Names) (ls : List Around) (x y : List FieldExpr) (r : Result (List FieldExpr) E)
    → IfOk r (λ it. field_expressions_of (map plain-FieldExpr it) ≡ changed_fields C own ls (field_expressions_of (map plain-FieldExpr x))) → x ≡ y
    → IfOk r (λ it. field_expressions_of (map plain-FieldExpr it) ≡ changed_fields C own ls (field_expressions_of (map plain-FieldExpr y)))
fields_here C own ls x y r made seen =
    subst (λ l. IfOk r (λ it. field_expressions_of (map plain-FieldExpr it) ≡ changed_fields C own ls (field_expressions_of (map plain-FieldExpr l)))) seen made

pub arms_here : {E : Type 0} (C : Changes) (own : Names) (ls : List Around) (x y : List Arm) (r : Result (List Arm) E)
    → IfOk r (λ it. arms_of (map plain-Arm it) ≡ changed_arms C own ls (arms_of (map plain-Arm x))) → x ≡ y
    → IfOk r (λ it. arms_of (map plain-Arm it) ≡ changed_arms C own ls (arms_of (map plain-Arm y)))
arms_here C own ls x y r made seen = subst (λ l. IfOk r (λ it. arms_of (map plain-Arm it) ≡ changed_arms C own ls (arms_of (map plain-Arm l)))) seen made

-- ---- parts that may be there

pub present_made : (C : Changes) (own : Names) (ls : List Around) (o : Option Expr) (x y : Expr) → o ≡ Some x → plain-Expr y ≡ changed C own ls (plain-Expr x)
    → plain.present (plain-Expr y) ≡ changed_optional C own ls (optional_of (option_map plain-Expr o))
present_made C own ls o x y is made = ap plain.present made ∙ ap (λ k. changed_optional C own ls (optional_of (option_map plain-Expr k))) (sym is)

pub absent_made : (C : Changes) (own : Names) (ls : List Around) (o : Option Expr) → o ≡ None → plain.absent ≡ changed_optional C own ls (optional_of (option_map plain-Expr o))
absent_made C own ls o is = ap (λ k. changed_optional C own ls (optional_of (option_map plain-Expr k))) (sym is)

pub list_made : (C : Changes) (own : Names) (ls : List Around) (o : Option (List Expr)) (x : List Expr) (y : List Expr) → o ≡ Some x
    → expressions_of (map plain-Expr y) ≡ changed_all C own ls (expressions_of (map plain-Expr x))
    → plain.a_list (expressions_of (map plain-Expr y)) ≡ changed_arguments C own ls (optional_list_of (option_map (map plain-Expr) o))
list_made C own ls o x y is made = ap plain.a_list made ∙ ap (λ k. changed_arguments C own ls (optional_list_of (option_map (map plain-Expr) k))) (sym is)

pub no_list_made : (C : Changes) (own : Names) (ls : List Around) (o : Option (List Expr)) → o ≡ None
    → plain.no_list ≡ changed_arguments C own ls (optional_list_of (option_map (map plain-Expr) o))
no_list_made C own ls o is = ap (λ k. changed_arguments C own ls (optional_list_of (option_map (map plain-Expr) k))) (sym is)

pub return_made : {E : Type 0} (C : Changes) (s : Span) (o : OptionalExpression) (v : Option Expr) (r : Result Expr E) → optional_of (option_map plain-Expr v) ≡ o
    → IfOk r (λ it. plain-Expr it ≡ C.at_return s (optional_of (option_map plain-Expr v))) → IfOk r (λ it. plain-Expr it ≡ C.at_return s o)
return_made C s o v r is made = subst (λ y. IfOk r (λ it. plain-Expr it ≡ C.at_return s y)) is made

-- ---- a block by its parts

pub block_made : {E F : Type 0} (C : Changes) (own : Names) (ls : List Around) (b : Block) (old new seen : Names) (l stmts held : List Stmt) (tail : Option Expr)
    (r : Result Block E) (q : Result (Option Expr) F)
    → statements_of (map plain-Stmt stmts) ≡ changed_statements C old ls (statements_of (map plain-Stmt l)) → new ≡ behind_all old (statements_of (map plain-Stmt l))
    → IfOk q (λ it. optional_of (option_map plain-Expr it) ≡ changed_optional C seen ls (optional_of (option_map plain-Expr (out-Block b).tail)))
    → IfOk r (λ it. plain-Block it ≡ C.at_block (plain-Block b) (plain-Block (roll-Block (record { span = (out-Block b).span; stmts = held; tail = tail }))))
    → q ≡ Ok tail → held ≡ stmts → l ≡ (out-Block b).stmts → old ≡ own → seen ≡ new
    → IfOk r (λ it. plain-Block it ≡ changed_body C own ls (plain-Block b))
block_made C own ls b old new seen l stmts held tail r q made behind ended put came same whole began there =
    let s = (out-Block b).span in
    let SS = statements_of (map plain-Stmt (out-Block b).stmts) in
    let O = optional_of (option_map plain-Expr (out-Block b).tail) in
    let first : statements_of (map plain-Stmt held) ≡ changed_statements C own ls SS =
    ap (λ k. statements_of (map plain-Stmt k)) same ∙ made
    ∙ ap (λ k. changed_statements C old ls (statements_of (map plain-Stmt k))) whole
    ∙ ap (λ o. changed_statements C o ls SS) began in
    let names : seen ≡ behind_all own SS =
    there ∙ behind ∙ ap (λ k. behind_all old (statements_of (map plain-Stmt k))) whole ∙ ap (λ o. behind_all o SS) began in
    let second : optional_of (option_map plain-Expr tail) ≡ changed_optional C (behind_all own SS) ls O =
    given (λ it. optional_of (option_map plain-Expr it) ≡ changed_optional C seen ls O) q tail came ended ∙ ap (λ n. changed_optional C n ls O) names in
    let is : plain-Block b ≡ plain.body s SS O = block_by_parts b in
    let parts : plain-Block (roll-Block (record { span = s; stmts = held; tail = tail })) ≡ plain.body s (changed_statements C own ls SS) (changed_optional C (behind_all own SS) ls O) =
    block_is s held tail ∙ ap (λ ss. plain.body s ss (optional_of (option_map plain-Expr tail))) first ∙ ap (plain.body s (changed_statements C own ls SS)) second in
    let all : C.at_block (plain-Block b) (plain-Block (roll-Block (record { span = s; stmts = held; tail = tail }))) ≡ changed_body C own ls (plain-Block b) =
    ap (C.at_block (plain-Block b)) parts
    ∙ ap (λ x. C.at_block x (plain.body s (changed_statements C own ls SS) (changed_optional C (behind_all own SS) ls O))) is
    ∙ sym (ap (changed_body C own ls) is) in
    subst (λ y. IfOk r (λ it. plain-Block it ≡ y)) all put

-- a node that is made at once
pub made_at : (C : Changes) (own : Names) (ls : List Around) (e : Expr) (n m : ExprNode) (x : Expression) → e.node ≡ n → plain-ExprNode n e.span ≡ x → plain-ExprNode m e.span ≡ changed C own ls x
    → plain-Expr (record { span = e.span; node = m }) ≡ changed C own ls (plain-Expr e)
made_at C own ls e n m x is form made =
    expression_is e.span m ∙ made ∙ ap (changed C own ls) (sym (expression_by_node e ∙ ap (λ k. plain-ExprNode k e.span) is ∙ form))

pub at_statement : {E : Type 0} (C : Changes) (own : Names) (ls : List Around) (a : Stmt) (n : StmtNode) (x : Statement) (r : Result Stmt E) → a.node ≡ n → plain-StmtNode n a.span ≡ x
    → IfOk r (λ it. plain-Stmt it ≡ changed_statement C own ls x) → IfOk r (λ it. plain-Stmt it ≡ changed_statement C own ls (plain-Stmt a))
at_statement C own ls a n x r is form made =
    subst (λ y. IfOk r (λ it. plain-Stmt it ≡ changed_statement C own ls y)) (sym (statement_by_node a ∙ ap (λ m. plain-StmtNode m a.span) is ∙ form)) made

-- a block of one statement with a tail
pub one_with_tail : (s : Span) (stmts : List Stmt) (tail t : Expr) (a : Stmt) → stmts ≡ a ∷ [] → tail ≡ t
    → plain-Block (roll-Block (record { span = s; stmts = stmts; tail = Some tail })) ≡ plain.body s (plain.statement_and (plain-Stmt a) plain.no_statement) (plain.present (plain-Expr t))
one_with_tail s stmts tail t a one last =
    block_is s stmts (Some tail)
    ∙ ap (λ l. plain.body s (statements_of (map plain-Stmt l)) (plain.present (plain-Expr tail))) one
    ∙ ap (λ e. plain.body s (plain.statement_and (plain-Stmt a) plain.no_statement) (plain.present (plain-Expr e))) last
