-- The parts of an expression are smaller than it.
use Rattle.std.proofs.Common.{◌≡◌, ℕ, zero, suc, ◌+◌, ◌<◌, ◌≤◌, List, [], ◌∷◌, Option, Some, None, map, length, get_or, arith, ap}
use Rattle.rx_tree.specs.declared.tree.Expr.{Expr}
use Rattle.rx_tree.specs.declared.tree.FieldExpr.{FieldExpr}
use Rattle.rx_tree.specs.declared.tree.Arm.{Arm}
use Rattle.rx_tree.specs.declared.tree.Stmt.{Stmt}
use Rattle.rx_tree.specs.Plain as plain
use Rattle.rx_tree.specs.Plain.{Expression, Expressions, OptionalExpression, OptionalExpressions, FieldExpressions, Arms, Body, Statement, Statements}
use Rattle.rx_tree.specs.PlainOf.{plain-Expr, expressions_of, plain-FieldExpr, field_expressions_of, plain-Arm, arms_of, plain-Stmt, statements_of}
use Rattle.rx_tree_operations.specs.Parts.{PartsOf, parts}

abbrev mutual
  pub size : Expression → ℕ
  size (plain.int s v k) = 1
  size (plain.bool s b) = 1
  size (plain.tuple s es) = 1 + size_all es
  size (plain.var s x) = 1
  size (plain.field s e n) = 1 + size e
  size (plain.part s e i) = 1 + size e
  size (plain.deref s e) = 1 + size e
  size (plain.negate s e) = 1 + size e
  size (plain.invert s e) = 1 + size e
  size (plain.borrow s m e) = 1 + size e
  size (plain.binary s o l r) = 1 + (size l + size r)
  size (plain.assign s l r) = 1 + (size l + size r)
  size (plain.update s o l r) = 1 + (size l + size r)
  size (plain.call s f es) = 1 + size_all es
  size (plain.next_input s) = 1
  size (plain.variant s a v es) = 1 + size_arguments es
  size (plain.make s n fs) = 1 + size_fields fs
  size (plain.print s e) = 1 + size e
  size (plain.block s b) = 1 + size_body b
  size (plain.if s c b o) = 1 + (size c + (size_body b + size_optional o))
  size (plain.if_let s p e b o) = 1 + (size e + (size_body b + size_optional o))
  size (plain.match s e l) = 1 + (size e + size_arms l)
  size (plain.loop s l b) = 1 + size_body b
  size (plain.while s l c b) = 1 + (size c + size_body b)
  size (plain.while_let s l p e b) = 1 + (size e + size_body b)
  size (plain.break s l) = 1
  size (plain.continue s l) = 1
  size (plain.return s o) = 1 + size_optional o

  pub size_all : Expressions → ℕ
  size_all plain.no_expression = 0
  size_all (plain.expression_and e es) = size e + size_all es

  pub size_optional : OptionalExpression → ℕ
  size_optional plain.absent = 0
  size_optional (plain.present e) = size e

  pub size_arguments : OptionalExpressions → ℕ
  size_arguments plain.no_list = 0
  size_arguments (plain.a_list es) = size_all es

  pub size_fields : FieldExpressions → ℕ
  size_fields plain.no_field = 0
  size_fields (plain.field_and n e fs) = size e + size_fields fs

  pub size_arms : Arms → ℕ
  size_arms plain.no_arm = 0
  size_arms (plain.arm_and p e rest) = size e + size_arms rest

  pub size_body : Body → ℕ
  size_body (plain.body s ss t) = 1 + (size_statements ss + size_optional t)

  pub size_statement : Statement → ℕ
  size_statement (plain.let_statement s p t i) = size_optional i
  size_statement (plain.expression_statement s e b) = size e

  pub size_statements : Statements → ℕ
  size_statements plain.no_statement = 0
  size_statements (plain.statement_and a rest) = size_statement a + size_statements rest

abbrev pub size_block : Option Body → ℕ
size_block None = 0
size_block (Some b) = size_body b

abbrev pub size_parts : PartsOf → ℕ
size_parts x = size_optional x.first + (size_block x.block + (size_optional x.second + (size_all x.list + (size_fields x.fields + size_arms x.arms))))

parts_size : (e : Expression) → size_parts (parts e) < size e
parts_size (plain.variant s a v plain.no_list) = omega arith
parts_size (plain.variant s a v (plain.a_list es)) = omega arith
parts_size _ = omega arith

pub parts_smaller : (x : PartsOf) (e : Expression) → x ≡ parts e → size_parts x < size e
parts_smaller x e h = let same : size_parts x ≡ size_parts (parts e) = ap size_parts h in let less = parts_size e in omega (arith, same, less)

-- ---- elements of lists

pub expressions_bound : (xs : List Expr) (k : ℕ) (x : Expr) → k < length xs → x ≡ get_or xs k x → size (plain-Expr x) ≤ size_all (expressions_of (map plain-Expr xs))
expressions_bound [] k x h e = let none : ⊥ = omega arith in absurd none
expressions_bound (y ∷ ys) zero x h e = let same : size (plain-Expr x) ≡ size (plain-Expr y) = ap (λ z. size (plain-Expr z)) e in omega (arith, same)
expressions_bound (y ∷ ys) (suc k) x h e =
    let less : k < length ys = omega arith in
    let rest = expressions_bound ys k x less e in
    omega (arith, rest)

abbrev pub size_field : FieldExpr → ℕ
size_field f = size (plain-FieldExpr f).1

pub fields_bound : (xs : List FieldExpr) (k : ℕ) (x : FieldExpr) → k < length xs → x ≡ get_or xs k x → size_field x ≤ size_fields (field_expressions_of (map plain-FieldExpr xs))
fields_bound [] k x h e = let none : ⊥ = omega arith in absurd none
fields_bound (y ∷ ys) zero x h e = let same : size_field x ≡ size_field y = ap size_field e in omega (arith, same)
fields_bound (y ∷ ys) (suc k) x h e =
    let less : k < length ys = omega arith in
    let rest = fields_bound ys k x less e in
    omega (arith, rest)

abbrev pub size_arm : Arm → ℕ
size_arm a = size (plain-Arm a).1

pub arms_bound : (xs : List Arm) (k : ℕ) (x : Arm) → k < length xs → x ≡ get_or xs k x → size_arm x ≤ size_arms (arms_of (map plain-Arm xs))
arms_bound [] k x h e = let none : ⊥ = omega arith in absurd none
arms_bound (y ∷ ys) zero x h e = let same : size_arm x ≡ size_arm y = ap size_arm e in omega (arith, same)
arms_bound (y ∷ ys) (suc k) x h e =
    let less : k < length ys = omega arith in
    let rest = arms_bound ys k x less e in
    omega (arith, rest)

pub statements_bound : (xs : List Stmt) (k : ℕ) (x : Stmt) → k < length xs → x ≡ get_or xs k x → size_statement (plain-Stmt x) ≤ size_statements (statements_of (map plain-Stmt xs))
statements_bound [] k x h e = let none : ⊥ = omega arith in absurd none
statements_bound (y ∷ ys) zero x h e = let same : size_statement (plain-Stmt x) ≡ size_statement (plain-Stmt y) = ap (λ z. size_statement (plain-Stmt z)) e in omega (arith, same)
statements_bound (y ∷ ys) (suc k) x h e =
    let less : k < length ys = omega arith in
    let rest = statements_bound ys k x less e in
    omega (arith, rest)
