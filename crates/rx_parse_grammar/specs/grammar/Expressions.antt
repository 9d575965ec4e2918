-- Expressions, statements and blocks (Rust Reference, "Expressions", "Statements", "Block expressions"). Each expression and
-- each block is one level deeper than the node around it, and a pair of parentheses is a level.
-- The truth value f says whether a struct literal may stand outside parentheses and braces: it may not in a condition or a scrutinee.
use Rattle.std.specs.Prelude.{◌≡◌, ◌≢◌, ℕ, suc, max, Bool, true, false, List, [], ◌∷◌, ◌++◌, Option, Some, None, codes}
use Rattle.rx_core.specs.declared.types.Kind.{Kind}
use Rattle.rx_core.specs.declared.types.Span.{Span}
use Rattle.rx_tree.specs.declared.tree.Ident.{Ident}
use Rattle.rx_tree.specs.declared.tree.BinaryOp.{BinaryOp}
use Rattle.rx_tree.specs.declared.tree.BinaryOp.TheVariants as op
use Rattle.rx_tree.specs.declared.tree.UpdateOp.{UpdateOp}
use Rattle.rx_tree.specs.declared.tree.UpdateOp.TheVariants as update_op
use Rattle.rx_tree.specs.Plain as plain
use Rattle.rx_tree.specs.Plain.{TypeTree, PatternTree, Expression, OptionalExpression, Body, Statement}
use Rattle.rx_tree.specs.PlainOf.{expressions_of, field_expressions_of, arms_of, statements_of}
use Rattle.rx_lex.specs.Tok.{Tok}
use Rattle.rx_parse_grammar.specs.grammar.Words.{IsMark, IsKeyword, IsName, IsNamed, IsFormat, IsLifetime, IsNumber, IsIndex, IsMutability, span_of, ident, second_ampersand}
use Rattle.rx_parse_grammar.specs.grammar.Strengths as at
use Rattle.rx_parse_grammar.specs.grammar.Types.{IsType}
use Rattle.rx_parse_grammar.specs.grammar.Patterns.{IsPattern}

-- the operator of this strength that a token is
pub data IsOperator : ℕ → Tok → BinaryOp → Type 0 where
  times : {t : Tok} → IsMark (codes "*") t → IsOperator at.product t op.Mul
  divided : {t : Tok} → IsMark (codes "/") t → IsOperator at.product t op.Div
  modulo : {t : Tok} → IsMark (codes "%") t → IsOperator at.product t op.Rem
  plus : {t : Tok} → IsMark (codes "+") t → IsOperator at.sum t op.Add
  minus : {t : Tok} → IsMark (codes "-") t → IsOperator at.sum t op.Sub
  equal : {t : Tok} → IsMark (codes "==") t → IsOperator at.comparison t op.Eq
  unequal : {t : Tok} → IsMark (codes "!=") t → IsOperator at.comparison t op.Ne
  less : {t : Tok} → IsMark (codes "<") t → IsOperator at.comparison t op.Lt
  at_most : {t : Tok} → IsMark (codes "<=") t → IsOperator at.comparison t op.Le
  greater : {t : Tok} → IsMark (codes ">") t → IsOperator at.comparison t op.Gt
  at_least : {t : Tok} → IsMark (codes ">=") t → IsOperator at.comparison t op.Ge
  and : {t : Tok} → IsMark (codes "&&") t → IsOperator at.conjunction t op.And
  or : {t : Tok} → IsMark (codes "||") t → IsOperator at.disjunction t op.Or

pub data IsUpdate : Tok → UpdateOp → Type 0 where
  plus_equal : {t : Tok} → IsMark (codes "+=") t → IsUpdate t update_op.Add
  minus_equal : {t : Tok} → IsMark (codes "-=") t → IsUpdate t update_op.Sub
  times_equal : {t : Tok} → IsMark (codes "*=") t → IsUpdate t update_op.Mul
  divided_equal : {t : Tok} → IsMark (codes "/=") t → IsUpdate t update_op.Div
  modulo_equal : {t : Tok} → IsMark (codes "%=") t → IsUpdate t update_op.Rem

-- the tokens begin as an expression that ends in a block does
pub data BeginsLike : List Tok → Type 0 where
  with_brace : {t : Tok} {us : List Tok} → IsMark (codes "{") t → BeginsLike (t ∷ us)
  with_if : {t : Tok} {us : List Tok} → IsKeyword (codes "if") t → BeginsLike (t ∷ us)
  with_match : {t : Tok} {us : List Tok} → IsKeyword (codes "match") t → BeginsLike (t ∷ us)
  with_loop : {t : Tok} {us : List Tok} → IsKeyword (codes "loop") t → BeginsLike (t ∷ us)
  with_while : {t : Tok} {us : List Tok} → IsKeyword (codes "while") t → BeginsLike (t ∷ us)
  with_label : {t : Tok} {us : List Tok} → IsLifetime t → BeginsLike (t ∷ us)

pub data IsLabel : List Tok → Option Ident → Type 0 where
  no_label : IsLabel [] None
  label : (t c : Tok) → IsLifetime t → IsMark (codes ":") c → IsLabel (t ∷ c ∷ []) (Some (ident t))

-- the type behind a pattern
pub data IsAnnotation : List Tok → Option TypeTree → ℕ → Type 0 where
  no_type : IsAnnotation [] None 0
  with_type : {ts : List Tok} (c : Tok) (us : List Tok) (y : TypeTree) (h : ℕ) → IsMark (codes ":") c → IsType us y h → ts ≡ c ∷ us
      → IsAnnotation ts (Some y) h

-- what an `if` or a `while` tests: a condition, or whether a pattern fits a scrutinee
pub data Test : Type 0 where
  condition : Expression → Test
  fitting : PatternTree → Expression → Test

abbrev pub if_of : Span → Test → Body → OptionalExpression → Expression
if_of s (condition x) b y = plain.if s x b y
if_of s (fitting p x) b y = plain.if_let s p x b y

abbrev pub while_of : Span → Option Ident → Test → Body → Expression
while_of s l (condition x) b = plain.while s l x b
while_of s l (fitting p x) b = plain.while_let s l p x b

mutual
  pub data IsExpression : List Tok → Expression → ℕ → Type 0 where
    operand : {ts : List Tok} {x : Expression} {h : ℕ} → IsOperand true at.disjunction ts x h → IsExpression ts x h
    assign : {ts : List Tok} (us vs : List Tok) (t : Tok) (l r : Expression) (m n : ℕ) → IsMark (codes "=") t → IsOperand true at.disjunction us l m
        → IsExpression vs r n → ts ≡ us ++ (t ∷ vs) → IsExpression ts (plain.assign (span_of ts) l r) (suc (max m n))
    update : {ts : List Tok} (us vs : List Tok) (t : Tok) (o : UpdateOp) (l r : Expression) (m n : ℕ) → IsUpdate t o → IsOperand true at.disjunction us l m
        → IsExpression vs r n → ts ≡ us ++ (t ∷ vs) → IsExpression ts (plain.update (span_of ts) o l r) (suc (max m n))
    return : {ts : List Tok} (t : Tok) → IsKeyword (codes "return") t → ts ≡ t ∷ [] → IsExpression ts (plain.return (span_of ts) plain.absent) 1
    return_with : {ts : List Tok} (t : Tok) (us : List Tok) (x : Expression) (h : ℕ) → IsKeyword (codes "return") t → IsExpression us x h
        → ts ≡ t ∷ us → IsExpression ts (plain.return (span_of ts) (plain.present x)) (suc h)
    break : {ts : List Tok} (t : Tok) → IsKeyword (codes "break") t → ts ≡ t ∷ [] → IsExpression ts (plain.break (span_of ts) None) 1
    break_from : {ts : List Tok} (t l : Tok) → IsKeyword (codes "break") t → IsLifetime l → ts ≡ t ∷ l ∷ []
        → IsExpression ts (plain.break (span_of ts) (Some (ident l))) 1
    continue : {ts : List Tok} (t : Tok) → IsKeyword (codes "continue") t → ts ≡ t ∷ [] → IsExpression ts (plain.continue (span_of ts) None) 1
    continue_with : {ts : List Tok} (t l : Tok) → IsKeyword (codes "continue") t → IsLifetime l → ts ≡ t ∷ l ∷ []
        → IsExpression ts (plain.continue (span_of ts) (Some (ident l))) 1

  pub data IsOperand : Bool → ℕ → List Tok → Expression → ℕ → Type 0 where
    unary : {f : Bool} {ts : List Tok} {x : Expression} {h : ℕ} → IsUnary f ts x h → IsOperand f at.unary ts x h
    stronger : {f : Bool} {j : ℕ} {ts : List Tok} {x : Expression} {h : ℕ} → IsOperand f j ts x h → IsOperand f (suc j) ts x h
    -- operators of one strength group to the left
    chain : {f : Bool} {j : ℕ} {ts : List Tok} (us vs : List Tok) (t : Tok) (o : BinaryOp) (l r : Expression) (m n : ℕ) → j ≢ at.sum
        → IsOperator (suc j) t o → IsOperand f (suc j) us l m → IsOperand f j vs r n → ts ≡ us ++ (t ∷ vs)
        → IsOperand f (suc j) ts (plain.binary (span_of ts) o l r) (suc (max m n))
    -- but comparisons, whose operands are sums, don't group
    compare : {f : Bool} {j : ℕ} {ts : List Tok} (us vs : List Tok) (t : Tok) (o : BinaryOp) (l r : Expression) (m n : ℕ) → j ≡ at.sum
        → IsOperator (suc j) t o → IsOperand f j us l m → IsOperand f j vs r n → ts ≡ us ++ (t ∷ vs)
        → IsOperand f (suc j) ts (plain.binary (span_of ts) o l r) (suc (max m n))

  pub data IsUnary : Bool → List Tok → Expression → ℕ → Type 0 where
    postfix : {f : Bool} {ts : List Tok} {x : Expression} {h : ℕ} → IsPostfix f ts x h → IsUnary f ts x h
    negate : {f : Bool} {ts : List Tok} (t : Tok) (us : List Tok) (x : Expression) (h : ℕ) → IsMark (codes "-") t → IsUnary f us x h
        → ts ≡ t ∷ us → IsUnary f ts (plain.negate (span_of ts) x) (suc h)
    invert : {f : Bool} {ts : List Tok} (t : Tok) (us : List Tok) (x : Expression) (h : ℕ) → IsMark (codes "!") t → IsUnary f us x h
        → ts ≡ t ∷ us → IsUnary f ts (plain.invert (span_of ts) x) (suc h)
    deref : {f : Bool} {ts : List Tok} (t : Tok) (us : List Tok) (x : Expression) (h : ℕ) → IsMark (codes "*") t → IsUnary f us x h
        → ts ≡ t ∷ us → IsUnary f ts (plain.deref (span_of ts) x) (suc h)
    borrow : {f : Bool} {ts : List Tok} (t : Tok) (ms us : List Tok) (m : Bool) (x : Expression) (h : ℕ) → IsMark (codes "&") t
        → IsMutability ms m → IsUnary f us x h → ts ≡ t ∷ (ms ++ us) → IsUnary f ts (plain.borrow (span_of ts) m x) (suc h)
    borrow_twice : {f : Bool} {ts : List Tok} (t : Tok) (us : List Tok) (x : Expression) (h : ℕ) → IsMark (codes "&&") t
        → IsUnary f (second_ampersand t ∷ us) x h → ts ≡ t ∷ us → IsUnary f ts (plain.borrow (span_of ts) false x) (suc h)

  pub data IsPostfix : Bool → List Tok → Expression → ℕ → Type 0 where
    primary : {f : Bool} {ts : List Tok} {x : Expression} {h : ℕ} → IsPrimary f ts x h → IsPostfix f ts x h
    field : {f : Bool} {ts : List Tok} (us : List Tok) (d n : Tok) (x : Expression) (h : ℕ) → IsMark (codes ".") d → IsName n → IsPostfix f us x h
        → ts ≡ us ++ (d ∷ n ∷ []) → IsPostfix f ts (plain.field (span_of ts) x (ident n)) (suc h)
    part : {f : Bool} {ts : List Tok} (us : List Tok) (d t : Tok) (v : ℕ) (x : Expression) (h : ℕ) → IsMark (codes ".") d → IsIndex t v
        → IsPostfix f us x h → ts ≡ us ++ (d ∷ t ∷ []) → IsPostfix f ts (plain.part (span_of ts) x v) (suc h)

  pub data IsPrimary : Bool → List Tok → Expression → ℕ → Type 0 where
    number : {f : Bool} {ts : List Tok} (t : Tok) (v : ℕ) (k : Option Kind) → IsNumber t v k → ts ≡ t ∷ [] → IsPrimary f ts (plain.int (span_of ts) v k) 1
    true_is : {f : Bool} {ts : List Tok} (t : Tok) → IsKeyword (codes "true") t → ts ≡ t ∷ [] → IsPrimary f ts (plain.bool (span_of ts) true) 1
    false_is : {f : Bool} {ts : List Tok} (t : Tok) → IsKeyword (codes "false") t → ts ≡ t ∷ [] → IsPrimary f ts (plain.bool (span_of ts) false) 1
    variable : {f : Bool} {ts : List Tok} (t : Tok) → IsName t → ts ≡ t ∷ [] → IsPrimary f ts (plain.var (span_of ts) t.text) 1
    call : {f : Bool} {ts : List Tok} (t o c : Tok) (us : List Tok) (xs : List Expression) (h : ℕ) → IsName t → IsMark (codes "(") o
        → IsMark (codes ")") c → AreArguments us xs h → ts ≡ t ∷ o ∷ (us ++ c ∷ [])
        → IsPrimary f ts (plain.call (span_of ts) (ident t) (expressions_of xs)) (suc h)
    next_input : {f : Bool} {ts : List Tok} (r p n o c : Tok) → IsNamed (codes "rt") r → IsMark (codes "::") p → IsNamed (codes "next") n
        → IsMark (codes "(") o → IsMark (codes ")") c → ts ≡ r ∷ p ∷ n ∷ o ∷ c ∷ [] → IsPrimary f ts (plain.next_input (span_of ts)) 1
    variant : {f : Bool} {ts : List Tok} (e p v : Tok) → IsName e → IsMark (codes "::") p → IsName v → ts ≡ e ∷ p ∷ v ∷ []
        → IsPrimary f ts (plain.variant (span_of ts) (ident e) (ident v) plain.no_list) 1
    variant_with : {f : Bool} {ts : List Tok} (e p v o c : Tok) (us : List Tok) (x : Expression) (xs : List Expression) (h : ℕ) → IsName e
        → IsMark (codes "::") p → IsName v → IsMark (codes "(") o → IsMark (codes ")") c → AreArguments us (x ∷ xs) h
        → ts ≡ e ∷ p ∷ v ∷ o ∷ (us ++ c ∷ [])
        → IsPrimary f ts (plain.variant (span_of ts) (ident e) (ident v) (plain.a_list (expressions_of (x ∷ xs)))) (suc h)
    structure : {ts : List Tok} (n o c : Tok) (us : List Tok) (fs : List (Ident × Expression)) (h : ℕ) → IsName n → IsMark (codes "{") o
        → IsMark (codes "}") c → AreFields us fs h → ts ≡ n ∷ o ∷ (us ++ c ∷ [])
        → IsPrimary true ts (plain.make (span_of ts) (ident n) (field_expressions_of fs)) (suc h)
    print : {f : Bool} {ts : List Tok} (p b o q m c : Tok) (us : List Tok) (x : Expression) (h : ℕ) → IsNamed (codes "println") p
        → IsMark (codes "!") b → IsMark (codes "(") o → IsFormat q → IsMark (codes ",") m → IsMark (codes ")") c → IsExpression us x h
        → ts ≡ p ∷ b ∷ o ∷ q ∷ m ∷ (us ++ c ∷ []) → IsPrimary f ts (plain.print (span_of ts) x) (suc h)
    unit : {f : Bool} {ts : List Tok} (o c : Tok) → IsMark (codes "(") o → IsMark (codes ")") c → ts ≡ o ∷ c ∷ []
        → IsPrimary f ts (plain.tuple (span_of ts) plain.no_expression) 1
    parentheses : {f : Bool} {ts : List Tok} (o c : Tok) (us : List Tok) (x : Expression) (h : ℕ) → IsMark (codes "(") o → IsMark (codes ")") c
        → IsExpression us x h → ts ≡ o ∷ (us ++ c ∷ []) → IsPrimary f ts x (suc h)
    tuple : {f : Bool} {ts : List Tok} (o m c : Tok) (us vs : List Tok) (x : Expression) (xs : List Expression) (h i : ℕ) → IsMark (codes "(") o
        → IsMark (codes ",") m → IsMark (codes ")") c → IsExpression us x h → AreArguments vs xs i → ts ≡ o ∷ (us ++ (m ∷ (vs ++ c ∷ [])))
        → IsPrimary f ts (plain.tuple (span_of ts) (expressions_of (x ∷ xs))) (suc (max h i))
    like : {f : Bool} {ts : List Tok} {x : Expression} {h : ℕ} → IsLike ts x h → IsPrimary f ts x h

  -- expressions with commas between them and perhaps behind the last
  pub data AreArguments : List Tok → List Expression → ℕ → Type 0 where
    no_argument : AreArguments [] [] 0
    last_argument : {ts : List Tok} {x : Expression} {h : ℕ} → IsExpression ts x h → AreArguments ts (x ∷ []) h
    argument_and : {ts : List Tok} (us vs : List Tok) (c : Tok) (x : Expression) (xs : List Expression) (m n : ℕ) → IsExpression us x m
        → IsMark (codes ",") c → AreArguments vs xs n → ts ≡ us ++ (c ∷ vs) → AreArguments ts (x ∷ xs) (max m n)

  -- a field and its value; a field alone has the value of the variable of its name
  pub data IsField : List Tok → Ident × Expression → ℕ → Type 0 where
    long_field : {ts : List Tok} (n c : Tok) (us : List Tok) (x : Expression) (h : ℕ) → IsName n → IsMark (codes ":") c → IsExpression us x h
        → ts ≡ n ∷ c ∷ us → IsField ts (ident n, x) h
    short_field : {ts : List Tok} (n : Tok) → IsName n → ts ≡ n ∷ [] → IsField ts (ident n, plain.var (span_of ts) n.text) 1

  pub data AreFields : List Tok → List (Ident × Expression) → ℕ → Type 0 where
    no_field : AreFields [] [] 0
    last_field : {ts : List Tok} {x : Ident × Expression} {h : ℕ} → IsField ts x h → AreFields ts (x ∷ []) h
    field_and : {ts : List Tok} (us vs : List Tok) (c : Tok) (x : Ident × Expression) (xs : List (Ident × Expression)) (m n : ℕ)
        → IsField us x m → IsMark (codes ",") c → AreFields vs xs n → ts ≡ us ++ (c ∷ vs) → AreFields ts (x ∷ xs) (max m n)

  -- an expression that ends in a block, or begins and ends with braces
  pub data IsLike : List Tok → Expression → ℕ → Type 0 where
    block : {ts : List Tok} (b : Body) (h : ℕ) → IsBlock ts b h → IsLike ts (plain.block (span_of ts) b) (suc h)
    conditional : {ts : List Tok} {x : Expression} {h : ℕ} → IsIf ts x h → IsLike ts x h
    match : {ts : List Tok} (t o c : Tok) (us vs : List Tok) (x : Expression) (a : PatternTree × Expression) (more : List (PatternTree × Expression))
        (m n : ℕ) → IsKeyword (codes "match") t → IsMark (codes "{") o → IsMark (codes "}") c → IsOperand false at.disjunction us x m → AreArms vs (a ∷ more) n
        → ts ≡ t ∷ (us ++ (o ∷ (vs ++ c ∷ []))) → IsLike ts (plain.match (span_of ts) x (arms_of (a ∷ more))) (suc (max m n))
    loop : {ts : List Tok} (ls us : List Tok) (t : Tok) (l : Option Ident) (b : Body) (h : ℕ) → IsLabel ls l → IsKeyword (codes "loop") t
        → IsBlock us b h → ts ≡ ls ++ (t ∷ us) → IsLike ts (plain.loop (span_of ts) l b) (suc h)
    while : {ts : List Tok} (ls us vs : List Tok) (t : Tok) (l : Option Ident) (x : Test) (b : Body) (m n : ℕ) → IsLabel ls l
        → IsKeyword (codes "while") t → IsTest us x m → IsBlock vs b n → ts ≡ ls ++ (t ∷ (us ++ vs))
        → IsLike ts (while_of (span_of ts) l x b) (suc (max m n))

  -- no `&&` and no `||` stands beside a `let`
  pub data IsTest : List Tok → Test → ℕ → Type 0 where
    test : {ts : List Tok} {x : Expression} {h : ℕ} → IsOperand false at.disjunction ts x h → IsTest ts (condition x) h
    test_pattern : {ts : List Tok} (t q : Tok) (ps us : List Tok) (p : PatternTree) (x : Expression) (m n : ℕ) → IsKeyword (codes "let") t
        → IsMark (codes "=") q → IsPattern ps p m → IsOperand false at.comparison us x n → ts ≡ t ∷ (ps ++ (q ∷ us)) → IsTest ts (fitting p x) (max m n)

  pub data IsIf : List Tok → Expression → ℕ → Type 0 where
    if_alone : {ts : List Tok} (t : Tok) (us vs : List Tok) (x : Test) (b : Body) (m n : ℕ) → IsKeyword (codes "if") t
        → IsTest us x m → IsBlock vs b n → ts ≡ t ∷ (us ++ vs) → IsIf ts (if_of (span_of ts) x b plain.absent) (suc (max m n))
    if_else : {ts : List Tok} (t e : Tok) (us vs ws : List Tok) (x : Test) (y : Expression) (b : Body) (m n k : ℕ) → IsKeyword (codes "if") t
        → IsKeyword (codes "else") e → IsTest us x m → IsBlock vs b n → IsElse ws y k → ts ≡ t ∷ (us ++ (vs ++ (e ∷ ws)))
        → IsIf ts (if_of (span_of ts) x b (plain.present y)) (suc (max m (max n k)))

  -- what stands behind `else`: the block is an expression
  pub data IsElse : List Tok → Expression → ℕ → Type 0 where
    else_block : {ts : List Tok} (b : Body) (h : ℕ) → IsBlock ts b h → IsElse ts (plain.block (span_of ts) b) (suc h)
    else_if : {ts : List Tok} {x : Expression} {h : ℕ} → IsIf ts x h → IsElse ts x h

  -- an arm whose body begins as an expression that ends in a block ends with it, and then needs no comma
  pub data AreArms : List Tok → List (PatternTree × Expression) → ℕ → Type 0 where
    no_arm : AreArms [] [] 0
    like_arm : {ts : List Tok} (a : Tok) (ps us vs : List Tok) (p : PatternTree) (x : Expression) (more : List (PatternTree × Expression)) (m n k : ℕ)
        → IsPattern ps p m → IsMark (codes "=>") a → IsLike us x n → AreArms vs more k → ts ≡ ps ++ (a ∷ (us ++ vs))
        → AreArms ts ((p, x) ∷ more) (max (max m n) k)
    like_arm_and : {ts : List Tok} (a c : Tok) (ps us vs : List Tok) (p : PatternTree) (x : Expression) (more : List (PatternTree × Expression))
        (m n k : ℕ) → IsPattern ps p m → IsMark (codes "=>") a → IsLike us x n → IsMark (codes ",") c → AreArms vs more k
        → ts ≡ ps ++ (a ∷ (us ++ (c ∷ vs))) → AreArms ts ((p, x) ∷ more) (max (max m n) k)
    arm_and : {ts : List Tok} (a c : Tok) (ps us vs : List Tok) (p : PatternTree) (x : Expression) (more : List (PatternTree × Expression)) (m n k : ℕ)
        → IsPattern ps p m → IsMark (codes "=>") a → IsExpression us x n → (BeginsLike us → ⊥) → IsMark (codes ",") c → AreArms vs more k
        → ts ≡ ps ++ (a ∷ (us ++ (c ∷ vs))) → AreArms ts ((p, x) ∷ more) (max (max m n) k)
    last_arm : {ts : List Tok} (a : Tok) (ps us : List Tok) (p : PatternTree) (x : Expression) (m n : ℕ) → IsPattern ps p m → IsMark (codes "=>") a
        → IsExpression us x n → (BeginsLike us → ⊥) → ts ≡ ps ++ (a ∷ us) → AreArms ts ((p, x) ∷ []) (max m n)

  pub data IsBlock : List Tok → Body → ℕ → Type 0 where
    braces : {ts : List Tok} (o c : Tok) (us : List Tok) (ss : List Statement) (y : OptionalExpression) (h : ℕ) → IsMark (codes "{") o
        → IsMark (codes "}") c → AreStatements us ss y h → ts ≡ o ∷ (us ++ c ∷ []) → IsBlock ts (plain.body (span_of ts) (statements_of ss) y) (suc h)

  -- a statement that ends with `;`
  pub data IsStatement : List Tok → Statement → ℕ → Type 0 where
    let_with : {ts : List Tok} (t q z : Tok) (ps ys us : List Tok) (p : PatternTree) (y : Option TypeTree) (x : Expression) (m n k : ℕ)
        → IsKeyword (codes "let") t → IsMark (codes "=") q → IsMark (codes ";") z → IsPattern ps p m → IsAnnotation ys y n → IsExpression us x k
        → ts ≡ t ∷ (ps ++ (ys ++ (q ∷ (us ++ z ∷ []))))
        → IsStatement ts (plain.let_statement (span_of ts) p y (plain.present x)) (max (max m n) k)
    let_without : {ts : List Tok} (t n z : Tok) (ms ys : List Tok) (m : Bool) (y : Option TypeTree) (h : ℕ) → IsKeyword (codes "let") t → IsName n
        → IsMark (codes ";") z → IsMutability ms m → IsAnnotation ys y h → ts ≡ t ∷ ((ms ++ n ∷ []) ++ (ys ++ z ∷ []))
        → IsStatement ts (plain.let_statement (span_of ts) (plain.bind (span_of (ms ++ n ∷ [])) (ident n) m) y plain.absent) (max 1 h)
    done : {ts : List Tok} (z : Tok) (us : List Tok) (x : Expression) (h : ℕ) → IsMark (codes ";") z → IsExpression us x h → (BeginsLike us → ⊥)
        → ts ≡ us ++ z ∷ [] → IsStatement ts (plain.expression_statement (span_of ts) x true) h
    done_like : {ts : List Tok} (z : Tok) (us : List Tok) (x : Expression) (h : ℕ) → IsMark (codes ";") z → IsLike us x h
        → ts ≡ us ++ z ∷ [] → IsStatement ts (plain.expression_statement (span_of ts) x true) h

  -- between the braces of a block: a statement or a tail that begins as an expression that ends in a block ends with it
  pub data AreStatements : List Tok → List Statement → OptionalExpression → ℕ → Type 0 where
    end : AreStatements [] [] plain.absent 0
    tail : {ts : List Tok} {x : Expression} {h : ℕ} → IsExpression ts x h → (BeginsLike ts → ⊥) → AreStatements ts [] (plain.present x) h
    tail_like : {ts : List Tok} {x : Expression} {h : ℕ} → IsLike ts x h → AreStatements ts [] (plain.present x) h
    statement_and : {ts : List Tok} (us vs : List Tok) (a : Statement) (ss : List Statement) (y : OptionalExpression) (m n : ℕ)
        → IsStatement us a m → AreStatements vs ss y n → ts ≡ us ++ vs → AreStatements ts (a ∷ ss) y (max m n)
    -- without `;` it is a statement only where more follows
    like_and : {ts : List Tok} (us vs : List Tok) (x : Expression) (ss : List Statement) (y : OptionalExpression) (m n : ℕ) → IsLike us x m
        → AreStatements vs ss y n → vs ≢ [] → ts ≡ us ++ vs → AreStatements ts (plain.expression_statement (span_of us) x false ∷ ss) y (max m n)
