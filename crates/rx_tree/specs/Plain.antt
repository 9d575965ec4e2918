-- Plain trees: what a tree of the code stands for, as ordinary data, spans included.
-- Every definition that speaks of trees stands over these.
use Rattle.std.specs.Prelude.{ℕ, Bool, List, Option}
use Rattle.rx_core.specs.declared.types.Span.{Span}
use Rattle.rx_core.specs.declared.types.Kind.{Kind}
use Rattle.rx_tree.specs.declared.tree.Ident.{Ident}
use Rattle.rx_tree.specs.declared.tree.BinaryOp.{BinaryOp}
use Rattle.rx_tree.specs.declared.tree.UpdateOp.{UpdateOp}
use Rattle.rx_tree.specs.declared.tree.Derive.{Derive}
use Rattle.rx_tree.specs.declared.tree.BoundLifetime.{BoundLifetime}

mutual
  pub data TypeTree : Type 0 where
    kind_type : Span → Kind → TypeTree
    bool_type : Span → TypeTree
    tuple_type : Span → TypeTrees → TypeTree
    -- the lifetime, whether it is mutable, what it points to
    ref_type : Span → Option Ident → Bool → TypeTree → TypeTree
    named_type : Span → Ident → Option (List (Option Ident)) → TypeTree

  pub data TypeTrees : Type 0 where
    no_type : TypeTrees
    type_and : TypeTree → TypeTrees → TypeTrees

mutual
  pub data PatternTree : Type 0 where
    wild : Span → PatternTree
    bind : Span → Ident → Bool → PatternTree
    -- whether it is negative, the magnitude, the suffix
    int_pattern : Span → Bool → ℕ → Option Kind → PatternTree
    bool_pattern : Span → Bool → PatternTree
    tuple_pattern : Span → PatternTrees → PatternTree
    variant_pattern : Span → Ident → Ident → PatternTrees → PatternTree
    make_pattern : Span → Ident → FieldPatterns → PatternTree

  pub data PatternTrees : Type 0 where
    no_pattern : PatternTrees
    pattern_and : PatternTree → PatternTrees → PatternTrees

  pub data FieldPatterns : Type 0 where
    no_field_pattern : FieldPatterns
    field_pattern_and : Ident → PatternTree → FieldPatterns → FieldPatterns

mutual
  pub data Expression : Type 0 where
    int : Span → ℕ → Option Kind → Expression
    bool : Span → Bool → Expression
    tuple : Span → Expressions → Expression
    var : Span → List ℕ → Expression
    field : Span → Expression → Ident → Expression
    part : Span → Expression → ℕ → Expression
    deref : Span → Expression → Expression
    negate : Span → Expression → Expression
    invert : Span → Expression → Expression
    borrow : Span → Bool → Expression → Expression
    binary : Span → BinaryOp → Expression → Expression → Expression
    assign : Span → Expression → Expression → Expression
    update : Span → UpdateOp → Expression → Expression → Expression
    call : Span → Ident → Expressions → Expression
    next_input : Span → Expression
    variant : Span → Ident → Ident → OptionalExpressions → Expression
    make : Span → Ident → FieldExpressions → Expression
    print : Span → Expression → Expression
    block : Span → Body → Expression
    if : Span → Expression → Body → OptionalExpression → Expression
    -- the pattern, the scrutinee, the body, what follows `else`
    if_let : Span → PatternTree → Expression → Body → OptionalExpression → Expression
    match : Span → Expression → Arms → Expression
    loop : Span → Option Ident → Body → Expression
    while : Span → Option Ident → Expression → Body → Expression
    while_let : Span → Option Ident → PatternTree → Expression → Body → Expression
    break : Span → Option Ident → Expression
    continue : Span → Option Ident → Expression
    return : Span → OptionalExpression → Expression

  pub data Expressions : Type 0 where
    no_expression : Expressions
    expression_and : Expression → Expressions → Expressions

  pub data OptionalExpression : Type 0 where
    absent : OptionalExpression
    present : Expression → OptionalExpression

  pub data OptionalExpressions : Type 0 where
    no_list : OptionalExpressions
    a_list : Expressions → OptionalExpressions

  pub data FieldExpressions : Type 0 where
    no_field : FieldExpressions
    field_and : Ident → Expression → FieldExpressions → FieldExpressions

  pub data Arms : Type 0 where
    no_arm : Arms
    arm_and : PatternTree → Expression → Arms → Arms

  -- the statements and the tail
  pub data Body : Type 0 where
    body : Span → Statements → OptionalExpression → Body

  pub data Statement : Type 0 where
    -- the pattern, its type, its initialiser
    let_statement : Span → PatternTree → Option TypeTree → OptionalExpression → Statement
    -- an expression, and whether a `;` follows
    expression_statement : Span → Expression → Bool → Statement

  pub data Statements : Type 0 where
    no_statement : Statements
    statement_and : Statement → Statements → Statements

pub record Parameter : Type 0 where
  pub name : Ident
  pub mutable : Bool
  pub typ : TypeTree

pub record Function : Type 0 where
  pub name : Ident
  pub lifetimes : List BoundLifetime
  pub params : List Parameter
  pub result : Option TypeTree
  pub body : Body

pub record FieldOf : Type 0 where
  pub name : Ident
  pub typ : TypeTree

pub record Structure : Type 0 where
  pub name : Ident
  pub derives : List Derive
  pub lifetimes : List Ident
  pub fields : List FieldOf

pub record VariantOf : Type 0 where
  pub name : Ident
  pub types : TypeTrees

pub record Enumeration : Type 0 where
  pub name : Ident
  pub derives : List Derive
  pub lifetimes : List Ident
  pub variants : List VariantOf

pub data ItemTree : Type 0 where
  -- its span, and that of its `rt`
  rt_item : Span → Span → ItemTree
  struct_item : Span → Structure → ItemTree
  enum_item : Span → Enumeration → ItemTree
  function_item : Span → Function → ItemTree

-- a program: its items
abbrev pub ProgramTree : Type 0
ProgramTree = List ItemTree
