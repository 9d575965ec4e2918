-- The tree of a function in which nodes, variables, items, variants and loops have their numbers, and each
-- expression says what its place makes of its value. Rules of types and the typed tree are told of it.
use Rattle.std.specs.Prelude.{ℕ, Bool, true, false, ◌&&◌, ◌||◌, not, List, [], ◌∷◌, ◌++◌, Option, Some, None}
use Rattle.rx_core.specs.declared.types.Kind.{Kind}
use Rattle.rx_tree.specs.declared.tree.BinaryOp.{BinaryOp}
use Rattle.rx_tree.specs.declared.tree.UpdateOp.{UpdateOp}
use Rattle.rx_typed.specs.declared.nodes.Node.{Node}
use Rattle.rx_typed.specs.declared.nodes.Use.{Use}

mutual
  pub data Written : Type 0 where
    a_kind : Node → Kind → Written
    a_bool : Node → Written
    a_tuple : Node → WrittenTypes → Written
    -- whether it is mutable
    a_reference : Node → Bool → Written → Written
    -- the item; how many lifetimes are written, where a list of them is
    an_item : Node → ℕ → Option ℕ → Written

  pub data WrittenTypes : Type 0 where
    no_written : WrittenTypes
    written_and : Written → WrittenTypes → WrittenTypes

mutual
  pub data Pattern : Type 0 where
    wild : Node → Pattern
    -- the variable, whether it is declared `mut`
    bind : Node → ℕ → Bool → Pattern
    -- whether it is negative, the magnitude, the suffix
    whole_number : Node → Bool → ℕ → Option Kind → Pattern
    truth : Node → Bool → Pattern
    tuple_pattern : Node → Patterns → Pattern
    -- the enum's item, the variant
    variant_pattern : Node → ℕ → ℕ → Patterns → Pattern
    -- the struct's item
    struct_pattern : Node → ℕ → FieldPatterns → Pattern

  pub data Patterns : Type 0 where
    no_pattern : Patterns
    pattern_and : Pattern → Patterns → Patterns

  -- each with the name of its field
  pub data FieldPatterns : Type 0 where
    no_field_pattern : FieldPatterns
    field_pattern_and : List ℕ → Pattern → FieldPatterns → FieldPatterns

mutual
  pub data Exp : Type 0 where
    -- whether it stands directly under a minus, the magnitude, the suffix
    int : Node → Bool → ℕ → Option Kind → Exp
    bool : Node → Bool → Exp
    tuple : Node → Exps → Exp
    var : Node → Use → Exp
    field : Node → Exp → List ℕ → Exp
    part : Node → Exp → ℕ → Exp
    deref : Node → Exp → Exp
    negate : Node → Exp → Exp
    invert : Node → Exp → Exp
    borrow : Node → Bool → Exp → Exp
    binary : Node → BinaryOp → Exp → Exp → Exp
    assign : Node → Exp → Exp → Exp
    -- `x = e`, before which `x` waits for its type: the node of `x`; `x` behind `e`; where this gives the type, and no
    -- assignment in `e` did, the node of the pattern that declares `x`
    gives : Node → Node → Use → Option ℕ → Exp → Exp
    update : Node → UpdateOp → Exp → Exp → Exp
    -- the function's item
    call : Node → ℕ → Exps → Exp
    -- a callee that names a variable
    hidden_call : Node → Exps → Exp
    next_input : Node → Exp
    -- the enum's item, the variant
    variant : Node → ℕ → ℕ → Exps → Exp
    -- the struct's item
    make : Node → ℕ → Fields → Exp
    print : Node → Exp → Exp
    block : Node → Body → Exp
    if : Node → Exp → Body → Else → Exp
    if_let : Node → Pattern → Exp → Body → Else → Exp
    match : Node → Exp → Arms → Exp
    -- the loop's number, whether some `break` leads to it
    loop : Node → ℕ → Bool → Body → Exp
    while : Node → ℕ → Exp → Body → Exp
    while_let : Node → ℕ → Pattern → Exp → Body → Exp
    -- the loop's number
    break : Node → ℕ → Exp
    continue : Node → ℕ → Exp
    return : Node → Else → Exp

  pub data Exps : Type 0 where
    no_exp : Exps
    exp_and : Exp → Exps → Exps

  -- what may be missing
  pub data Else : Type 0 where
    absent : Else
    present : Exp → Else

  pub data Fields : Type 0 where
    no_field : Fields
    field_and : List ℕ → Exp → Fields → Fields

  pub data Arms : Type 0 where
    no_arm : Arms
    arm_and : Pattern → Exp → Arms → Arms

  -- the statements and the tail
  pub data Body : Type 0 where
    body : Node → Statements → Else → Body

  pub data Statement : Type 0 where
    -- without an initialiser; the type, where it is written
    declares : Node → Pattern → Option Written → Statement
    lets : Node → Pattern → Option Written → Exp → Statement
    -- whether a `;` follows
    evaluates : Node → Exp → Bool → Statement

  pub data Statements : Type 0 where
    no_statement : Statements
    statement_and : Statement → Statements → Statements

pub record Parameter : Type 0 where
  pub variable : ℕ
  pub typ : Written

pub record Function : Type 0 where
  pub item : ℕ
  pub params : List Parameter
  pub result : Option Written
  pub body : Body
  -- the patterns of the variables that no assignment gives a type
  pub never_given : List Node

-- ---- the node of a part

abbrev pub written_node : Written → Node
written_node (a_kind n k) = n
written_node (a_bool n) = n
written_node (a_tuple n ts) = n
written_node (a_reference n m t) = n
written_node (an_item n i ls) = n

abbrev pub pattern_node : Pattern → Node
pattern_node (wild n) = n
pattern_node (bind n x m) = n
pattern_node (whole_number n g v k) = n
pattern_node (truth n b) = n
pattern_node (tuple_pattern n ps) = n
pattern_node (variant_pattern n i v ps) = n
pattern_node (struct_pattern n i fs) = n

-- the variable that is a whole pattern
abbrev pub whole_binding : Pattern → Option ℕ
whole_binding (bind n x m) = Some x
whole_binding _ = None

abbrev pub node_of : Exp → Node
node_of (int n m v k) = n
node_of (bool n b) = n
node_of (tuple n es) = n
node_of (var n x) = n
node_of (field n e x) = n
node_of (part n e i) = n
node_of (deref n e) = n
node_of (negate n e) = n
node_of (invert n e) = n
node_of (borrow n m e) = n
node_of (binary n o a b) = n
node_of (assign n p e) = n
node_of (gives n p x d e) = n
node_of (update n o p e) = n
node_of (call n f es) = n
node_of (hidden_call n es) = n
node_of (next_input n) = n
node_of (variant n i v es) = n
node_of (make n i fs) = n
node_of (print n e) = n
node_of (block n b) = n
node_of (if n c b o) = n
node_of (if_let n p e b o) = n
node_of (match n e l) = n
node_of (loop n l k b) = n
node_of (while n l c b) = n
node_of (while_let n l p e b) = n
node_of (break n l) = n
node_of (continue n l) = n
node_of (return n o) = n

abbrev pub body_node : Body → Node
body_node (body n ss t) = n

-- ---- places (Rust Reference, "Place expressions and value expressions")

abbrev pub is_place : Exp → Bool
is_place (var n x) = true
is_place (field n e x) = true
is_place (part n e i) = true
is_place (deref n e) = true
is_place _ = false

-- the variable in which a place stands; what is no place names none
abbrev pub no_variable : Use
no_variable = record { number = 0; mutable = false; known = false }

abbrev pub root : Exp → Use
root (var n x) = x
root (field n e x) = root e
root (part n e i) = root e
root (deref n e) = root e
root _ = no_variable

-- a whole variable
abbrev pub is_variable : Exp → Bool
is_variable (var n x) = true
is_variable _ = false

-- ---- what diverges, and what is Never, by the syntax (Rust Reference, "Never type", "Divergence")

-- `&&` and `||` don't always evaluate their right operand
abbrev pub is_strict : BinaryOp → Bool
is_strict BinaryOp.And = false
is_strict BinaryOp.Or = false
is_strict _ = true

abbrev mutual
  -- evaluating it always leaves by a jump, or never ends
  pub diverges : Exp → Bool
  diverges (int n m v k) = false
  diverges (bool n b) = false
  diverges (tuple n es) = any_diverges es
  diverges (var n x) = false
  diverges (field n e x) = diverges e
  diverges (part n e i) = diverges e
  diverges (deref n e) = diverges e
  diverges (negate n e) = diverges e
  diverges (invert n e) = diverges e
  diverges (borrow n m e) = diverges e
  diverges (binary n o a b) = diverges a || (is_strict o && diverges b)
  diverges (assign n p e) = diverges p || diverges e
  diverges (gives n p x d e) = diverges e
  diverges (update n o p e) = diverges p || diverges e
  diverges (call n f es) = any_diverges es
  diverges (hidden_call n es) = any_diverges es
  diverges (next_input n) = false
  diverges (variant n i v es) = any_diverges es
  diverges (make n i fs) = any_field_diverges fs
  diverges (print n e) = diverges e
  diverges (block n b) = body_diverges b
  diverges (if n c b o) = diverges c || (body_diverges b && else_diverges o)
  diverges (if_let n p e b o) = diverges e || (body_diverges b && else_diverges o)
  diverges (match n e l) = diverges e || all_diverge l
  diverges (loop n l k b) = not k
  diverges (while n l c b) = diverges c
  diverges (while_let n l p e b) = diverges e
  diverges (break n l) = true
  diverges (continue n l) = true
  diverges (return n o) = true

  pub any_diverges : Exps → Bool
  any_diverges no_exp = false
  any_diverges (exp_and e es) = diverges e || any_diverges es

  pub else_diverges : Else → Bool
  else_diverges absent = false
  else_diverges (present e) = diverges e

  pub any_field_diverges : Fields → Bool
  any_field_diverges no_field = false
  any_field_diverges (field_and x e fs) = diverges e || any_field_diverges fs

  pub all_diverge : Arms → Bool
  all_diverge no_arm = true
  all_diverge (arm_and p e l) = diverges e && all_diverge l

  pub body_diverges : Body → Bool
  body_diverges (body n ss t) = some_diverges ss || else_diverges t

  pub statement_diverges : Statement → Bool
  statement_diverges (declares n p t) = false
  statement_diverges (lets n p t e) = diverges e
  statement_diverges (evaluates n e s) = diverges e

  pub some_diverges : Statements → Bool
  some_diverges no_statement = false
  some_diverges (statement_and a ss) = statement_diverges a || some_diverges ss

abbrev mutual
  -- it has no type of its own
  pub never : Exp → Bool
  never (block n b) = body_never b
  never (if n c b o) = body_never b && else_never o
  never (if_let n p e b o) = body_never b && else_never o
  never (match n e l) = all_never l
  never (loop n l k b) = not k
  never (break n l) = true
  never (continue n l) = true
  never (return n o) = true
  never _ = false

  pub else_never : Else → Bool
  else_never absent = false
  else_never (present e) = never e

  pub all_never : Arms → Bool
  all_never no_arm = true
  all_never (arm_and p e l) = never e && all_never l

  pub body_never : Body → Bool
  body_never (body n ss o) = tail_never (some_diverges ss) o

  -- a block with this tail; whether its statements diverge
  pub tail_never : Bool → Else → Bool
  tail_never d absent = d
  tail_never d (present e) = never e
