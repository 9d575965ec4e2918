-- The typed tree: what a function is once names, types and coercions are known. Layers above types stand over it.
-- Nodes are those of the syntax tree by their numbers, the function's item being 0; there are no spans.
use Rattle.std.specs.Prelude.{ℕ, ℤ, Bool, List, [], ◌∷◌, ◌++◌, Option}
use Rattle.rx_core.specs.declared.types.Kind.{Kind}
use Rattle.rx_core.specs.declared.types.Step.{Step}
use Rattle.rx_tree.specs.declared.tree.BinaryOp.{BinaryOp}
use Rattle.rx_typed.specs.Types.{Typ, Declarations}

-- ---- places (Rust Reference, "Place expressions and value expressions")

-- A value that is an operand has a temporary, named by the operand's node. The second number tells apart
-- the few that one node has: 0 its value; 1 and 2 what `op=` read and made; 1 what a shared value was before.
pub record Temporary : Type 0 where
  pub node : ℕ
  pub which : ℕ

pub data Root : Type 0 where
  -- a variable, by its number in its function
  variable : ℕ → Root
  temporary : Temporary → Root

-- `x`, `p.f`, `p.0`, `*p`: dereferences that field steps go through by themselves are written out
pub record Place : Type 0 where
  pub root : Root
  pub steps : List Step

-- ---- patterns (Rust Reference, "Patterns")

pub data Constant : Type 0 where
  whole_number : Kind → ℤ → Constant
  truth : Bool → Constant

-- (Rust Reference, "Binding modes")
pub data Mode : Type 0 where
  -- whether it moves
  by_value : Bool → Mode
  -- whether the reference is mutable
  by_reference : Bool → Mode

mutual
  pub data Pattern : Type 0 where
    -- `_`
    any : Pattern
    -- node, variable
    bind : ℕ → ℕ → Mode → Pattern
    -- an integer or a truth value
    exactly : ℕ → Constant → Pattern
    -- a tuple or struct
    parts : Subpatterns → Pattern
    -- node, the enum's item, whether it has more than one variant, the variant
    variant : ℕ → ℕ → Bool → ℕ → Subpatterns → Pattern
    -- what a reference leads to; whether it is mutable. No form of the syntax: it stands wherever one of the three
    -- forms above meets a reference
    behind : Bool → Pattern → Pattern

  -- each with the number of its field
  pub data Subpatterns : Type 0 where
    no_part : Subpatterns
    part_and : ℕ → Pattern → Subpatterns → Subpatterns

-- ---- expressions (Rust Reference, "Expressions")

-- the node, and the type of its value where it is not Never, after a coercion
pub record Mark : Type 0 where
  pub node : ℕ
  pub typ : Option Typ

-- what operands are made into
pub data Making : Type 0 where
  constant : Constant → Making
  negation : Making
  inversion : Making
  -- all but `&&` and `||`
  operation : BinaryOp → Making
  -- what `&&` or `||` gave: the last operand
  lazy : Making
  -- a tuple
  tuple : Making
  -- a struct, by its item
  struct : ℕ → Making
  -- the enum's item, the variant
  variant_of : ℕ → ℕ → Making

mutual
  pub data Exp : Type 0 where
    -- a place as a value: copied, or moved
    read : Mark → Bool → Place → Exp
    -- `&p`, `&mut p`; a place of type `&mut T` at a coercion site is `&mut *p`, or `&*p`
    borrow : Mark → Bool → Place → Exp
    -- a value of type `&mut T`, no place, where `&T` is expected
    share : Mark → Exp → Exp
    -- literals, `-`, `!`, operators, tuples but `()`, struct literals, variants: operands as written, each with its field
    build : Mark → Making → Operands → Exp
    -- `()`, and the missing value of a block, branch or `return`
    unit : Mark → Exp
    -- `a && b` with true, `a || b` with false: b comes where a is that
    lazily : Mark → Bool → Exp → Exp → Exp
    assign : Mark → Place → Exp → Exp
    -- `p op= e`
    update : Mark → BinaryOp → Place → Exp → Exp
    -- the function's item
    call : Mark → ℕ → Operands → Exp
    input : Mark → Exp
    print : Mark → Exp → Exp
    -- the mark of the block itself
    block : Mark → Body → Exp
    -- `match`; `if c`: `match c { true => .., _ => .. }`; `if let P = s`: `match s { P => .., _ => .. }`
    choose : Mark → Scrutinee → Arms → Exp
    -- the loop's number; `while c b`: `loop { if c b else { break } }`; `while let` likewise
    loop : Mark → ℕ → Exp → Exp
    -- `break` and `continue`: the loop's number, whether its next pass begins
    jump : Mark → ℕ → Bool → Exp
    -- `return`, and the end of a function's body
    give : Mark → Exp → Exp

  -- each with the number of its field or parameter
  pub data Operands : Type 0 where
    no_operand : Operands
    operand_and : ℕ → Exp → Operands → Operands

  pub data Scrutinee : Type 0 where
    -- a place that is not coerced, the mark of its node
    at_place : Mark → Place → Scrutinee
    of_value : Exp → Scrutinee

  pub data Arms : Type 0 where
    no_arm : Arms
    arm_and : Pattern → Exp → Arms → Arms

  -- the statements of a block: what a `let` declares is in scope in the rest
  pub data Body : Type 0 where
    -- the tail, or the unit
    ends : Exp → Body
    runs : Exp → Body → Body
    -- a `let` without an initialiser: the statement's node, the variables from left to right
    declares : ℕ → List ℕ → Body → Body
    -- `let P = e;`: the statement's node
    lets : ℕ → Pattern → Scrutinee → Body → Body

-- ---- functions

pub record Variable : Type 0 where
  pub is_mut : Bool
  pub typ : Typ

-- a parameter: the node of its type, its variable
pub record Parameter : Type 0 where
  pub node : ℕ
  pub variable : ℕ

pub record Function : Type 0 where
  pub params : List Parameter
  -- the body's block; it leaves by `give`
  pub body : Exp

-- ---- short forms

abbrev pub own : ℕ → Place
own x = record { root = variable x; steps = [] }

abbrev pub temporary_place : Temporary → Place
temporary_place t = record { root = temporary t; steps = [] }

-- a place, and further steps
abbrev pub under : Place → List Step → Place
under p ss = record { root = p.root; steps = p.steps ++ ss }

abbrev pub mark_of : Exp → Mark
mark_of (read m v p) = m
mark_of (borrow m k p) = m
mark_of (share m e) = m
mark_of (build m w es) = m
mark_of (unit m) = m
mark_of (lazily m b e f) = m
mark_of (assign m p e) = m
mark_of (update m o p e) = m
mark_of (call m f es) = m
mark_of (input m) = m
mark_of (print m e) = m
mark_of (block m b) = m
mark_of (choose m s l) = m
mark_of (loop m l e) = m
mark_of (jump m l k) = m
mark_of (give m e) = m

abbrev pub temporary_at : ℕ → ℕ → Temporary
temporary_at n i = record { node = n; which = i }

-- the temporary of an operand
abbrev pub temporary_of : Exp → Temporary
temporary_of e = temporary_at (mark_of e).node 0

abbrev pub temporaries_of : Operands → List Temporary
temporaries_of no_operand = []
temporaries_of (operand_and i e es) = temporary_of e ∷ temporaries_of es

abbrev pub fields_of : Operands → List ℕ
fields_of no_operand = []
fields_of (operand_and i e es) = i ∷ fields_of es
