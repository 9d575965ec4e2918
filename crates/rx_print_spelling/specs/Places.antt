-- Where an expression needs parentheses: by what its place takes (Rust Reference, "Expression precedence"), by a struct literal
-- in what is tested, and by the word that it begins with.
use Rattle.std.specs.Prelude.{ℕ, Bool, true, false, not, nat_lt, ◌&&◌, ◌||◌, List, codes}
use Rattle.rx_tree.specs.declared.tree.BinaryOp.{BinaryOp}
use Rattle.rx_tree.specs.declared.tree.BinaryOp.TheVariants as op
use Rattle.rx_tree.specs.declared.tree.UpdateOp.{UpdateOp}
use Rattle.rx_tree.specs.declared.tree.UpdateOp.TheVariants as update_op
use Rattle.rx_tree.specs.Plain as plain
use Rattle.rx_tree.specs.Plain.{Expression, OptionalExpression}
use Rattle.rx_print_spelling.specs.Strengths as at
use Rattle.rx_print_spelling.specs.Pieces.{Piece, enclosed}

abbrev pub operator_text : BinaryOp → List ℕ
operator_text op.Or = codes "||"
operator_text op.And = codes "&&"
operator_text op.Eq = codes "=="
operator_text op.Ne = codes "!="
operator_text op.Lt = codes "<"
operator_text op.Le = codes "<="
operator_text op.Gt = codes ">"
operator_text op.Ge = codes ">="
operator_text op.Add = codes "+"
operator_text op.Sub = codes "-"
operator_text op.Mul = codes "*"
operator_text op.Div = codes "/"
operator_text op.Rem = codes "%"

abbrev pub update_text : UpdateOp → List ℕ
update_text update_op.Add = codes "+="
update_text update_op.Sub = codes "-="
update_text update_op.Mul = codes "*="
update_text update_op.Div = codes "/="
update_text update_op.Rem = codes "%="

-- ---- how weakly an expression holds together

abbrev pub strength : BinaryOp → ℕ
strength op.Or = at.disjunction
strength op.And = at.conjunction
strength op.Eq = at.comparison
strength op.Ne = at.comparison
strength op.Lt = at.comparison
strength op.Le = at.comparison
strength op.Gt = at.comparison
strength op.Ge = at.comparison
strength op.Add = at.sum
strength op.Sub = at.sum
strength op.Mul = at.product
strength op.Div = at.product
strength op.Rem = at.product

-- the weakest operand on the left of an operator: those of one strength group to the left, but comparisons do not group
abbrev pub left_strength : BinaryOp → ℕ
left_strength op.Or = at.disjunction
left_strength op.And = at.conjunction
left_strength op.Eq = at.sum
left_strength op.Ne = at.sum
left_strength op.Lt = at.sum
left_strength op.Le = at.sum
left_strength op.Gt = at.sum
left_strength op.Ge = at.sum
left_strength op.Add = at.sum
left_strength op.Sub = at.sum
left_strength op.Mul = at.product
left_strength op.Div = at.product
left_strength op.Rem = at.product

abbrev pub right_strength : BinaryOp → ℕ
right_strength op.Or = at.conjunction
right_strength op.And = at.comparison
right_strength op.Eq = at.sum
right_strength op.Ne = at.sum
right_strength op.Lt = at.sum
right_strength op.Le = at.sum
right_strength op.Gt = at.sum
right_strength op.Ge = at.sum
right_strength op.Add = at.product
right_strength op.Sub = at.product
right_strength op.Mul = at.unary
right_strength op.Div = at.unary
right_strength op.Rem = at.unary

abbrev pub weakness : Expression → ℕ
weakness (plain.deref s e) = at.unary
weakness (plain.negate s e) = at.unary
weakness (plain.invert s e) = at.unary
weakness (plain.borrow s m e) = at.unary
weakness (plain.binary s o a b) = strength o
weakness (plain.assign s a b) = at.jump
weakness (plain.update s o a b) = at.jump
weakness (plain.break s l) = at.jump
weakness (plain.continue s l) = at.jump
weakness (plain.return s e) = at.jump
weakness _ = at.postfix

-- whether an expression stands in parentheses at a place that takes so weak ones
abbrev pub too_weak : ℕ → Expression → Bool
too_weak place e = nat_lt place (weakness e)

-- ---- a struct literal outside parentheses and braces

abbrev pub shown : Bool → Bool → Bool
shown true b = false
shown false b = b

abbrev mutual
  pub is_open : Expression → Bool
  is_open (plain.make s n fs) = true
  is_open (plain.field s e n) = shown (too_weak at.postfix e) (is_open e)
  is_open (plain.part s e i) = shown (too_weak at.postfix e) (is_open e)
  is_open (plain.deref s e) = shown (too_weak at.unary e) (is_open e)
  is_open (plain.negate s e) = shown (too_weak at.unary e) (is_open e)
  is_open (plain.invert s e) = shown (too_weak at.unary e) (is_open e)
  is_open (plain.borrow s m e) = shown (too_weak at.unary e) (is_open e)
  is_open (plain.binary s o a b) = shown (too_weak (left_strength o) a) (is_open a) || shown (too_weak (right_strength o) b) (is_open b)
  is_open _ = false

-- what is tested stands in parentheses as a whole where it has an open struct literal, and where it is weaker than its place takes: a condition, or
-- what a match looks at, may be a disjunction, what a pattern is to fit a comparison
abbrev pub unfit : ℕ → Expression → Bool
unfit place e = too_weak place e || is_open e

-- ---- expressions that end in a block

abbrev pub is_like : Expression → Bool
is_like (plain.block s b) = true
is_like (plain.if s c b y) = true
is_like (plain.if_let s p e b y) = true
is_like (plain.match s e as') = true
is_like (plain.loop s l b) = true
is_like (plain.while s l c b) = true
is_like (plain.while_let s l p e b) = true
is_like _ = false

abbrev pub is_block : Expression → Bool
is_block (plain.block s b) = true
is_block _ = false

-- what may stand behind `else`
abbrev pub is_branch : Expression → Bool
is_branch (plain.block s b) = true
is_branch (plain.if s c b y) = true
is_branch (plain.if_let s p e b y) = true
is_branch _ = false

-- whether the first word is that of an expression that ends in a block
abbrev pub begins : Expression → Bool
begins (plain.block s b) = true
begins (plain.if s c b y) = true
begins (plain.if_let s p e b y) = true
begins (plain.match s e as') = true
begins (plain.loop s l b) = true
begins (plain.while s l c b) = true
begins (plain.while_let s l p e b) = true
begins (plain.field s e n) = shown (too_weak at.postfix e) (begins e)
begins (plain.part s e i) = shown (too_weak at.postfix e) (begins e)
begins (plain.binary s o a b) = shown (too_weak (left_strength o) a) (begins a)
begins (plain.assign s a b) = shown (too_weak at.disjunction a) (begins a)
begins (plain.update s o a b) = shown (too_weak at.disjunction a) (begins a)
begins _ = false

-- a statement, the tail of a block, or the body of an arm, stands in parentheses as a whole where it begins with an expression that
-- ends in a block and is more than it
abbrev pub goes_on : Expression → Bool
goes_on e = not (is_like e) && begins e

-- ---- an expression at its place, from its own pieces

-- an operand
abbrev pub placed : ℕ → Expression → List Piece → List Piece
placed place e ps = enclosed (too_weak place e) ps

-- what is tested
abbrev pub tested : ℕ → Expression → List Piece → List Piece
tested place e ps = enclosed (unfit place e) ps

-- a statement, the tail of a block, or the body of an arm
abbrev pub stated : Expression → List Piece → List Piece
stated e ps = enclosed (goes_on e) ps
