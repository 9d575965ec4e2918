-- Whether constants, operators and what operands are made into are the same (Rust Reference, "Literal expressions", "Operator
-- expressions"), and whether there are operands for each field ("Struct expressions", "Tuple expressions").
use Rattle.std.specs.Prelude.{ℕ, zero, suc, nat_eq, Bool, true, false, ◌&&◌, ◌||◌, ℤ, pos, negsuc, List, [], ◌∷◌, length}
use Rattle.rx_core.specs.declared.types.Kind.{Kind}
use Rattle.rx_core.specs.declared.types.Kind.TheVariants as kind
use Rattle.rx_tree.specs.declared.tree.BinaryOp.{BinaryOp}
use Rattle.rx_tree.specs.declared.tree.BinaryOp.TheVariants as operator
use Rattle.rx_typed.specs.Tree as tree
use Rattle.rx_typed.specs.Tree.{Constant, Making}

abbrev pub same_bool : Bool → Bool → Bool
same_bool true true = true
same_bool false false = true
same_bool _ _ = false

abbrev pub same_integer : ℤ → ℤ → Bool
same_integer (pos i) (pos j) = nat_eq i j
same_integer (negsuc i) (negsuc j) = nat_eq i j
same_integer _ _ = false

abbrev pub same_kind : Kind → Kind → Bool
same_kind kind.U8 kind.U8 = true
same_kind kind.U32 kind.U32 = true
same_kind kind.U64 kind.U64 = true
same_kind kind.I32 kind.I32 = true
same_kind kind.I64 kind.I64 = true
same_kind _ _ = false

abbrev pub same_constant : Constant → Constant → Bool
same_constant (tree.whole_number k i) (tree.whole_number l j) = same_kind k l && same_integer i j
same_constant (tree.truth b) (tree.truth c) = same_bool b c
same_constant _ _ = false

abbrev pub same_operator : BinaryOp → BinaryOp → Bool
same_operator operator.Or operator.Or = true
same_operator operator.And operator.And = true
same_operator operator.Eq operator.Eq = true
same_operator operator.Ne operator.Ne = true
same_operator operator.Lt operator.Lt = true
same_operator operator.Le operator.Le = true
same_operator operator.Gt operator.Gt = true
same_operator operator.Ge operator.Ge = true
same_operator operator.Add operator.Add = true
same_operator operator.Sub operator.Sub = true
same_operator operator.Mul operator.Mul = true
same_operator operator.Div operator.Div = true
same_operator operator.Rem operator.Rem = true
same_operator _ _ = false

abbrev pub has : List ℕ → ℕ → Bool
has [] i = false
has (j ∷ js) i = nat_eq i j || has js i

abbrev pub has_all : List ℕ → ℕ → ℕ → Bool
has_all js zero i = true
has_all js (suc n) i = has js i && has_all js n (suc i)

-- an operand for each field
abbrev pub is_complete : List ℕ → Bool
is_complete js = has_all js (length js) 0

-- made alike of operands for these fields: a value doesn't say which item its struct or enum is
abbrev pub like_making : Making → Making → List ℕ → Bool
like_making (tree.constant c) (tree.constant d) js = same_constant c d
like_making tree.negation tree.negation js = true
like_making tree.inversion tree.inversion js = true
like_making (tree.operation o) (tree.operation p) js = same_operator o p
like_making tree.lazy tree.lazy js = true
like_making tree.tuple tree.tuple js = is_complete js
like_making (tree.struct i) (tree.struct j) js = is_complete js
like_making (tree.variant_of i v) (tree.variant_of j w) js = nat_eq v w && is_complete js
like_making _ _ js = false
