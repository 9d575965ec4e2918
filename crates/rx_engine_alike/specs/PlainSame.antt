-- Numbers of kinds and operators: two are the same where their numbers are.
use Rattle.std.specs.Prelude.{ℕ}
use Rattle.rx_core.specs.declared.types.Kind.{Kind}
use Rattle.rx_core.specs.declared.types.Kind.TheVariants as kind
use Rattle.rx_tree.specs.declared.tree.BinaryOp.{BinaryOp}
use Rattle.rx_tree.specs.declared.tree.BinaryOp.TheVariants as operator

abbrev pub kind_number : Kind → ℕ
kind_number kind.U8 = 0
kind_number kind.U32 = 1
kind_number kind.U64 = 2
kind_number kind.I32 = 3
kind_number kind.I64 = 4

abbrev pub operator_number : BinaryOp → ℕ
operator_number operator.Or = 0
operator_number operator.And = 1
operator_number operator.Eq = 2
operator_number operator.Ne = 3
operator_number operator.Lt = 4
operator_number operator.Le = 5
operator_number operator.Gt = 6
operator_number operator.Ge = 7
operator_number operator.Add = 8
operator_number operator.Sub = 9
operator_number operator.Mul = 10
operator_number operator.Div = 11
operator_number operator.Rem = 12
