-- What operands are made into, and the traps (Rust Reference, "Operator expressions", "Overflow", "Literal expressions",
-- "Tuple expressions", "Struct expressions"), and how a value is printed.
use Rattle.std.specs.Prelude.{ℕ, zero, suc, ℤ, pos, negsuc, neg_ℤ, ◌+ℤ◌, ◌-ℤ◌, ◌*ℤ◌, int_div, int_rem, int_lt, int_le, Bool, true, false, not, ◌&&◌, nat_eq, List, [], ◌∷◌, ◌++◌, length, Option, Some, None, if◌then◌else◌, codes}
use Rattle.std.specs.Fmt.{signed_decimal}
use Rattle.rx_core.specs.declared.types.Kind.{Kind}
use Rattle.rx_tree.specs.declared.tree.BinaryOp.{BinaryOp}
use Rattle.rx_typed.specs.Tree.{Constant, whole_number, Making, constant, negation, inversion, operation, lazy, tuple, struct, variant_of}
use Rattle.rx_typed.specs.Tree as tree
use Rattle.rx_meaning.specs.declared.outcome.Trap.{Trap}
use Rattle.rx_meaning.specs.Values.{Value, Values, number, truth, whole, tagged, lacking, unset, no_value, value_and}

-- ---- integer types

abbrev pub least : Kind → ℤ
least Kind.U8 = pos 0
least Kind.U32 = pos 0
least Kind.U64 = pos 0
least Kind.I32 = negsuc 2147483647
least Kind.I64 = negsuc 9223372036854775807

abbrev pub greatest : Kind → ℤ
greatest Kind.U8 = pos 255
greatest Kind.U32 = pos 4294967295
greatest Kind.U64 = pos 18446744073709551615
greatest Kind.I32 = pos 2147483647
greatest Kind.I64 = pos 9223372036854775807

abbrev pub is_in : Kind → ℤ → Bool
is_in k z = int_le (least k) z && int_le z (greatest k)

-- ---- operators

pub data Computed : Type 0 where
  gives : Value → Computed
  traps : Trap → Computed
  -- operands of other types
  senseless : Computed

abbrev pub fitting : Kind → ℤ → Computed
fitting k z = if is_in k z then gives (number k z) else traps Trap.Overflow

-- this number, where the quotient, towards zero, is in range
abbrev pub divided : Kind → ℤ → ℤ → ℤ → Computed
divided k x (pos zero) z = traps Trap.DivideByZero
divided k x y z = if is_in k (int_div x y) then gives (number k z) else traps Trap.Overflow

abbrev pub same_number : ℤ → ℤ → Bool
same_number x y = int_le x y && int_le y x

abbrev pub same_truth : Bool → Bool → Bool
same_truth true b = b
same_truth false b = not b

abbrev pub compute : BinaryOp → Kind → ℤ → ℤ → Computed
compute BinaryOp.Add k x y = fitting k (x +ℤ y)
compute BinaryOp.Sub k x y = fitting k (x -ℤ y)
compute BinaryOp.Mul k x y = fitting k (x *ℤ y)
compute BinaryOp.Div k x y = divided k x y (int_div x y)
compute BinaryOp.Rem k x y = divided k x y (int_rem x y)
compute BinaryOp.Eq k x y = gives (truth (same_number x y))
compute BinaryOp.Ne k x y = gives (truth (not (same_number x y)))
compute BinaryOp.Lt k x y = gives (truth (int_lt x y))
compute BinaryOp.Le k x y = gives (truth (int_le x y))
compute BinaryOp.Gt k x y = gives (truth (int_lt y x))
compute BinaryOp.Ge k x y = gives (truth (int_le y x))
compute _ k x y = senseless

abbrev pub operate : BinaryOp → Value → Value → Computed
operate o (number k x) (number j y) = compute o k x y
operate BinaryOp.Eq (truth a) (truth b) = gives (truth (same_truth a b))
operate BinaryOp.Ne (truth a) (truth b) = gives (truth (not (same_truth a b)))
operate _ _ _ = senseless

-- ---- what is made

abbrev pub value_of : Constant → Value
value_of (whole_number k z) = number k z
value_of (tree.truth b) = truth b

-- the value of the operand that was written for a field
abbrev pub for_field : List ℕ → List Value → ℕ → Value
for_field (j ∷ js) (v ∷ vs) i = if nat_eq i j then v else for_field js vs i
for_field _ _ i = lacking unset

-- so many fields in order, from a number on
abbrev pub arranged : ℕ → ℕ → List ℕ → List Value → Values
arranged zero i js vs = no_value
arranged (suc n) i js vs = value_and (for_field js vs i) (arranged n (suc i) js vs)

abbrev pub fields : List ℕ → List Value → Values
fields js vs = arranged (length vs) 0 js vs

-- of operands in the order of the text, with the fields that they are for
abbrev pub make : Making → List ℕ → List Value → Computed
make (constant c) js [] = gives (value_of c)
make negation js (number k z ∷ []) = fitting k (neg_ℤ z)
make inversion js (truth b ∷ []) = gives (truth (not b))
make (operation o) js (v ∷ w ∷ []) = operate o v w
make lazy js (v ∷ []) = gives v
make tuple js vs = gives (whole (fields js vs))
make (struct i) js vs = gives (whole (fields js vs))
make (variant_of i v) js vs = gives (tagged v (fields js vs))
make _ _ _ = senseless

-- ---- printing

-- the bytes, with a line feed
abbrev pub shown : Value → Option (List ℕ)
shown (number k z) = Some (signed_decimal z ++ 10 ∷ [])
shown (truth true) = Some (codes "true\n")
shown (truth false) = Some (codes "false\n")
shown _ = None
