-- Kinds and operators are the same where their numbers are; integers are by sign and magnitude.
use Rattle.std.proofs.Common.{◌≡◌, ℕ, zero, suc, nat_eq, ◌+◌, ◌-◌, ◌<◌, ◌≤◌, Bool, true, false, ◌&&◌, ◌||◌, List, [], ◌∷◌, length, map, refl, ap, ◌∙◌, arith}
use Rattle.std.proofs.Math.Dec.{eqb-suc-suc, eqb-zero-suc, eqb-suc-zero}
use Rattle.rx_core.specs.declared.types.Kind.{Kind}
use Rattle.rx_core.specs.declared.types.Kind.TheVariants as kind
use Rattle.rx_tree.specs.declared.tree.BinaryOp.{BinaryOp}
use Rattle.rx_tree.specs.declared.tree.BinaryOp.TheVariants as operator
use Rattle.rx_typed.specs.Elaborated.{with_sign}
use Rattle.rx_typed.specs.declared.tree.Operand.{Operand}
use Rattle.rx_typed.specs.Tree.{fields_of}
use Rattle.rx_typed.specs.PlainTree.{plain-Operand, operands_of}
use Rattle.rx_engine_alike.specs.Same.{same_bool, same_integer, same_kind, same_operator, has, has_all}
use Rattle.rx_engine_alike.specs.PlainSame.{kind_number, operator_number}

pub same_kinds : (k l : Kind) → nat_eq (kind_number k) (kind_number l) ≡ same_kind k l
same_kinds kind.U8 kind.U8 = refl
same_kinds kind.U32 kind.U32 = refl
same_kinds kind.U64 kind.U64 = refl
same_kinds kind.I32 kind.I32 = refl
same_kinds kind.I64 kind.I64 = refl
same_kinds _ _ = refl

pub same_operators : (o p : BinaryOp) → nat_eq (operator_number o) (operator_number p) ≡ same_operator o p
same_operators operator.Or operator.Or = refl
same_operators operator.And operator.And = refl
same_operators operator.Eq operator.Eq = refl
same_operators operator.Ne operator.Ne = refl
same_operators operator.Lt operator.Lt = refl
same_operators operator.Le operator.Le = refl
same_operators operator.Gt operator.Gt = refl
same_operators operator.Ge operator.Ge = refl
same_operators operator.Add operator.Add = refl
same_operators operator.Sub operator.Sub = refl
same_operators operator.Mul operator.Mul = refl
same_operators operator.Div operator.Div = refl
same_operators operator.Rem operator.Rem = refl
same_operators _ _ = refl

false_and : (b : Bool) → b && false ≡ false
false_and true = refl
false_and false = refl

true_and : (b : Bool) → b && true ≡ b
true_and true = refl
true_and false = refl

and_self : (b : Bool) → b && b ≡ b
and_self true = refl
and_self false = refl

-- zero has no sign
pub same_integers : (g h : Bool) (v w : ℕ) → nat_eq v w && (same_bool g h || nat_eq v 0) ≡ same_integer (with_sign g v) (with_sign h w)
same_integers true true zero zero = refl
same_integers true true zero (suc w) = true_and (nat_eq 0 (suc w)) ∙ eqb-zero-suc w
same_integers true true (suc v) zero = true_and (nat_eq (suc v) 0) ∙ eqb-suc-zero v
same_integers true true (suc v) (suc w) = true_and (nat_eq (suc v) (suc w)) ∙ eqb-suc-suc v w
same_integers true false zero zero = refl
same_integers true false zero (suc w) = true_and (nat_eq 0 (suc w))
same_integers true false (suc v) zero = ap (λ b. b && b) (eqb-suc-zero v)
same_integers true false (suc v) (suc w) = ap (λ b. nat_eq (suc v) (suc w) && b) (eqb-suc-zero v) ∙ false_and (nat_eq (suc v) (suc w))
same_integers false true zero zero = refl
same_integers false true zero (suc w) = true_and (nat_eq 0 (suc w)) ∙ eqb-zero-suc w
same_integers false true (suc v) zero = and_self (nat_eq (suc v) 0)
same_integers false true (suc v) (suc w) = ap (λ b. nat_eq (suc v) (suc w) && b) (eqb-suc-zero v) ∙ false_and (nat_eq (suc v) (suc w))
same_integers false false zero w = true_and (nat_eq 0 w)
same_integers false false (suc v) w = true_and (nat_eq (suc v) w)

-- one more field of those for which an operand is sought
pub has_all_next : (js : List ℕ) (n i : ℕ) → i < n → has_all js (n - i) i ≡ has js i && has_all js (n - (i + 1)) (i + 1)
has_all_next js n i less =
    let left : n - i ≡ suc (n - (i + 1)) = omega arith in
    let next : suc i ≡ i + 1 = omega arith in
    ap (λ k. has_all js k i) left ∙ ap (λ k. has js i && has_all js (n - (i + 1)) k) next

pub has_all_end : (js : List ℕ) (n i : ℕ) → n ≤ i → has_all js (n - i) i ≡ true
has_all_end js n i past = let none : n - i ≡ 0 = omega arith in ap (λ k. has_all js k i) none

pub fields_length : (es : List Operand) → length (fields_of (operands_of (map plain-Operand es))) ≡ length es
fields_length [] = refl
fields_length (e ∷ es) = ap suc (fields_length es)

pub ruleset same_rules = (same_kinds, same_operators, same_integers)
