-- What the tests of being the same say.
use Rattle.std.proofs.Common.{◌≡◌, ℕ, zero, suc, Bool, true, false, ℤ, pos, negsuc, List, [], ◌∷◌, length, refl, ap, subst, inl, inr, eq-eqb}
use Rattle.rx_core.specs.declared.types.Kind.{Kind}
use Rattle.rx_core.specs.declared.types.Kind.TheVariants as kind
use Rattle.rx_tree.specs.declared.tree.BinaryOp.{BinaryOp}
use Rattle.rx_tree.specs.declared.tree.BinaryOp.TheVariants as operator
use Rattle.rx_typed.specs.Tree as tree
use Rattle.rx_typed.specs.Tree.{Constant, Making}
use Rattle.rx_engine_simulation.specs.Fits.{Has, HasAll, Complete, Fitting}
use Rattle.rx_engine_alike.specs.Same.{same_bool, same_integer, same_kind, same_constant, same_operator, has, has_all, like_making}
use Rattle.rx_engine_alike_laws.proofs.Promised.{Says, says, silent, so, and_so, or_says, equal_so}

pub same_bool_so : (a b : Bool) → Says (a ≡ b) (same_bool a b)
same_bool_so true true = says refl
same_bool_so false false = says refl
same_bool_so _ _ = silent

same_integer_so : (i j : ℤ) → Says (i ≡ j) (same_integer i j)
same_integer_so (pos i) (pos j) = so (λ e. ap pos e) (equal_so i j)
same_integer_so (negsuc i) (negsuc j) = so (λ e. ap negsuc e) (equal_so i j)
same_integer_so _ _ = silent

same_kind_so : (k l : Kind) → Says (k ≡ l) (same_kind k l)
same_kind_so kind.U8 kind.U8 = says refl
same_kind_so kind.U32 kind.U32 = says refl
same_kind_so kind.U64 kind.U64 = says refl
same_kind_so kind.I32 kind.I32 = says refl
same_kind_so kind.I64 kind.I64 = says refl
same_kind_so _ _ = silent

pub same_constant_so : (c d : Constant) → Says (c ≡ d) (same_constant c d)
same_constant_so (tree.whole_number k i) (tree.whole_number l j) = and_so (same_kind_so k l) (same_integer_so i j) (λ a b. cc)
same_constant_so (tree.truth b) (tree.truth c) = so (λ e. ap tree.truth e) (same_bool_so b c)
same_constant_so _ _ = silent

pub same_operator_so : (o p : BinaryOp) → Says (o ≡ p) (same_operator o p)
same_operator_so operator.Or operator.Or = says refl
same_operator_so operator.And operator.And = says refl
same_operator_so operator.Eq operator.Eq = says refl
same_operator_so operator.Ne operator.Ne = says refl
same_operator_so operator.Lt operator.Lt = says refl
same_operator_so operator.Le operator.Le = says refl
same_operator_so operator.Gt operator.Gt = says refl
same_operator_so operator.Ge operator.Ge = says refl
same_operator_so operator.Add operator.Add = says refl
same_operator_so operator.Sub operator.Sub = says refl
same_operator_so operator.Mul operator.Mul = says refl
same_operator_so operator.Div operator.Div = says refl
same_operator_so operator.Rem operator.Rem = says refl
same_operator_so _ _ = silent

has_so : (js : List ℕ) (i : ℕ) → Says (Has js i) (has js i)
has_so [] i = silent
has_so (j ∷ js) i = or_says (so (λ e. inl (eq-eqb i j e)) (equal_so i j)) (so inr (has_so js i))

has_all_so : (js : List ℕ) (n i : ℕ) → Says (HasAll js n i) (has_all js n i)
has_all_so js zero i = says tt
has_all_so js (suc n) i = and_so (has_so js i) (has_all_so js n (suc i)) (λ a b. (a, b))

-- made alike: the same, or of a struct or enum
pub data MadeAlike (js : List ℕ) : Making → Making → Type 0 where
  made_same : {w : Making} → Fitting w js → MadeAlike js w w
  made_structs : {i j : ℕ} → Complete js → MadeAlike js (tree.struct i) (tree.struct j)
  made_variants : {i j v : ℕ} → Complete js → MadeAlike js (tree.variant_of i v) (tree.variant_of j v)

pub like_making_so : (w w' : Making) (js : List ℕ) → Says (MadeAlike js w w') (like_making w w' js)
like_making_so (tree.constant c) (tree.constant d) js = so (λ e. subst (λ d. MadeAlike js (tree.constant c) (tree.constant d)) e (made_same tt)) (same_constant_so c d)
like_making_so tree.negation tree.negation js = says (made_same tt)
like_making_so tree.inversion tree.inversion js = says (made_same tt)
like_making_so (tree.operation o) (tree.operation p) js = so (λ e. subst (λ p. MadeAlike js (tree.operation o) (tree.operation p)) e (made_same tt)) (same_operator_so o p)
like_making_so tree.lazy tree.lazy js = says (made_same tt)
like_making_so tree.tuple tree.tuple js = so (λ c. made_same c) (has_all_so js (length js) 0)
like_making_so (tree.struct i) (tree.struct j) js = so (λ c. made_structs c) (has_all_so js (length js) 0)
like_making_so (tree.variant_of i v) (tree.variant_of j w) js = and_so (equal_so v w) (has_all_so js (length js) 0)
    (λ e c. subst (λ w. MadeAlike js (tree.variant_of i v) (tree.variant_of j w)) e (made_variants c))
like_making_so _ _ js = silent
