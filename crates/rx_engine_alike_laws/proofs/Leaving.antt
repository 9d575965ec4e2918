-- What the tests of jumps and of what is returned say.
use Rattle.std.proofs.Common.{◌≡◌, ℕ, zero, nat_eq, Bool, true, false, List, [], ◌∷◌, Option, Some, None, if◌then◌else◌, ap, subst}
use Rattle.rx_typed.specs.Tree as tree
use Rattle.rx_typed.specs.Tree.{Mark, Making, Exp, Operands, Pattern, Scrutinee, Body, by_value}
use Rattle.rx_engine_simulation.specs.Jumps.{Jumping, loop_of}
use Rattle.rx_engine_alike.specs.Giving.{is_unit}
use Rattle.rx_engine_alike.specs.Leaving.{only_operand, part_of_made, part_of_variant, bound_by, bound_then, bound_in, bound_in_block, is_apart, stays_in, is_number}
use Rattle.rx_engine_alike_laws.proofs.Promised.{Promised, kept, nothing, Says, says, silent, map_so, where_so, so, and_so, equal_so, unequal_so, none_so}

-- ---- the only part of a variant

data OnlyOperand : Exp → Operands → Type 0 where
  only : {e : Exp} → OnlyOperand e (tree.operand_and 0 e tree.no_operand)

only_so : (es : Operands) → Promised (λ e. OnlyOperand e es) (only_operand es)
only_so (tree.operand_and zero e tree.no_operand) = kept only
only_so _ = nothing

pub data PartOf (v : ℕ) : Exp → Exp → Type 0 where
  part_is : {w : Mark} {i : ℕ} {e : Exp} → PartOf v e (tree.build w (tree.variant_of i v) (tree.operand_and 0 e tree.no_operand))

part_of_only : {v : ℕ} {w : Mark} {i : ℕ} {e : Exp} {es : Operands} → OnlyOperand e es → PartOf v e (tree.build w (tree.variant_of i v) es)
part_of_only only = part_is

part_made_so : (v : ℕ) (m : Mark) (w : Making) (es : Operands) → Promised (λ e. PartOf v e (tree.build m w es)) (part_of_made v w es)
part_made_so v m (tree.variant_of i u) es = where_so (equal_so v u) (λ k. map_so (λ e o. subst (λ u. PartOf v e (tree.build m (tree.variant_of i u) es)) k (part_of_only o)) (only_so es))
part_made_so v m _ es = nothing

pub part_so : (v : ℕ) (e : Exp) → Promised (λ x. PartOf v x e) (part_of_variant v e)
part_so v (tree.build m w es) = part_made_so v m w es
part_so v _ = nothing

-- ---- a value that is bound in front

data BindsOne : ℕ → Pattern → Type 0 where
  binds_one : {k o : ℕ} {mutable : Bool} → BindsOne o (tree.bind k o (by_value mutable))

binds_so : (q : Pattern) → Promised (λ o. BindsOne o q) (bound_by q)
binds_so (tree.bind k o (by_value mutable)) = kept binds_one
binds_so _ = nothing

pub data BoundFirst : ℕ × Exp × Exp → Exp → Type 0 where
  bound_first : {mb : Mark} {n k o : ℕ} {mutable : Bool} {x g : Exp} → BoundFirst (o, x, g) (tree.block mb (tree.lets n (tree.bind k o (by_value mutable)) (tree.of_value x) (tree.ends g)))

binds_then : {o n : ℕ} {mb : Mark} {q : Pattern} {x g : Exp} → BindsOne o q → BoundFirst (o, x, g) (tree.block mb (tree.lets n q (tree.of_value x) (tree.ends g)))
binds_then binds_one = bound_first

then_so : {n : ℕ} {mb : Mark} {q : Pattern} {o : Option ℕ} (c : Scrutinee) (b : Body) → Promised (λ o. BindsOne o q) o
    → Promised (λ r. BoundFirst r (tree.block mb (tree.lets n q c b))) (bound_then o c b)
then_so (tree.of_value x) (tree.ends g) (kept i) = kept (binds_then i)
then_so (tree.of_value x) (tree.runs e b) (kept i) = nothing
then_so (tree.of_value x) (tree.declares n xs b) (kept i) = nothing
then_so (tree.of_value x) (tree.lets n q c b) (kept i) = nothing
then_so (tree.at_place m p) b (kept i) = nothing
then_so c b nothing = nothing

in_body_so : (mb : Mark) (b : Body) → Promised (λ r. BoundFirst r (tree.block mb b)) (bound_in b)
in_body_so mb (tree.lets n q c b) = then_so c b (binds_so q)
in_body_so mb _ = nothing

pub bound_so : (e : Exp) → Promised (λ r. BoundFirst r e) (bound_in_block e)
bound_so (tree.block m b) = in_body_so m b
bound_so _ = nothing

-- ---- the unit

pub data UnitOrNot : Exp → Bool → Type 0 where
  the_unit : {m : Mark} → UnitOrNot (tree.unit m) true
  not_the_unit : {e : Exp} → UnitOrNot e false

pub unit_or_not : (e : Exp) → UnitOrNot e (is_unit e)
unit_or_not (tree.unit m) = the_unit
unit_or_not _ = not_the_unit

-- ---- jumps that stay

none_some : {A : Type 0} {a : A} → None ≡ Some a → ⊥
none_some e = cc

some_same : {A : Type 0} {a b : A} → Some a ≡ Some b → a ≡ b
some_same e = cc

pub apart_so : (bs : List (ℕ × ℕ)) (k : ℕ) → Says ((n : ℕ) → loop_of bs n ≡ Some k → ⊥) (is_apart bs k)
apart_so [] k = says (λ n s. none_some s)
apart_so (b ∷ bs) k = and_so (unequal_so b.1 k) (apart_so bs k) (λ u f n s. by u (λ q. f n q) (nat_eq n b.0) s)
  where
    by : (b.1 ≡ k → ⊥) → {o : Option ℕ} → (o ≡ Some k → ⊥) → (t : Bool) → (if t then Some b.1 else o) ≡ Some k → ⊥
    by u f true q = u (some_same q)
    by u f false q = f q

pub stays_so : (J : Jumping) (l : ℕ) → Says ((J.leaving l true ≡ None) × (J.leaving l false ≡ None)) (stays_in J l)
stays_so J l = and_so (none_so (J.leaving l true)) (none_so (J.leaving l false)) (λ a b. (a, b))

pub number_is : (o : Option ℕ) (j : ℕ) → Says (o ≡ Some j) (is_number o j)
number_is None j = silent
number_is (Some i) j = so (λ e. ap Some e) (equal_so i j)
