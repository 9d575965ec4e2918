-- Integers stay in the ranges of their kinds: operators trap where they would leave them.
use Rattle.std.specs.Prelude.{ℤ, pos, negsuc, neg_ℤ, ◌+ℤ◌, ◌-ℤ◌, ◌*ℤ◌, int_div, int_rem, int_le}
use Rattle.std.proofs.Common.{◌≡◌, ℕ, zero, suc, ◌≤◌, ◌%◌, Bool, true, false, ◌&&◌, nat_eq, List, [], ◌∷◌, ◌++◌, length, Some, None, refl, sym, subst, arith, if◌then◌else◌, true≢false}
use Rattle.std.proofs.lemmas.Int.{ints}
use Rattle.std.proofs.Math.Nat.{mod-le}
use Rattle.rx_core.specs.declared.types.Kind.{Kind}
use Rattle.rx_core.specs.declared.types.Step.{Step}
use Rattle.rx_tree.specs.declared.tree.BinaryOp.{BinaryOp}
use Rattle.rx_typed.specs.Tree.{Constant, whole_number, Making, constant, negation, inversion, operation, lazy, tuple, struct, variant_of}
use Rattle.rx_typed.specs.Tree as tree
use Rattle.rx_meaning.specs.declared.outcome.Trap.{Trap}
use Rattle.rx_meaning.specs.Values.{Value, Values, number, truth, whole, tagged, pointer, lacking, no_value, value_and, and_then, field, with_field, part, with_part, get, put, element, with_element}
use Rattle.rx_meaning.specs.Operators as operators
use Rattle.rx_meaning.specs.Operators.{Computed, least, is_in, fitting, divided, compute, operate, value_of, for_field, arranged, fields, make}
use Rattle.rx_cover.specs.Values.{InKind}
use Rattle.rx_meaning_typed.proofs.Parts.{some_is, split}
use Rattle.rx_meaning_covered.specs.Ranged.{IsRanged, AreRanged, AllRanged, ConstantRanged}

-- ---- ranges

both : (a b : Bool) → (a && b) ≡ true → (a ≡ true) × (b ≡ true)
both true true e = (refl, refl)
both true false e = absurd (true≢false (sym e))
both false b e = absurd (true≢false (sym e))

both_in : (k : Kind) (z : ℤ) → is_in k z ≡ true → (int_le (least k) z ≡ true) × (int_le z (operators.greatest k) ≡ true)
both_in k z e = both (int_le (least k) z) (int_le z (operators.greatest k)) e

pub kind_of : (k : Kind) (z : ℤ) → is_in k z ≡ true → InKind k z
kind_of Kind.U8 (pos n) e = let h = both_in Kind.U8 (pos n) e in omega (arith, ints, h.0, h.1)
kind_of Kind.U8 (negsuc n) e = let h = both_in Kind.U8 (negsuc n) e in omega (arith, ints, h.0, h.1)
kind_of Kind.U32 (pos n) e = let h = both_in Kind.U32 (pos n) e in omega (arith, ints, h.0, h.1)
kind_of Kind.U32 (negsuc n) e = let h = both_in Kind.U32 (negsuc n) e in omega (arith, ints, h.0, h.1)
kind_of Kind.U64 (pos n) e = let h = both_in Kind.U64 (pos n) e in omega (arith, ints, h.0, h.1)
kind_of Kind.U64 (negsuc n) e = let h = both_in Kind.U64 (negsuc n) e in omega (arith, ints, h.0, h.1)
kind_of Kind.I32 (pos n) e = let h = both_in Kind.I32 (pos n) e in omega (arith, ints, h.0, h.1)
kind_of Kind.I32 (negsuc n) e = let h = both_in Kind.I32 (negsuc n) e in omega (arith, ints, h.0, h.1)
kind_of Kind.I64 (pos n) e = let h = both_in Kind.I64 (pos n) e in omega (arith, ints, h.0, h.1)
kind_of Kind.I64 (negsuc n) e = let h = both_in Kind.I64 (negsuc n) e in omega (arith, ints, h.0, h.1)

-- ---- what operators give

abbrev pub ComputesRanged : Computed → Type 0
ComputesRanged (operators.gives v) = IsRanged v
ComputesRanged _ = Unit {0}

if_ranged : (b : Bool) (k : Kind) (z : ℤ) (t : Trap) → (b ≡ true → is_in k z ≡ true) → ComputesRanged (if b then operators.gives (number k z) else operators.traps t)
if_ranged true k z t h = h refl
if_ranged false k z t h = tt

fitting_ranged : (k : Kind) (z : ℤ) → ComputesRanged (fitting k z)
fitting_ranged k z = if_ranged (is_in k z) k z Trap.Overflow (λ e. e)

divided_ranged : (k : Kind) (x y z : ℤ) → (is_in k (int_div x y) ≡ true → is_in k z ≡ true) → ComputesRanged (divided k x y z)
divided_ranged k x (pos zero) z h = tt
divided_ranged k x (pos (suc n)) z h = if_ranged (is_in k (int_div x (pos (suc n)))) k z Trap.Overflow h
divided_ranged k x (negsuc n) z h = if_ranged (is_in k (int_div x (negsuc n))) k z Trap.Overflow h

-- ---- remainders

at_most : (a b : ℤ) → (int_le a b ≡ false → ⊥) → int_le a b ≡ true
at_most a b h = by (int_le a b) refl
  where
    by : (t : Bool) → int_le a b ≡ t → int_le a b ≡ true
    by true e = e
    by false e = absurd (h e)

pub int_self : (z : ℤ) → int_le z z ≡ true
int_self z = at_most z z (λ q. omega (arith, ints, q))

and_true : (a b : Bool) → a ≡ true → b ≡ true → (a && b) ≡ true
and_true true b e g = g
and_true false b e g = absurd (true≢false (sym e))

between : (k : Kind) (z x : ℤ) → is_in k x ≡ true → (int_le (least k) z ≡ false → ⊥) → (int_le z (operators.greatest k) ≡ false → ⊥) → is_in k z ≡ true
between k z x e l g = and_true (int_le (least k) z) (int_le z (operators.greatest k)) (at_most (least k) z l) (at_most z (operators.greatest k) g)

less_in : (k : Kind) (a r : ℕ) → r ≤ a → is_in k (pos a) ≡ true → is_in k (pos r) ≡ true
less_in Kind.U8 a r h e = let g = both_in Kind.U8 (pos a) e in between Kind.U8 (pos r) (pos a) e (λ q. omega (arith, ints, q)) (λ q. omega (arith, ints, q, h, g.1))
less_in Kind.U32 a r h e = let g = both_in Kind.U32 (pos a) e in between Kind.U32 (pos r) (pos a) e (λ q. omega (arith, ints, q)) (λ q. omega (arith, ints, q, h, g.1))
less_in Kind.U64 a r h e = let g = both_in Kind.U64 (pos a) e in between Kind.U64 (pos r) (pos a) e (λ q. omega (arith, ints, q)) (λ q. omega (arith, ints, q, h, g.1))
less_in Kind.I32 a r h e = let g = both_in Kind.I32 (pos a) e in between Kind.I32 (pos r) (pos a) e (λ q. omega (arith, ints, q)) (λ q. omega (arith, ints, q, h, g.1))
less_in Kind.I64 a r h e = let g = both_in Kind.I64 (pos a) e in between Kind.I64 (pos r) (pos a) e (λ q. omega (arith, ints, q)) (λ q. omega (arith, ints, q, h, g.1))

zero_in : (k : Kind) → is_in k (pos 0) ≡ true
zero_in Kind.U8 = refl
zero_in Kind.U32 = refl
zero_in Kind.U64 = refl
zero_in Kind.I32 = refl
zero_in Kind.I64 = refl

more_in : (k : Kind) (a r : ℕ) → r ≤ suc a → is_in k (negsuc a) ≡ true → is_in k (neg_ℤ (pos r)) ≡ true
more_in k a zero h e = zero_in k
more_in Kind.U8 a (suc r) h e = let g = both_in Kind.U8 (negsuc a) e in absurd (omega (arith, ints, g.0))
more_in Kind.U32 a (suc r) h e = let g = both_in Kind.U32 (negsuc a) e in absurd (omega (arith, ints, g.0))
more_in Kind.U64 a (suc r) h e = let g = both_in Kind.U64 (negsuc a) e in absurd (omega (arith, ints, g.0))
more_in Kind.I32 a (suc r) h e = let g = both_in Kind.I32 (negsuc a) e in between Kind.I32 (negsuc r) (negsuc a) e (λ q. omega (arith, ints, q, h, g.0)) (λ q. omega (arith, ints, q))
more_in Kind.I64 a (suc r) h e = let g = both_in Kind.I64 (negsuc a) e in between Kind.I64 (negsuc r) (negsuc a) e (λ q. omega (arith, ints, q, h, g.0)) (λ q. omega (arith, ints, q))

rem_in : (k : Kind) (x y : ℤ) → is_in k x ≡ true → is_in k (int_rem x y) ≡ true
rem_in k (pos a) (pos b) e = less_in k a (a % b) (mod-le a b) e
rem_in k (pos a) (negsuc b) e = less_in k a (a % suc b) (mod-le a (suc b)) e
rem_in k (negsuc a) (pos b) e = more_in k a (suc a % b) (mod-le (suc a) b) e
rem_in k (negsuc a) (negsuc b) e = more_in k a (suc a % suc b) (mod-le (suc a) (suc b)) e

compute_ranged : (o : BinaryOp) (k : Kind) (x y : ℤ) → is_in k x ≡ true → ComputesRanged (compute o k x y)
compute_ranged BinaryOp.Add k x y h = fitting_ranged k (x +ℤ y)
compute_ranged BinaryOp.Sub k x y h = fitting_ranged k (x -ℤ y)
compute_ranged BinaryOp.Mul k x y h = fitting_ranged k (x *ℤ y)
compute_ranged BinaryOp.Div k x y h = divided_ranged k x y (int_div x y) (λ e. e)
compute_ranged BinaryOp.Rem k x y h = divided_ranged k x y (int_rem x y) (λ e. rem_in k x y h)
compute_ranged BinaryOp.Eq k x y h = tt
compute_ranged BinaryOp.Ne k x y h = tt
compute_ranged BinaryOp.Lt k x y h = tt
compute_ranged BinaryOp.Le k x y h = tt
compute_ranged BinaryOp.Gt k x y h = tt
compute_ranged BinaryOp.Ge k x y h = tt
compute_ranged BinaryOp.And k x y h = tt
compute_ranged BinaryOp.Or k x y h = tt

truth_ranged : (o : BinaryOp) (a : Bool) (w : Value) → ComputesRanged (operate o (truth a) w)
truth_ranged BinaryOp.Or a w = tt
truth_ranged BinaryOp.And a w = tt
truth_ranged BinaryOp.Lt a w = tt
truth_ranged BinaryOp.Le a w = tt
truth_ranged BinaryOp.Gt a w = tt
truth_ranged BinaryOp.Ge a w = tt
truth_ranged BinaryOp.Add a w = tt
truth_ranged BinaryOp.Sub a w = tt
truth_ranged BinaryOp.Mul a w = tt
truth_ranged BinaryOp.Div a w = tt
truth_ranged BinaryOp.Rem a w = tt
truth_ranged BinaryOp.Eq a (number j y) = tt
truth_ranged BinaryOp.Eq a (truth b) = tt
truth_ranged BinaryOp.Eq a (whole ws) = tt
truth_ranged BinaryOp.Eq a (tagged j ws) = tt
truth_ranged BinaryOp.Eq a (pointer j q n) = tt
truth_ranged BinaryOp.Eq a (lacking r) = tt
truth_ranged BinaryOp.Ne a (number j y) = tt
truth_ranged BinaryOp.Ne a (truth b) = tt
truth_ranged BinaryOp.Ne a (whole ws) = tt
truth_ranged BinaryOp.Ne a (tagged j ws) = tt
truth_ranged BinaryOp.Ne a (pointer j q n) = tt
truth_ranged BinaryOp.Ne a (lacking r) = tt

operate_ranged : (o : BinaryOp) (v w : Value) → IsRanged v → ComputesRanged (operate o v w)
operate_ranged o (number k x) (number j y) h = compute_ranged o k x y h
operate_ranged o (number k x) (truth b) h = tt
operate_ranged o (number k x) (whole ws) h = tt
operate_ranged o (number k x) (tagged j ws) h = tt
operate_ranged o (number k x) (pointer j q n) h = tt
operate_ranged o (number k x) (lacking r) h = tt
operate_ranged o (truth a) w h = truth_ranged o a w
operate_ranged o (whole vs) w h = tt
operate_ranged o (tagged i vs) w h = tt
operate_ranged o (pointer i p m) w h = tt
operate_ranged o (lacking l) w h = tt

-- ---- what is made

constant_ranged : (c : Constant) → ConstantRanged c → IsRanged (value_of c)
constant_ranged (whole_number k z) h = h
constant_ranged (tree.truth b) h = tt

for_ranged : (js : List ℕ) (vs : List Value) → AllRanged vs → (i : ℕ) → IsRanged (for_field js vs i)
for_ranged [] vs h i = tt
for_ranged (j ∷ js) [] h i = tt
for_ranged (j ∷ js) (v ∷ vs) h i = by (nat_eq i j) (for_ranged js vs h.1 i)
  where
    by : (b : Bool) → IsRanged (for_field js vs i) → IsRanged (if b then v else for_field js vs i)
    by true g = h.0
    by false g = g

arranged_ranged : (n i : ℕ) (js : List ℕ) (vs : List Value) → AllRanged vs → AreRanged (arranged n i js vs)
arranged_ranged zero i js vs h = tt
arranged_ranged (suc n) i js vs h = (for_ranged js vs h i, arranged_ranged n (suc i) js vs h)

-- also of an operand that is not in its range
pub negation_ranged : (js : List ℕ) (vs : List Value) → ComputesRanged (make negation js vs)
negation_ranged js [] = tt
negation_ranged js (number n z ∷ []) = fitting_ranged n (neg_ℤ z)
negation_ranged js (number n z ∷ w ∷ vs) = tt
negation_ranged js (truth b ∷ vs) = tt
negation_ranged js (whole ws ∷ vs) = tt
negation_ranged js (tagged i ws ∷ vs) = tt
negation_ranged js (pointer i p m ∷ vs) = tt
negation_ranged js (lacking l ∷ vs) = tt

pub make_ranged : (w : Making) (js : List ℕ) (vs : List Value) → ((c : Constant) → w ≡ constant c → ConstantRanged c) → AllRanged vs → ComputesRanged (make w js vs)
make_ranged (constant c) js [] k h = constant_ranged c (k c refl)
make_ranged (constant c) js (v ∷ vs) k h = tt
make_ranged negation js vs k h = negation_ranged js vs
make_ranged inversion js [] k h = tt
make_ranged inversion js (truth b ∷ []) k h = tt
make_ranged inversion js (truth b ∷ w ∷ vs) k h = tt
make_ranged inversion js (number n z ∷ vs) k h = tt
make_ranged inversion js (whole ws ∷ vs) k h = tt
make_ranged inversion js (tagged i ws ∷ vs) k h = tt
make_ranged inversion js (pointer i p m ∷ vs) k h = tt
make_ranged inversion js (lacking l ∷ vs) k h = tt
make_ranged (operation o) js [] k h = tt
make_ranged (operation o) js (v ∷ []) k h = tt
make_ranged (operation o) js (v ∷ w ∷ []) k h = operate_ranged o v w h.0
make_ranged (operation o) js (v ∷ w ∷ u ∷ vs) k h = tt
make_ranged lazy js [] k h = tt
make_ranged lazy js (v ∷ []) k h = h.0
make_ranged lazy js (v ∷ w ∷ vs) k h = tt
make_ranged tuple js vs k h = arranged_ranged (length vs) 0 js vs h
make_ranged (struct i) js vs k h = arranged_ranged (length vs) 0 js vs h
make_ranged (variant_of i v) js vs k h = arranged_ranged (length vs) 0 js vs h

-- ---- parts, and other values in them

fields_ranged : (vs : Values) → AreRanged vs → (i : ℕ) (u : Value) → field vs i ≡ Some u → IsRanged u
fields_ranged no_value h i u e = absurd (cc)
fields_ranged (value_and v vs) h zero u e = subst IsRanged (some_is e) h.0
fields_ranged (value_and v vs) h (suc i) u e = fields_ranged vs h.1 i u e

part_ranged : (v : Value) → IsRanged v → (s : Step) (u : Value) → part v s ≡ Some u → IsRanged u
part_ranged (whole vs) h (Step.Field i) u e = fields_ranged vs h i u e
part_ranged (tagged i vs) h (Step.Variant j) u e = by (nat_eq i j) e
  where
    by : (b : Bool) → (if b then Some (whole vs) else None) ≡ Some u → IsRanged u
    by true e = subst IsRanged (some_is e) h
    by false e = absurd (cc)
part_ranged (whole vs) h (Step.Variant j) u e = absurd (cc)
part_ranged (whole vs) h (Step.Deref m) u e = absurd (cc)
part_ranged (tagged i vs) h (Step.Field j) u e = absurd (cc)
part_ranged (tagged i vs) h (Step.Deref m) u e = absurd (cc)
part_ranged (number k z) h s u e = absurd (cc)
part_ranged (truth b) h s u e = absurd (cc)
part_ranged (pointer i p m) h s u e = absurd (cc)
part_ranged (lacking l) h s u e = absurd (cc)

pub get_ranged : (ss : List Step) (v u : Value) → IsRanged v → get ss v ≡ Some u → IsRanged u
get_ranged [] v u h e = subst IsRanged (some_is e) h
get_ranged (s ∷ ss) v u h e = let a = split (part v s) (λ z. get ss z) u e in get_ranged ss a.0 u (part_ranged v h s a.0 a.1) a.2

with_field_ranged : (vs : Values) (i : ℕ) (w : Value) → AreRanged vs → IsRanged w → AreRanged (with_field vs i w)
with_field_ranged no_value i w h k = tt
with_field_ranged (value_and v vs) zero w h k = (k, h.1)
with_field_ranged (value_and v vs) (suc i) w h k = (h.0, with_field_ranged vs i w h.1 k)

with_part_ranged : (v : Value) (s : Step) (w x : Value) → IsRanged v → IsRanged w → with_part v s w ≡ Some x → IsRanged x
with_part_ranged (whole vs) (Step.Field i) w x h k e = subst IsRanged (some_is e) (with_field_ranged vs i w h k)
with_part_ranged (tagged i vs) (Step.Variant j) (whole ws) x h k e = subst IsRanged (some_is e) k
with_part_ranged (tagged i vs) (Step.Variant j) (number n z) x h k e = absurd (cc)
with_part_ranged (tagged i vs) (Step.Variant j) (truth b) x h k e = absurd (cc)
with_part_ranged (tagged i vs) (Step.Variant j) (tagged n ws) x h k e = absurd (cc)
with_part_ranged (tagged i vs) (Step.Variant j) (pointer n p m) x h k e = absurd (cc)
with_part_ranged (tagged i vs) (Step.Variant j) (lacking l) x h k e = absurd (cc)
with_part_ranged (whole vs) (Step.Variant j) w x h k e = absurd (cc)
with_part_ranged (whole vs) (Step.Deref m) w x h k e = absurd (cc)
with_part_ranged (tagged i vs) (Step.Field j) w x h k e = absurd (cc)
with_part_ranged (tagged i vs) (Step.Deref m) w x h k e = absurd (cc)
with_part_ranged (number n z) s w x h k e = absurd (cc)
with_part_ranged (truth b) s w x h k e = absurd (cc)
with_part_ranged (pointer i p m) s w x h k e = absurd (cc)
with_part_ranged (lacking l) s w x h k e = absurd (cc)

pub put_ranged : (ss : List Step) (w v x : Value) → IsRanged w → IsRanged v → put ss w v ≡ Some x → IsRanged x
put_ranged [] w v x k h e = subst IsRanged (some_is e) k
put_ranged (s ∷ ss) w v x k h e =
    let a = split (part v s) (λ u. and_then (put ss w u) (λ y. with_part v s y)) x e in
    let b = split (put ss w a.0) (λ y. with_part v s y) x a.2 in
    with_part_ranged v s b.0 x h (put_ranged ss w a.0 b.0 k (part_ranged v h s a.0 a.1) b.1) b.2

-- ---- memory

pub element_ranged : (M : List Value) → AllRanged M → (i : ℕ) (v : Value) → element M i ≡ Some v → IsRanged v
element_ranged [] h i v e = absurd (cc)
element_ranged (w ∷ M) h zero v e = subst IsRanged (some_is e) h.0
element_ranged (w ∷ M) h (suc i) v e = element_ranged M h.1 i v e

pub with_ranged : (M : List Value) (i : ℕ) (x : Value) → AllRanged M → IsRanged x → AllRanged (with_element M i x)
with_ranged [] i x h k = tt
with_ranged (v ∷ M) zero x h k = (k, h.1)
with_ranged (v ∷ M) (suc i) x h k = (h.0, with_ranged M i x h.1 k)

pub more_ranged : (M : List Value) (x : Value) → AllRanged M → IsRanged x → AllRanged (M ++ x ∷ [])
more_ranged [] x h k = (k, tt)
more_ranged (v ∷ M) x h k = (h.0, more_ranged M x h.1 k)
