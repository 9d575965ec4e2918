-- What is made of set values is set: a tuple, a struct and a variant, where each of their fields has an operand.
use Rattle.std.proofs.Common.{◌≡◌, ℕ, zero, suc, ◌+◌, ◌<◌, Bool, true, false, List, [], ◌∷◌, length, refl, sym, ap, ◌∙◌, subst, arith}
use Rattle.std.specs.Prelude.{ℤ, pos, negsuc, neg_ℤ, ◌+ℤ◌, ◌-ℤ◌, ◌*ℤ◌, int_div, int_rem, nat_eq, if◌then◌else◌}
use Rattle.std.proofs.lemmas.Bool.{eq-eqb, true≢false, and_from}
use Rattle.rx_core.specs.declared.types.Kind.{Kind}
use Rattle.rx_tree.specs.declared.tree.BinaryOp.{BinaryOp}
use Rattle.rx_meaning.specs.declared.outcome.Trap.{Trap}
use Rattle.rx_typed.specs.Tree.{Temporary, Making, Constant, whole_number, constant, negation, inversion, operation, lazy, tuple, struct, variant_of, Operands, no_operand, operand_and, fields_of, temporaries_of}
use Rattle.rx_typed.specs.Tree as tree
use Rattle.rx_meaning.specs.Values.{Value, number, truth, is_set, are_set}
use Rattle.rx_meaning.specs.Operators as operators
use Rattle.rx_meaning.specs.Operators.{Computed, is_in, fitting, divided, compute, operate, value_of, for_field, arranged, fields, make}
use Rattle.rx_meaning_keeping.specs.Pending.{Paired, no_pair, pair_and}
use Rattle.rx_meaning_keeping.specs.Ready.{AllHere}
use Rattle.rx_exits_plan.specs.Unmarked.{makes_mark}

-- a list has a number among those up to a length
pub data Has (i : ℕ) : List ℕ → Type 0 where
  here : {l : List ℕ} → Has i (i ∷ l)
  there : {j : ℕ} {l : List ℕ} → Has i l → Has i (j ∷ l)

-- each field up to the number of operands has one
abbrev pub Complete : List ℕ → Type 0
Complete js = (i : ℕ) → i < length js → Has i js

abbrev pub Makes : Making → List ℕ → List Temporary → Type 0
Makes m js ts = (vs : List Value) (v : Value) → Paired ts vs → AllHere vs → make m js vs ≡ operators.gives v → is_set v ≡ true

-- ---- fields

chosen : (b : Bool) (v w : Value) → is_set v ≡ true → (b ≡ false → is_set w ≡ true) → is_set (if b then v else w) ≡ true
chosen true v w h g = h
chosen false v w h g = g refl

set_for : (js : List ℕ) (vs : List Value) (i : ℕ) → Has i js → length js ≡ length vs → AllHere vs → is_set (for_field js vs i) ≡ true
set_for [] vs i h e s = elim h [ ]
set_for (j ∷ js) [] i h e s = absurd (omega (arith, e))
set_for (j ∷ js) (v ∷ vs) i here e s = chosen (nat_eq i i) v (for_field js vs i) s.0 (λ q. absurd (true≢false (sym (eq-eqb i i refl) ∙ q)))
set_for (j ∷ js) (v ∷ vs) i (there h) e s = chosen (nat_eq i j) v (for_field js vs i) s.0 (λ q. set_for js vs i h (omega (arith, e)) s.1)

set_arranged : (n i : ℕ) (js : List ℕ) (vs : List Value) → length js ≡ length vs → AllHere vs → ((k : ℕ) → k < i + n → Has k js) → are_set (arranged n i js vs) ≡ true
set_arranged zero i js vs e s h = refl
set_arranged (suc n) i js vs e s h =
    and_from (is_set (for_field js vs i)) (are_set (arranged n (suc i) js vs)) (set_for js vs i (h i (omega arith)) e s)
    (set_arranged n (suc i) js vs e s (λ k l. h k (omega (arith, l))))

pairs_count : {ts : List Temporary} {vs : List Value} → Paired ts vs → length ts ≡ length vs
pairs_count no_pair = refl
pairs_count (pair_and h) = ap suc (pairs_count h)

set_fields : (js : List ℕ) (ts : List Temporary) (vs : List Value) → Complete js → length js ≡ length ts → Paired ts vs → AllHere vs → are_set (fields js vs) ≡ true
set_fields js ts vs h e p s = let c = pairs_count p in set_arranged (length vs) 0 js vs (e ∙ c) s (λ k l. h k (omega (arith, l, e, c)))

-- ---- what is made

abbrev SetIfGiven : Computed → Type 0
SetIfGiven (operators.gives v) = is_set v ≡ true
SetIfGiven _ = Unit {0}

if_given : (b : Bool) (k : Kind) (z : ℤ) (t : Trap) → SetIfGiven (if b then operators.gives (number k z) else operators.traps t)
if_given true k z t = refl
if_given false k z t = tt

set_divided : (k : Kind) (x y z : ℤ) → SetIfGiven (divided k x y z)
set_divided k x (pos zero) z = tt
set_divided k x (pos (suc n)) z = if_given (is_in k (int_div x (pos (suc n)))) k z Trap.Overflow
set_divided k x (negsuc n) z = if_given (is_in k (int_div x (negsuc n))) k z Trap.Overflow

set_fitting : (k : Kind) (z : ℤ) → SetIfGiven (fitting k z)
set_fitting k z = if_given (is_in k z) k z Trap.Overflow

set_compute : (o : BinaryOp) (k : Kind) (x y : ℤ) → SetIfGiven (compute o k x y)
set_compute BinaryOp.Add k x y = set_fitting k (x +ℤ y)
set_compute BinaryOp.Sub k x y = set_fitting k (x -ℤ y)
set_compute BinaryOp.Mul k x y = set_fitting k (x *ℤ y)
set_compute BinaryOp.Div k x y = set_divided k x y (int_div x y)
set_compute BinaryOp.Rem k x y = set_divided k x y (int_rem x y)
set_compute BinaryOp.Eq k x y = refl
set_compute BinaryOp.Ne k x y = refl
set_compute BinaryOp.Lt k x y = refl
set_compute BinaryOp.Le k x y = refl
set_compute BinaryOp.Gt k x y = refl
set_compute BinaryOp.Ge k x y = refl
set_compute BinaryOp.And k x y = tt
set_compute BinaryOp.Or k x y = tt

set_operate : (o : BinaryOp) (v w : Value) → SetIfGiven (operate o v w)
set_operate o (number k x) (number j y) = set_compute o k x y
set_operate BinaryOp.Eq (truth a) (truth b) = refl
set_operate BinaryOp.Ne (truth a) (truth b) = refl
set_operate _ _ _ = tt

set_constant : (c : Constant) → is_set (value_of c) ≡ true
set_constant (whole_number k z) = refl
set_constant (tree.truth b) = refl

-- of what needs no field
abbrev pub IsSimple : Making → Type 0
IsSimple tuple = ⊥
IsSimple (struct i) = ⊥
IsSimple (variant_of i v) = ⊥
IsSimple _ = Unit {0}

-- what `&&` and `||` give is built of no field, but of the last operand that was met
abbrev pub OfNoField : Making → List ℕ → Type 0
OfNoField lazy js = js ≡ []
OfNoField _ js = Unit {0}

set_simple : (m : Making) (js : List ℕ) (vs : List Value) → IsSimple m → AllHere vs → SetIfGiven (make m js vs)
set_simple (constant c) js [] s h = set_constant c
set_simple (constant c) js (v ∷ vs) s h = tt
set_simple negation js (number k z ∷ []) s h = set_fitting k (neg_ℤ z)
set_simple negation js _ s h = tt
set_simple inversion js (truth b ∷ []) s h = refl
set_simple inversion js _ s h = tt
set_simple (operation o) js (v ∷ w ∷ []) s h = set_operate o v w
set_simple (operation o) js _ s h = tt
set_simple lazy js (v ∷ []) s h = h.0
set_simple lazy js _ s h = tt
set_simple tuple js vs s h = absurd s
set_simple (struct i) js vs s h = absurd s
set_simple (variant_of i v) js vs s h = absurd s

given_set : (c : Computed) (v : Value) → SetIfGiven c → c ≡ operators.gives v → is_set v ≡ true
given_set c v h e = subst SetIfGiven e h

pub simple_makes : (m : Making) (js : List ℕ) (ts : List Temporary) → IsSimple m → Makes m js ts
simple_makes m js ts s vs v p h e = given_set (make m js vs) v (set_simple m js vs s h) e

pub simple_no_mark : (m : Making) (js : List ℕ) (ts : List Temporary) → IsSimple m → makes_mark m js ts ≡ false
simple_no_mark tuple js ts s = absurd s
simple_no_mark (struct i) js ts s = absurd s
simple_no_mark (variant_of i v) js ts s = absurd s
simple_no_mark _ js ts s = refl

pub tuple_makes : (js : List ℕ) (ts : List Temporary) → Complete js → length js ≡ length ts → Makes tuple js ts
tuple_makes js ts c l vs v p h e = given_set (make tuple js vs) v (set_fields js ts vs c l p h) e

pub struct_makes : (i : ℕ) (js : List ℕ) (ts : List Temporary) → Complete js → length js ≡ length ts → Makes (struct i) js ts
struct_makes i js ts c l vs v p h e = given_set (make (struct i) js vs) v (set_fields js ts vs c l p h) e

pub variant_makes : (i k : ℕ) (js : List ℕ) (ts : List Temporary) → Complete js → length js ≡ length ts → Makes (variant_of i k) js ts
variant_makes i k js ts c l vs v p h e = given_set (make (variant_of i k) js vs) v (set_fields js ts vs c l p h) e

pub as_many : (es : Operands) → length (fields_of es) ≡ length (temporaries_of es)
as_many no_operand = refl
as_many (operand_and i e es) = ap suc (as_many es)
