-- Parts of values that are alike, and what is made of such values, are alike: by cases on what makes them alike.
use Rattle.std.proofs.Common.{◌≡◌, ℕ, zero, suc, Bool, true, false, nat_eq, ◌&&◌, List, [], ◌∷◌, Option, Some, None, refl, sym, ap, ap₂, ◌∙◌, ◌⊎◌, inl, inr, subst, arith, suc-ne-zero, ℤ, pos, negsuc, neg_ℤ, if◌then◌else◌}
use Rattle.std.specs.Prelude.{length}
use Rattle.rx_core.specs.declared.types.Kind.{Kind}
use Rattle.rx_core.specs.declared.types.Step.{Step}
use Rattle.rx_core.specs.declared.types.Step.TheVariants as step
use Rattle.rx_tree.specs.declared.tree.BinaryOp.{BinaryOp}
use Rattle.rx_tree.specs.declared.tree.BinaryOp.TheVariants as op
use Rattle.rx_meaning.specs.declared.outcome.Trap.{Trap}
use Rattle.rx_typed.specs.Tree as tree
use Rattle.rx_typed.specs.Tree.{Constant, whole_number, Making}
use Rattle.rx_lower_walks.specs.Matching.{Check, has_tag, equals}
use Rattle.rx_meaning.specs.Values.{Value, number, truth, whole, tagged, pointer, lacking, Values, no_value, value_and, is_set, are_set, and_then, field, with_field, part, with_part, get, put}
use Rattle.rx_meaning.specs.Operators as operators
use Rattle.rx_meaning.specs.Operators.{Computed, operate, compute, fitting, divided, value_of, for_field, arranged, make, shown}
use Rattle.rx_meaning.specs.Acting.{checked}
pub use Rattle.rx_engine_simulation.specs.Fits.{Has, HasAll, Complete, Fitting}
pub use Rattle.rx_engine_simulation.specs.Sights.{Hold, fixed, shut, free, NotFixed, In}
pub use Rattle.rx_engine_simulation.specs.Values.{Pair, pair, LikeValue, numbers, truths, wholes, taggeds, pointers, lacks, LikeValues, no_values, values_and, More, Given, AllGiven, none_given, more_given}

mutual
  pub like_more : {j j1 : List Pair} {v w : Value} → More j j1 → LikeValue j v w → LikeValue j1 v w
  like_more f numbers = numbers
  like_more f truths = truths
  like_more f (wholes l) = wholes (likes_more f l)
  like_more f (taggeds l) = taggeds (likes_more f l)
  like_more f (pointers p i h) = pointers p (f p i) h
  like_more f lacks = lacks

  pub likes_more : {j j1 : List Pair} {vs ws : Values} → More j j1 → LikeValues j vs ws → LikeValues j1 vs ws
  likes_more f no_values = no_values
  likes_more f (values_and l ls) = values_and (like_more f l) (likes_more f ls)

pub data LikeOption {A B : Type 0} (W : A → B → Type 0) : Option A → Option B → Type 0 where
  nones : LikeOption W None None
  somes : {a : A} {b : B} → W a b → LikeOption W (Some a) (Some b)

pub like_then : {A B C D : Type 0} {W : A → B → Type 0} {X : C → D → Type 0} {a : Option A} {b : Option B} {go : A → Option C} {go' : B → Option D}
    → LikeOption W a b → ((x : A) (y : B) → W x y → LikeOption X (go x) (go' y)) → LikeOption X (and_then a go) (and_then b go')
like_then nones k = nones
like_then (somes w) k = k _ _ w

mutual
  pub set_same : {j : List Pair} {v w : Value} → LikeValue j v w → is_set v ≡ is_set w
  set_same numbers = refl
  set_same truths = refl
  set_same (wholes l) = are_set_same l
  set_same (taggeds l) = are_set_same l
  set_same (pointers p i h) = refl
  set_same lacks = refl

  are_set_same : {j : List Pair} {vs ws : Values} → LikeValues j vs ws → are_set vs ≡ are_set ws
  are_set_same no_values = refl
  are_set_same (values_and l ls) = ap₂ (λ a b. a && b) (set_same l) (are_set_same ls)

field_like : {j : List Pair} {vs ws : Values} → LikeValues j vs ws → (i : ℕ) → LikeOption (LikeValue j) (field vs i) (field ws i)
field_like no_values i = nones
field_like (values_and l ls) zero = somes l
field_like (values_and l ls) (suc i) = field_like ls i

if_like : {A B : Type 0} {W : A → B → Type 0} (b : Bool) (x : A) (y : B) → W x y → LikeOption W (if b then Some x else None) (if b then Some y else None)
if_like true x y w = somes w
if_like false x y w = nones

pub part_like : {j : List Pair} {v w : Value} → LikeValue j v w → (s : Step) → LikeOption (LikeValue j) (part v s) (part w s)
part_like (wholes l) (step.Field i) = field_like l i
part_like (taggeds {i = i} l) (step.Variant k) = if_like (nat_eq i k) _ _ (wholes l)
part_like numbers s = nones
part_like truths s = nones
part_like (wholes l) (step.Variant k) = nones
part_like (wholes l) (step.Deref m) = nones
part_like (taggeds l) (step.Field k) = nones
part_like (taggeds l) (step.Deref m) = nones
part_like (pointers p i h) s = nones
part_like lacks s = nones

pub get_like : {j : List Pair} (ss : List Step) {v w : Value} → LikeValue j v w → LikeOption (LikeValue j) (get ss v) (get ss w)
get_like [] l = somes l
get_like (s ∷ ss) l = like_then (part_like l s) (λ x y m. get_like ss m)

with_field_like : {j : List Pair} {vs ws : Values} {a b : Value} → LikeValues j vs ws → (i : ℕ) → LikeValue j a b → LikeValues j (with_field vs i a) (with_field ws i b)
with_field_like no_values i l = no_values
with_field_like (values_and m ls) zero l = values_and l ls
with_field_like (values_and m ls) (suc i) l = values_and m (with_field_like ls i l)

tag_with : {j : List Pair} {a b : Value} (i : ℕ) (vs ws : Values) (k : ℕ) → LikeValue j a b → LikeOption (LikeValue j) (with_part (tagged i vs) (step.Variant k) a) (with_part (tagged i ws) (step.Variant k) b)
tag_with i vs ws k (wholes l) = somes (taggeds l)
tag_with i vs ws k numbers = nones
tag_with i vs ws k truths = nones
tag_with i vs ws k (taggeds l) = nones
tag_with i vs ws k (pointers p n h) = nones
tag_with i vs ws k lacks = nones

with_part_like : {j : List Pair} {v w a b : Value} → LikeValue j v w → (s : Step) → LikeValue j a b → LikeOption (LikeValue j) (with_part v s a) (with_part w s b)
with_part_like (wholes l) (step.Field i) m = somes (wholes (with_field_like l i m))
with_part_like (taggeds {i = i} {vs = vs} {ws = ws} l) (step.Variant k) m = tag_with i vs ws k m
with_part_like numbers s m = nones
with_part_like truths s m = nones
with_part_like (wholes l) (step.Variant k) m = nones
with_part_like (wholes l) (step.Deref k) m = nones
with_part_like (taggeds l) (step.Field k) m = nones
with_part_like (taggeds l) (step.Deref k) m = nones
with_part_like (pointers p i h) s m = nones
with_part_like lacks s m = nones

pub put_like : {j : List Pair} (ss : List Step) {v w a b : Value} → LikeValue j a b → LikeValue j v w → LikeOption (LikeValue j) (put ss a v) (put ss b w)
put_like [] l m = somes l
put_like (s ∷ ss) l m = like_then (part_like m s) (λ x y n. like_then (put_like ss l n) (λ x y o. with_part_like m s o))

-- ---- what is set stays set

and_left : (a b : Bool) → a && b ≡ true → a ≡ true
and_left true b e = refl
and_left false b e = absurd (cc)

and_right : (a b : Bool) → a && b ≡ true → b ≡ true
and_right true b e = e
and_right false b e = absurd (cc)

both_true : (a b : Bool) → a ≡ true → b ≡ true → a && b ≡ true
both_true true b e f = f
both_true false b e f = absurd (cc)

field_set : (vs : Values) (i : ℕ) (v : Value) → are_set vs ≡ true → field vs i ≡ Some v → is_set v ≡ true
field_set no_value i v h e = absurd (cc)
field_set (value_and w vs) zero v h e = let f : w ≡ v = cc in ap is_set (sym f) ∙ and_left (is_set w) (are_set vs) h
field_set (value_and w vs) (suc i) v h e = field_set vs i v (and_right (is_set w) (are_set vs) h) e

if_some : {A : Type 0} (b : Bool) (x y : A) → (if b then Some x else None) ≡ Some y → x ≡ y
if_some true x y e = cc
if_some false x y e = absurd (cc)

part_set : (v w : Value) (s : Step) → is_set v ≡ true → part v s ≡ Some w → is_set w ≡ true
part_set (whole vs) w (step.Field i) h e = field_set vs i w h e
part_set (tagged i vs) w (step.Variant k) h e = ap is_set (sym (if_some (nat_eq i k) (whole vs) w e)) ∙ h
part_set (number k z) w s h e = absurd (cc)
part_set (truth b) w s h e = absurd (cc)
part_set (whole vs) w (step.Variant k) h e = absurd (cc)
part_set (whole vs) w (step.Deref k) h e = absurd (cc)
part_set (tagged i vs) w (step.Field k) h e = absurd (cc)
part_set (tagged i vs) w (step.Deref k) h e = absurd (cc)
part_set (pointer i p m) w s h e = absurd (cc)
part_set (lacking l) w s h e = absurd (cc)

-- by cases on an option that gives something
pub some_then : {A B : Type 0} (o : Option A) (go : A → Option B) (b : B) → and_then o go ≡ Some b → (a : A) × (o ≡ Some a) × (go a ≡ Some b)
some_then None go b e = absurd (cc)
some_then (Some a) go b e = (a, refl, e)

pub get_set : (ss : List Step) (v w : Value) → is_set v ≡ true → get ss v ≡ Some w → is_set w ≡ true
get_set [] v w h e = let f : v ≡ w = cc in ap is_set (sym f) ∙ h
get_set (s ∷ ss) v w h e = let a = some_then (part v s) _ w e in get_set ss a.0 w (part_set v a.0 s h a.1) a.2

with_field_set : (vs : Values) (i : ℕ) (a : Value) → are_set vs ≡ true → is_set a ≡ true → are_set (with_field vs i a) ≡ true
with_field_set no_value i a h k = refl
with_field_set (value_and v vs) zero a h k = both_true (is_set a) (are_set vs) k (and_right (is_set v) (are_set vs) h)
with_field_set (value_and v vs) (suc i) a h k = both_true (is_set v) _ (and_left (is_set v) (are_set vs) h) (with_field_set vs i a (and_right (is_set v) (are_set vs) h) k)

tag_set : (i k : ℕ) (vs : Values) (a w : Value) → is_set a ≡ true → with_part (tagged i vs) (step.Variant k) a ≡ Some w → is_set w ≡ true
tag_set i k vs (whole us) w h e = let f : tagged i us ≡ w = cc in ap is_set (sym f) ∙ h
tag_set i k vs (number l z) w h e = absurd (cc)
tag_set i k vs (truth b) w h e = absurd (cc)
tag_set i k vs (tagged n us) w h e = absurd (cc)
tag_set i k vs (pointer n p m) w h e = absurd (cc)
tag_set i k vs (lacking l) w h e = absurd (cc)

with_part_set : (v a w : Value) (s : Step) → is_set v ≡ true → is_set a ≡ true → with_part v s a ≡ Some w → is_set w ≡ true
with_part_set (whole vs) a w (step.Field i) h k e = let f : whole (with_field vs i a) ≡ w = cc in ap is_set (sym f) ∙ with_field_set vs i a h k
with_part_set (tagged i vs) a w (step.Variant n) h k e = tag_set i n vs a w k e
with_part_set (number l z) a w s h k e = absurd (cc)
with_part_set (truth b) a w s h k e = absurd (cc)
with_part_set (whole vs) a w (step.Variant n) h k e = absurd (cc)
with_part_set (whole vs) a w (step.Deref n) h k e = absurd (cc)
with_part_set (tagged i vs) a w (step.Field n) h k e = absurd (cc)
with_part_set (tagged i vs) a w (step.Deref n) h k e = absurd (cc)
with_part_set (pointer i p m) a w s h k e = absurd (cc)
with_part_set (lacking l) a w s h k e = absurd (cc)

pub put_set : (ss : List Step) (a v w : Value) → is_set a ≡ true → is_set v ≡ true → put ss a v ≡ Some w → is_set w ≡ true
put_set [] a v w h k e = let f : a ≡ w = cc in ap is_set (sym f) ∙ h
put_set (s ∷ ss) a v w h k e =
    let b = some_then (part v s) _ w e in
    let c = some_then (put ss a b.0) _ w b.2 in
    with_part_set v c.0 w s k (put_set ss a b.0 c.0 h (part_set v b.0 s k b.1) c.1) c.2

-- ---- what is computed

pub checked_same : {j : List Pair} (c : Check) {v w : Value} → LikeValue j v w → checked c v ≡ checked c w
checked_same (has_tag i) numbers = refl
checked_same (has_tag i) truths = refl
checked_same (has_tag i) (wholes l) = refl
checked_same (has_tag i) (taggeds l) = refl
checked_same (has_tag i) (pointers p k h) = refl
checked_same (has_tag i) lacks = refl
checked_same (equals (whole_number k z)) numbers = refl
checked_same (equals (whole_number k z)) truths = refl
checked_same (equals (whole_number k z)) (wholes l) = refl
checked_same (equals (whole_number k z)) (taggeds l) = refl
checked_same (equals (whole_number k z)) (pointers p i h) = refl
checked_same (equals (whole_number k z)) lacks = refl
checked_same (equals (tree.truth b)) numbers = refl
checked_same (equals (tree.truth b)) truths = refl
checked_same (equals (tree.truth b)) (wholes l) = refl
checked_same (equals (tree.truth b)) (taggeds l) = refl
checked_same (equals (tree.truth b)) (pointers p i h) = refl
checked_same (equals (tree.truth b)) lacks = refl

pub shown_same : {j : List Pair} {v w : Value} → LikeValue j v w → shown v ≡ shown w
shown_same numbers = refl
shown_same (truths {b = true}) = refl
shown_same (truths {b = false}) = refl
shown_same (wholes l) = refl
shown_same (taggeds l) = refl
shown_same (pointers p i h) = refl
shown_same lacks = refl

pub given_more : {j j1 : List Pair} {v w : Value} → More j j1 → Given j v w → Given j1 v w
given_more f g = (like_more f g.0, g.1)

pub all_more : {j j1 : List Pair} {vs ws : List Value} → More j j1 → AllGiven j vs ws → AllGiven j1 vs ws
all_more f none_given = none_given
all_more f (more_given g l) = more_given (given_more f g) (all_more f l)

pub data LikeComputed (j : List Pair) : Computed → Computed → Type 0 where
  both_give : {v w : Value} → Given j v w → LikeComputed j (operators.gives v) (operators.gives w)
  both_trap : {t : Trap} → LikeComputed j (operators.traps t) (operators.traps t)
  neither_computes : LikeComputed j operators.senseless operators.senseless

abbrev pub GivesLike : List Pair → Computed → Computed → Type 0
GivesLike j c c' = LikeComputed j c c'

fitting_like : {j : List Pair} (k : Kind) (z : ℤ) → LikeComputed j (fitting k z) (fitting k z)
fitting_like {j} k z = by (operators.is_in k z)
  where
    by : (b : Bool) → LikeComputed j (if b then operators.gives (number k z) else operators.traps Trap.Overflow) (if b then operators.gives (number k z) else operators.traps Trap.Overflow)
    by true = both_give (numbers, refl)
    by false = both_trap

-- numbers and truths alone
pub data Plainly : Computed → Type 0 where
  a_number : {k : Kind} {z : ℤ} → Plainly (operators.gives (number k z))
  a_truth : {b : Bool} → Plainly (operators.gives (truth b))
  a_trap : {t : Trap} → Plainly (operators.traps t)
  nothing_plain : Plainly operators.senseless

plain_like : {j : List Pair} {c : Computed} → Plainly c → LikeComputed j c c
plain_like a_number = both_give (numbers, refl)
plain_like a_truth = both_give (truths, refl)
plain_like a_trap = both_trap
plain_like nothing_plain = neither_computes

fits : (k : Kind) (z : ℤ) → Plainly (fitting k z)
fits k z = by (operators.is_in k z)
  where
    by : (b : Bool) → Plainly (if b then operators.gives (number k z) else operators.traps Trap.Overflow)
    by true = a_number
    by false = a_trap

divides : (k : Kind) (x y z : ℤ) → Plainly (divided k x y z)
divides k x y z = by (by_zero y)
  where
    by : Plainly (divided k x y z) → Plainly (divided k x y z)
    by h = h

    in_range : (y : ℤ) (b : Bool) → Plainly (if b then operators.gives (number k z) else operators.traps Trap.Overflow)
    in_range y true = a_number
    in_range y false = a_trap

    by_zero : (y : ℤ) → Plainly (divided k x y z)
    by_zero (pos zero) = a_trap
    by_zero (pos (suc n)) = in_range (pos (suc n)) _
    by_zero (negsuc n) = in_range (negsuc n) _

computes : (o : BinaryOp) (k : Kind) (x y : ℤ) → Plainly (compute o k x y)
computes op.Add k x y = fits k _
computes op.Sub k x y = fits k _
computes op.Mul k x y = fits k _
computes op.Div k x y = divides k x y _
computes op.Rem k x y = divides k x y _
computes op.Eq k x y = a_truth
computes op.Ne k x y = a_truth
computes op.Lt k x y = a_truth
computes op.Le k x y = a_truth
computes op.Gt k x y = a_truth
computes op.Ge k x y = a_truth
computes op.Or k x y = nothing_plain
computes op.And k x y = nothing_plain

truths_like : {j : List Pair} (o : BinaryOp) (a b : Bool) → LikeComputed j (operate o (truth a) (truth b)) (operate o (truth a) (truth b))
truths_like op.Add a b = neither_computes
truths_like op.Sub a b = neither_computes
truths_like op.Mul a b = neither_computes
truths_like op.Div a b = neither_computes
truths_like op.Rem a b = neither_computes
truths_like op.Eq a b = both_give (truths, refl)
truths_like op.Ne a b = both_give (truths, refl)
truths_like op.Lt a b = neither_computes
truths_like op.Le a b = neither_computes
truths_like op.Gt a b = neither_computes
truths_like op.Ge a b = neither_computes
truths_like op.Or a b = neither_computes
truths_like op.And a b = neither_computes

-- a truth and something else
mixed : {j : List Pair} (o : BinaryOp) (a : Bool) {w w' : Value} → LikeValue j w w' → LikeComputed j (operate o (truth a) w) (operate o (truth a) w')
mixed o a truths = truths_like o _ _
mixed op.Or a numbers = neither_computes
mixed op.Or a (wholes l) = neither_computes
mixed op.Or a (taggeds l) = neither_computes
mixed op.Or a (pointers p i h) = neither_computes
mixed op.Or a lacks = neither_computes
mixed op.And a numbers = neither_computes
mixed op.And a (wholes l) = neither_computes
mixed op.And a (taggeds l) = neither_computes
mixed op.And a (pointers p i h) = neither_computes
mixed op.And a lacks = neither_computes
mixed op.Eq a numbers = neither_computes
mixed op.Eq a (wholes l) = neither_computes
mixed op.Eq a (taggeds l) = neither_computes
mixed op.Eq a (pointers p i h) = neither_computes
mixed op.Eq a lacks = neither_computes
mixed op.Ne a numbers = neither_computes
mixed op.Ne a (wholes l) = neither_computes
mixed op.Ne a (taggeds l) = neither_computes
mixed op.Ne a (pointers p i h) = neither_computes
mixed op.Ne a lacks = neither_computes
mixed op.Lt a numbers = neither_computes
mixed op.Lt a (wholes l) = neither_computes
mixed op.Lt a (taggeds l) = neither_computes
mixed op.Lt a (pointers p i h) = neither_computes
mixed op.Lt a lacks = neither_computes
mixed op.Le a numbers = neither_computes
mixed op.Le a (wholes l) = neither_computes
mixed op.Le a (taggeds l) = neither_computes
mixed op.Le a (pointers p i h) = neither_computes
mixed op.Le a lacks = neither_computes
mixed op.Gt a numbers = neither_computes
mixed op.Gt a (wholes l) = neither_computes
mixed op.Gt a (taggeds l) = neither_computes
mixed op.Gt a (pointers p i h) = neither_computes
mixed op.Gt a lacks = neither_computes
mixed op.Ge a numbers = neither_computes
mixed op.Ge a (wholes l) = neither_computes
mixed op.Ge a (taggeds l) = neither_computes
mixed op.Ge a (pointers p i h) = neither_computes
mixed op.Ge a lacks = neither_computes
mixed op.Add a numbers = neither_computes
mixed op.Add a (wholes l) = neither_computes
mixed op.Add a (taggeds l) = neither_computes
mixed op.Add a (pointers p i h) = neither_computes
mixed op.Add a lacks = neither_computes
mixed op.Sub a numbers = neither_computes
mixed op.Sub a (wholes l) = neither_computes
mixed op.Sub a (taggeds l) = neither_computes
mixed op.Sub a (pointers p i h) = neither_computes
mixed op.Sub a lacks = neither_computes
mixed op.Mul a numbers = neither_computes
mixed op.Mul a (wholes l) = neither_computes
mixed op.Mul a (taggeds l) = neither_computes
mixed op.Mul a (pointers p i h) = neither_computes
mixed op.Mul a lacks = neither_computes
mixed op.Div a numbers = neither_computes
mixed op.Div a (wholes l) = neither_computes
mixed op.Div a (taggeds l) = neither_computes
mixed op.Div a (pointers p i h) = neither_computes
mixed op.Div a lacks = neither_computes
mixed op.Rem a numbers = neither_computes
mixed op.Rem a (wholes l) = neither_computes
mixed op.Rem a (taggeds l) = neither_computes
mixed op.Rem a (pointers p i h) = neither_computes
mixed op.Rem a lacks = neither_computes

pub operate_like : {j : List Pair} (o : BinaryOp) {v v' w w' : Value} → LikeValue j v v' → LikeValue j w w' → LikeComputed j (operate o v w) (operate o v' w')
operate_like o numbers numbers = plain_like (computes o _ _ _)
operate_like o numbers truths = neither_computes
operate_like o numbers (wholes l) = neither_computes
operate_like o numbers (taggeds l) = neither_computes
operate_like o numbers (pointers p i h) = neither_computes
operate_like o numbers lacks = neither_computes
operate_like o truths m = mixed o _ m
operate_like o (wholes l) m = neither_computes
operate_like o (taggeds l) m = neither_computes
operate_like o (pointers p i h) m = neither_computes
operate_like o lacks m = neither_computes

picked : {j : List Pair} {v w x y : Value} (b : Bool) → (b ≡ true → Given j v w) → (b ≡ false → Given j x y) → Given j (if b then v else x) (if b then w else y)
picked true g k = g refl
picked false g k = k refl

field_given : {j : List Pair} (js : List ℕ) {vs ws : List Value} → AllGiven j vs ws → length js ≡ length vs → (i : ℕ) → Has js i → Given j (for_field js vs i) (for_field js ws i)
field_given [] l e i h = absurd h
field_given (k ∷ js) none_given e i h = absurd (suc-ne-zero _ e)
field_given (k ∷ js) (more_given {vs = vs} g l) e i h = picked (nat_eq i k) (λ f. g) (λ f. field_given js l (suc_same (length js) (length vs) e) i (later (nat_eq i k) f h))
  where
    suc_same : (a b : ℕ) → suc a ≡ suc b → a ≡ b
    suc_same a b e = omega arith

    later : (b : Bool) → b ≡ false → (b ≡ true) ⊎ Has js i → Has js i
    later b f (inl t) = absurd (cc)
    later b f (inr k) = k

pub data GivenFields (j : List Pair) : Values → Values → Type 0 where
  given_fields : {vs ws : Values} → LikeValues j vs ws → are_set vs ≡ true → GivenFields j vs ws

and_given : {j : List Pair} {v w : Value} {vs ws : Values} → Given j v w → GivenFields j vs ws → GivenFields j (value_and v vs) (value_and w ws)
and_given {v = v} {vs = vs} g (given_fields l h) = given_fields (values_and g.0 l) (both_true (is_set v) (are_set vs) g.1 h)

arranged_given : {j : List Pair} (n i : ℕ) (js : List ℕ) {vs ws : List Value} → AllGiven j vs ws → length js ≡ length vs → HasAll js n i → GivenFields j (arranged n i js vs) (arranged n i js ws)
arranged_given zero i js l e h = given_fields no_values refl
arranged_given (suc n) i js l e h = and_given (field_given js l e i h.0) (arranged_given n (suc i) js l e h.1)

same_length : {j : List Pair} {vs ws : List Value} → AllGiven j vs ws → length vs ≡ length ws
same_length none_given = refl
same_length (more_given g l) = ap suc (same_length l)

fields_given : {j : List Pair} (js : List ℕ) {vs ws : List Value} → AllGiven j vs ws → length js ≡ length vs → Complete js → GivenFields j (operators.fields js vs) (operators.fields js ws)
fields_given {j} js {vs} {ws} l e h =
    subst (λ n. GivenFields j (operators.fields js vs) (arranged n 0 js ws)) (same_length l) (subst (λ n. GivenFields j (arranged n 0 js vs) (arranged n 0 js ws)) e (arranged_given (length js) 0 js l e h))

whole_given : {j : List Pair} {vs ws : Values} → GivenFields j vs ws → LikeComputed j (operators.gives (whole vs)) (operators.gives (whole ws))
whole_given (given_fields l h) = both_give (wholes l, h)

tagged_given : {j : List Pair} {vs ws : Values} (i : ℕ) → GivenFields j vs ws → LikeComputed j (operators.gives (tagged i vs)) (operators.gives (tagged i ws))
tagged_given i (given_fields l h) = both_give (taggeds l, h)

negated : {j : List Pair} (js : List ℕ) {v w : Value} → LikeValue j v w → LikeComputed j (make tree.negation js (v ∷ [])) (make tree.negation js (w ∷ []))
negated js (numbers {k = k} {z = z}) = plain_like (fits k (neg_ℤ z))
negated js truths = neither_computes
negated js (wholes l) = neither_computes
negated js (taggeds l) = neither_computes
negated js (pointers p i h) = neither_computes
negated js lacks = neither_computes

inverted : {j : List Pair} (js : List ℕ) {v w : Value} → LikeValue j v w → LikeComputed j (make tree.inversion js (v ∷ [])) (make tree.inversion js (w ∷ []))
inverted js truths = both_give (truths, refl)
inverted js numbers = neither_computes
inverted js (wholes l) = neither_computes
inverted js (taggeds l) = neither_computes
inverted js (pointers p i h) = neither_computes
inverted js lacks = neither_computes

many_negation : {j : List Pair} (js : List ℕ) (x y : Value) (xs ys : List Value) {v w : Value} → LikeValue j v w → LikeComputed j (make tree.negation js (v ∷ x ∷ xs)) (make tree.negation js (w ∷ y ∷ ys))
many_negation js x y xs ys numbers = neither_computes
many_negation js x y xs ys truths = neither_computes
many_negation js x y xs ys (wholes l) = neither_computes
many_negation js x y xs ys (taggeds l) = neither_computes
many_negation js x y xs ys (pointers p i h) = neither_computes
many_negation js x y xs ys lacks = neither_computes

many_inversion : {j : List Pair} (js : List ℕ) (x y : Value) (xs ys : List Value) {v w : Value} → LikeValue j v w → LikeComputed j (make tree.inversion js (v ∷ x ∷ xs)) (make tree.inversion js (w ∷ y ∷ ys))
many_inversion js x y xs ys numbers = neither_computes
many_inversion js x y xs ys truths = neither_computes
many_inversion js x y xs ys (wholes l) = neither_computes
many_inversion js x y xs ys (taggeds l) = neither_computes
many_inversion js x y xs ys (pointers p i h) = neither_computes
many_inversion js x y xs ys lacks = neither_computes

constant_given : {j : List Pair} (c : Constant) → LikeComputed j (operators.gives (value_of c)) (operators.gives (value_of c))
constant_given (whole_number k z) = both_give (numbers, refl)
constant_given (tree.truth b) = both_give (truths, refl)

-- one operand for each field
abbrev pub Sized : Making → List ℕ → List Value → Type 0
Sized tree.tuple js vs = length js ≡ length vs
Sized (tree.struct i) js vs = length js ≡ length vs
Sized (tree.variant_of i v) js vs = length js ≡ length vs
Sized _ js vs = Unit {0}

pub sized : (w : Making) (js : List ℕ) (vs : List Value) → length js ≡ length vs → Sized w js vs
sized tree.tuple js vs e = e
sized (tree.struct i) js vs e = e
sized (tree.variant_of i v) js vs e = e
sized (tree.constant c) js vs e = tt
sized tree.negation js vs e = tt
sized tree.inversion js vs e = tt
sized (tree.operation o) js vs e = tt
sized tree.lazy js vs e = tt

pub make_like : {j : List Pair} (w : Making) (js : List ℕ) {vs ws : List Value} → AllGiven j vs ws → Sized w js vs → Fitting w js → LikeComputed j (make w js vs) (make w js ws)
make_like (tree.constant c) js none_given e f = constant_given c
make_like (tree.constant c) js (more_given g l) e f = neither_computes
make_like tree.negation js none_given e f = neither_computes
make_like tree.negation js (more_given g none_given) e f = negated js g.0
make_like tree.negation js (more_given g (more_given k l)) e f = many_negation js _ _ _ _ g.0
make_like tree.inversion js none_given e f = neither_computes
make_like tree.inversion js (more_given g none_given) e f = inverted js g.0
make_like tree.inversion js (more_given g (more_given k l)) e f = many_inversion js _ _ _ _ g.0
make_like (tree.operation o) js none_given e f = neither_computes
make_like (tree.operation o) js (more_given g none_given) e f = neither_computes
make_like (tree.operation o) js (more_given g (more_given k none_given)) e f = operate_like o g.0 k.0
make_like (tree.operation o) js (more_given g (more_given k (more_given m l))) e f = neither_computes
make_like tree.lazy js none_given e f = neither_computes
make_like tree.lazy js (more_given g none_given) e f = both_give g
make_like tree.lazy js (more_given g (more_given k l)) e f = neither_computes
make_like tree.tuple js l e f = whole_given (fields_given js l e f)
make_like (tree.struct i) js l e f = whole_given (fields_given js l e f)
make_like (tree.variant_of i v) js l e f = tagged_given v (fields_given js l e f)
