-- What is made of values of the types that are wanted is of the type that is made, and operators take values of their types.
use Rattle.std.specs.Prelude.{ℤ, pos, negsuc, neg_ℤ, ◌+ℤ◌, ◌-ℤ◌, ◌*ℤ◌, int_div, int_rem, slice_get, map}
use Rattle.std.proofs.Common.{◌≡◌, ℕ, zero, suc, ◌+◌, Bool, true, false, nat_eq, List, [], ◌∷◌, length, Option, Some, None, refl, sym, ap, subst, ◌∙◌, eqb-true, if◌then◌else◌, arith, true≢false}
use Rattle.rx_core.specs.declared.types.Kind.{Kind}
use Rattle.rx_tree.specs.declared.tree.BinaryOp.{BinaryOp}
use Rattle.rx_typed.specs.Types.{Typ, integer, boolean, named, tuple_of, shapes_of, Declarations}
use Rattle.rx_typed.specs.Tree.{Constant, whole_number, Making, lazy}
use Rattle.rx_typed.specs.Tree as tree
use Rattle.rx_lower_walks.specs.Matching.{Check, has_tag, equals}
use Rattle.rx_meaning.specs.declared.outcome.Trap.{Trap}
use Rattle.rx_meaning.specs.Endings.{wrong}
use Rattle.rx_meaning.specs.Straying.{why_not_checked}
use Rattle.rx_meaning.specs.Values.{Value, number, truth, whole, tagged, is_set}
use Rattle.rx_meaning.specs.Operators as operators
use Rattle.rx_meaning.specs.Operators.{Computed, is_in, fitting, divided, compute, operate, value_of, for_field, arranged, fields, make, shown}
use Rattle.rx_meaning.specs.Acting.{checked}
use Rattle.rx_meaning_keeping.specs.Ready.{AllHere}
use Rattle.rx_meaning_typed.specs.TypedActs.{shape_at, types_of_fields, Operates, adds, subtracts, multiplies, divides, leaves, equal_numbers, equal_truths, unequal_numbers, unequal_truths, less, at_most, greater, at_least, constant_typ, Fill, no_field, field_and, Makes, constants, negates, inverts, operates, joins, tuples, structs, variants, IsEnum, HasTags, Checks, IsShown}
use Rattle.rx_meaning_typed.specs.ValueTypes.{Store, HasType, of_number, of_truth, of_tuple, of_struct, of_enum, of_reference, of_lack, HaveTypes, none_typed, each_typed, AllTyped, no_typed, typed_and}
use Rattle.rx_meaning_typed.specs.TypedStates.{IsSensible}
use Rattle.rx_meaning_typed.proofs.Parts.{some_is}
use Rattle.rx_meaning_typed.proofs.Stores.{all_length}

module _ (L : Bool) (D : Declarations) (S : Store) where
  -- it gives a value of this type, or traps
  abbrev pub ComputesTyped : Typ → Computed → Type 0
  ComputesTyped t (operators.gives v) = HasType L D S v t
  ComputesTyped t (operators.traps x) = Unit {0}
  ComputesTyped t operators.senseless = ⊥

  -- ---- operators

  if_typed : (b : Bool) (k : Kind) (z : ℤ) (t : Trap) → ComputesTyped (integer k) (if b then operators.gives (number k z) else operators.traps t)
  if_typed true k z t = of_number
  if_typed false k z t = tt

  fitting_typed : (k : Kind) (z : ℤ) → ComputesTyped (integer k) (fitting k z)
  fitting_typed k z = if_typed (is_in k z) k z Trap.Overflow

  divided_typed : (k : Kind) (x y z : ℤ) → ComputesTyped (integer k) (divided k x y z)
  divided_typed k x (pos zero) z = tt
  divided_typed k x (pos (suc n)) z = if_typed (is_in k (int_div x (pos (suc n)))) k z Trap.Overflow
  divided_typed k x (negsuc n) z = if_typed (is_in k (int_div x (negsuc n))) k z Trap.Overflow

  compute_typed : {o : BinaryOp} {t u r : Typ} → Operates o t u r → (v w : Value) → HasType L D S v t → HasType L D S w u → is_set v ≡ true → is_set w ≡ true → ComputesTyped r (operate o v w)
  compute_typed (adds {k = k}) _ _ (of_number {z = x}) (of_number {z = y}) a b = fitting_typed k (x +ℤ y)
  compute_typed (subtracts {k = k}) _ _ (of_number {z = x}) (of_number {z = y}) a b = fitting_typed k (x -ℤ y)
  compute_typed (multiplies {k = k}) _ _ (of_number {z = x}) (of_number {z = y}) a b = fitting_typed k (x *ℤ y)
  compute_typed (divides {k = k}) _ _ (of_number {z = x}) (of_number {z = y}) a b = divided_typed k x y (int_div x y)
  compute_typed (leaves {k = k}) _ _ (of_number {z = x}) (of_number {z = y}) a b = divided_typed k x y (int_rem x y)
  compute_typed (equal_numbers {k = k}) _ _ (of_number {z = x}) (of_number {z = y}) a b = of_truth
  compute_typed (unequal_numbers {k = k}) _ _ (of_number {z = x}) (of_number {z = y}) a b = of_truth
  compute_typed (less {k = k}) _ _ (of_number {z = x}) (of_number {z = y}) a b = of_truth
  compute_typed (at_most {k = k}) _ _ (of_number {z = x}) (of_number {z = y}) a b = of_truth
  compute_typed (greater {k = k}) _ _ (of_number {z = x}) (of_number {z = y}) a b = of_truth
  compute_typed (at_least {k = k}) _ _ (of_number {z = x}) (of_number {z = y}) a b = of_truth
  compute_typed equal_truths _ _ (of_truth {b = x}) (of_truth {b = y}) a b = of_truth
  compute_typed unequal_truths _ _ (of_truth {b = x}) (of_truth {b = y}) a b = of_truth
  compute_typed _ _ _ of_lack h a b = absurd (true≢false (sym a))
  compute_typed _ _ _ h of_lack a b = absurd (true≢false (sym b))

  -- ---- fields

  for_typed : (ps : List Typ) {is : List ℕ} {us : List Typ} {vs : List Value} → Fill ps is us → AllTyped L D S vs us → (i : ℕ) (t : Typ) → shape_at (shapes_of ps) i ≡ Some t → HasType L D S (for_field is vs i) t
  for_typed ps no_field no_typed i t g = of_lack
  for_typed ps (field_and {i = j} {is = is} {u = u} e f) (typed_and {v = v} {vs = vs} h hs) i t g = by (nat_eq i j) refl (for_typed ps f hs i t g)
    where
      by : (b : Bool) → nat_eq i j ≡ b → HasType L D S (for_field is vs i) t → HasType L D S (if b then v else for_field is vs i) t
      by true q rest = subst (λ z. HasType L D S v z) (some_is (sym e ∙ (ap (λ z. shape_at (shapes_of ps) z) (sym (eqb-true i j q)) ∙ g))) h
      by false q rest = rest

  arranged_typed : (ps : List Typ) (i : ℕ) (is : List ℕ) (vs : List Value) → ((j : ℕ) (t : Typ) → shape_at (shapes_of ps) j ≡ Some t → HasType L D S (for_field is vs (i + j)) t) → HaveTypes L D S (arranged (length ps) i is vs) (shapes_of ps)
  arranged_typed [] i is vs h = none_typed
  arranged_typed (p ∷ ps) i is vs h =
      let same : i + 0 ≡ i = omega arith in
      each_typed (subst (λ z. HasType L D S (for_field is vs z) p) same (h 0 p refl))
      (arranged_typed ps (suc i) is vs (λ j t e. let next : i + suc j ≡ suc i + j = omega arith in subst (λ z. HasType L D S (for_field is vs z) t) next (h (suc j) t e)))

  fields_made : (ps : List Typ) (is : List ℕ) (us : List Typ) (vs : List Value) → length us ≡ length ps → Fill ps is us → AllTyped L D S vs us → HaveTypes L D S (fields is vs) (shapes_of ps)
  fields_made ps is us vs e f h =
      subst (λ n. HaveTypes L D S (arranged n 0 is vs) (shapes_of ps)) (sym e ∙ all_length h) (arranged_typed ps 0 is vs (λ j t g. let same : j ≡ 0 + j = omega arith in subst (λ z. HasType L D S (for_field is vs z) t) same (for_typed ps f h j t g)))

  -- ---- what is made

  constant_typed : (c : Constant) → HasType L D S (value_of c) (constant_typ c)
  constant_typed (whole_number k z) = of_number
  constant_typed (tree.truth b) = of_truth

  negated : (k : Kind) (is : List ℕ) (v : Value) → HasType L D S v (integer k) → is_set v ≡ true → ComputesTyped (integer k) (make tree.negation is (v ∷ []))
  negated k is _ (of_number {z = z}) s = fitting_typed k (neg_ℤ z)
  negated k is _ of_lack s = absurd (true≢false (sym s))

  inverted : (is : List ℕ) (v : Value) → HasType L D S v boolean → is_set v ≡ true → ComputesTyped boolean (make tree.inversion is (v ∷ []))
  inverted is _ of_truth s = of_truth
  inverted is _ of_lack s = absurd (true≢false (sym s))

  pub made_typed : {w : Making} {is : List ℕ} {us : List Typ} {r : Typ} → Makes D w is us r → (w ≡ lazy → length is ≡ length us) → (vs : List Value) → AllTyped L D S vs us → AllHere vs → ComputesTyped r (make w is vs)
  made_typed (constants c) lz _ no_typed s = constant_typed c
  made_typed (negates {k = k} {is = is}) lz _ (typed_and {v = v} h no_typed) s = negated k is v h s.0
  made_typed (inverts {is = is}) lz _ (typed_and {v = v} h no_typed) s = inverted is v h s.0
  made_typed (operates o) lz _ (typed_and {v = v} h (typed_and {v = w} g no_typed)) s = compute_typed o v w h g s.0 s.1.0
  made_typed joins lz vs h s = let e : ◌≡◌ {A = ℕ} 0 2 = lz refl in absurd (omega (arith, e))
  made_typed (tuples ts {is = is} {us = us} e f) lz vs h s = of_tuple (fields_made ts is us vs e f h)
  made_typed (structs i {fs = fs} {is = is} {us = us} d e f) lz vs h s = of_struct d (fields_made (types_of_fields fs) is us vs e f h)
  made_typed (variants i v {d = x} {is = is} {us = us} d q e f) lz vs h s = of_enum d q (fields_made x.parts is us vs e f h)

  -- `&&`, `||`: the left operand and what is made are truth values
  pub truths_joined : {is : List ℕ} (t u r : Typ) → Makes D lazy is (t ∷ u ∷ []) r → (t ≡ boolean) × (r ≡ boolean)
  truths_joined _ u _ joins = (refl, refl)

  -- ---- what a test and a print take: what they don't lacks a value

  taken_tags : {v : Value} {t : Typ} (i : ℕ) → HasType L D S v t → HasTags D t → checked (has_tag i) v ≡ None → IsSensible L (wrong (why_not_checked v))
  taken_tags i of_number g e = absurd g
  taken_tags i of_truth g e = absurd g
  taken_tags i (of_tuple h) g e = absurd g
  taken_tags i (of_struct d h) g e = absurd (subst IsEnum d g)
  taken_tags i (of_enum d f h) g e = absurd (cc)
  taken_tags i (of_reference a b c) g e = absurd g
  taken_tags i of_lack g e = tt

  taken_number : {v : Value} (k : Kind) (y : ℤ) → HasType L D S v (integer k) → checked (equals (whole_number k y)) v ≡ None → IsSensible L (wrong (why_not_checked v))
  taken_number k y of_number e = absurd (cc)
  taken_number k y of_lack e = tt

  taken_truth : {v : Value} (b : Bool) → HasType L D S v boolean → checked (equals (tree.truth b)) v ≡ None → IsSensible L (wrong (why_not_checked v))
  taken_truth b of_truth e = absurd (cc)
  taken_truth b of_lack e = tt

  pub checked_sensible : (c : Check) (v : Value) (t : Typ) → HasType L D S v t → Checks D c t → checked c v ≡ None → IsSensible L (wrong (why_not_checked v))
  checked_sensible (has_tag i) v t h g e = taken_tags i h g e
  checked_sensible (equals (whole_number k y)) v t h g e = taken_number k y (subst (λ z. HasType L D S v z) g h) e
  checked_sensible (equals (tree.truth b)) v t h g e = taken_truth b (subst (λ z. HasType L D S v z) g h) e

  pub shown_sensible : {v : Value} {t : Typ} → HasType L D S v t → IsShown t → shown v ≡ None → IsSensible L (wrong (why_not_checked v))
  shown_sensible of_number g e = absurd (cc)
  shown_sensible (of_truth {b = true}) g e = absurd (cc)
  shown_sensible (of_truth {b = false}) g e = absurd (cc)
  shown_sensible (of_tuple h) g e = absurd g
  shown_sensible (of_struct d h) g e = absurd g
  shown_sensible (of_enum d f h) g e = absurd g
  shown_sensible (of_reference a b c) g e = absurd g
  shown_sensible of_lack g e = tt
