-- A renamed fact is met by the renamed types exactly where the fact is met by the types.
use Rattle.std.proofs.Common.{◌≡◌, ℕ, zero, suc, nat_eq, Bool, true, false, ◌&&◌, ◌||◌, IsTrue, List, [], ◌∷◌, ◌++◌, map, length, Option, Some, None, option_map, slice_get, refl, sym, ap, ◌∙◌, subst, eq-eqb, eqb-true, if◌then◌else◌}
use Rattle.std.specs.Str.{bytes_eq}
use Rattle.rx_core.specs.declared.types.Kind.{Kind}
use Rattle.rx_typed.specs.Types.{Shape, Shapes, integer, boolean, tuple_of, reference, named, no_shape, shape_and, Typ, Outline, shape_map, shapes_map, outline, shapes_listed, shapes_of, peeled, references, outermost, FieldDeclared, VariantDeclared, Declared, rt_declared, struct_declared, enum_declared, function_declared, fields_declared, variants_declared, parameters_declared, result_declared, lifetimes_declared, parts_declared, field_typ, variant_parts, derives_copy, copies, all_copy, levels, most_levels, parts, sum_of_parts, at_least_one, keeps_limits}
use Rattle.rx_typeck_solver.specs.declared.facts.Subject.{Subject}
use Rattle.rx_typeck_solver.specs.declared.facts.Subject.TheVariants as subject
use Rattle.rx_typeck_solver.specs.declared.facts.Passing.{Passing}
use Rattle.rx_typeck_solver.specs.declared.facts.Op.{Op}
use Rattle.rx_typeck_solver.specs.declared.facts.Op.TheVariants as op
use Rattle.rx_typeck_solver.specs.declared.facts.Test.{Test}
use Rattle.rx_typeck_solver.specs.declared.facts.Test.TheVariants as test
use Rattle.rx_typeck_solver.specs.declared.facts.Fact.{Fact}
use Rattle.rx_typeck_solver.specs.declared.facts.Fact.TheVariants as fact
use Rattle.rx_typeck_solver.specs.declared.facts.Demand.{Demand}
use Rattle.rx_typeck_solver.specs.Facts.{Assignment, KnownItems, bound, coerced, fixed, field_of, part_of, pointee, of_one, of_two, made, is_plain, is_integer, is_truth, is_tuple, is_item, is_mutable_reference, is_lent, is_none, binding_kept, test_one, test_two, names_of, exactly, is_unit_typ, is_unit, holds, gone_through, passed, types_at, outlines_at, Meets, MeetsAll, MeetsEach}
use Rattle.rx_typeck_solver.specs.Ordered.{Knowing, anything, all_known}
use Rattle.rx_typeck_solver.proofs.Base.{and_both}
use Rattle.rx_engine_blocks.specs.PlainFacts.{plain_fact}
use Rattle.rx_engine_blocks.specs.Renumbering.{Renumbering, shape_at, shapes_at, field_at, variant_at, declared_at, subject_at, passing_at, op_at, test_at, fact_at}
use Rattle.rx_engine_blocks.specs.DemandsLike.{FactsLike, DemandsLike, NoSpecial}
use Rattle.rx_engine_blocks.specs.Knows.{Knows}
use Rattle.rx_engine_blocks.specs.Along.{Along}
use Rattle.rx_engine_blocks.specs.DemandsLike.FactLike.{like_fact}
use Rattle.rx_engine_blocks.specs.DemandsLike.FactsLike.{like_no_fact, like_more_facts}
use Rattle.rx_engine_blocks.specs.DemandsLike.DemandsLike.{like_no_demand, like_more_demands, like_other_demands}

-- demands in front, and the last
pub first : (D : KnownItems) (A : Assignment) (xs ys : List Demand) → MeetsEach D A (xs ++ ys) → MeetsEach D A xs × MeetsEach D A ys
first D A [] ys h = (tt, h)
first D A (x ∷ xs) ys h = let p = first D A xs ys h.1 in ((h.0, p.0), p.1)

pub last : (D : KnownItems) (A : Assignment) (xs : List Demand) (d : Demand) → MeetsEach D A xs → MeetsAll D A d.facts → MeetsEach D A (xs ++ d ∷ [])
last D A [] d h k = (k, tt)
last D A (x ∷ xs) d h k = (h.0, last D A xs d h.1 k)

-- ---- shapes

module _ (r : Renumbering) where
  mutual
    pub map_at : {K L : Type 0} (f : K → L) (t : Shape K) → shape_map f (shape_at r t) ≡ shape_at r (shape_map f t)
    map_at f (integer k) = refl
    map_at f boolean = refl
    map_at f (tuple_of ts) = ap tuple_of (maps_at f ts)
    map_at f (reference m t) = ap (reference m) (map_at f t)
    map_at f (named i) = refl

    maps_at : {K L : Type 0} (f : K → L) (ts : Shapes K) → shapes_map f (shapes_at r ts) ≡ shapes_at r (shapes_map f ts)
    maps_at f no_shape = refl
    maps_at f (shape_and t ts) = ap (λ u. shape_and u (shapes_map f (shapes_at r ts))) (map_at f t) ∙ ap (shape_and (shape_at r (shape_map f t))) (maps_at f ts)

  pub outline_at : {K : Type 0} (t : Shape K) → outline (shape_at r t) ≡ shape_at r (outline t)
  outline_at t = map_at (λ k. tt) t

  pub peeled_at : {K : Type 0} (t : Shape K) → peeled (shape_at r t) ≡ shape_at r (peeled t)
  peeled_at (reference m t) = peeled_at t
  peeled_at _ = refl

  references_at : {K : Type 0} (t : Shape K) → references (shape_at r t) ≡ references t
  references_at (reference m t) = ap (λ ms. m ∷ ms) (references_at t)
  references_at _ = refl

  outermost_at : {K : Type 0} (t : Shape K) → outermost (shape_at r t) ≡ outermost t
  outermost_at (reference m t) = refl
  outermost_at _ = refl

  gone_at : {K : Type 0} (all : Bool) (t : Shape K) → gone_through all (shape_at r t) ≡ gone_through all t
  gone_at true t = references_at t
  gone_at false t = outermost_at t

  shapes_of_at : {K : Type 0} (ts : List (Shape K)) → shapes_of (map (shape_at r) ts) ≡ shapes_at r (shapes_of ts)
  shapes_of_at [] = refl
  shapes_of_at (t ∷ ts) = ap (shape_and (shape_at r t)) (shapes_of_at ts)

  part_in : {K : Type 0} (ts : Shapes K) (k : ℕ) → slice_get (shapes_listed (shapes_at r ts)) k ≡ option_map (shape_at r) (slice_get (shapes_listed ts) k)
  part_in no_shape k = refl
  part_in (shape_and t ts) zero = refl
  part_in (shape_and t ts) (suc k) = part_in ts k

  length_at : {K : Type 0} (ts : Shapes K) → length (shapes_listed (shapes_at r ts)) ≡ length (shapes_listed ts)
  length_at no_shape = refl
  length_at (shape_and t ts) = ap suc (length_at ts)

  -- ---- declarations

  length_map : {A B : Type 0} (f : A → B) (xs : List A) → length (map f xs) ≡ length xs
  length_map f [] = refl
  length_map f (x ∷ xs) = ap suc (length_map f xs)

  get_map : {A B : Type 0} (f : A → B) (xs : List A) (k : ℕ) → slice_get (map f xs) k ≡ option_map f (slice_get xs k)
  get_map f [] k = refl
  get_map f (x ∷ xs) zero = refl
  get_map f (x ∷ xs) (suc k) = get_map f xs k

  fields_at : (d : Option Declared) → fields_declared (option_map (declared_at r) d) ≡ map (field_at r) (fields_declared d)
  fields_at None = refl
  fields_at (Some rt_declared) = refl
  fields_at (Some (struct_declared c l fs)) = refl
  fields_at (Some (enum_declared c l vs)) = refl
  fields_at (Some (function_declared ps t)) = refl

  variants_at : (d : Option Declared) → variants_declared (option_map (declared_at r) d) ≡ map (variant_at r) (variants_declared d)
  variants_at None = refl
  variants_at (Some rt_declared) = refl
  variants_at (Some (struct_declared c l fs)) = refl
  variants_at (Some (enum_declared c l vs)) = refl
  variants_at (Some (function_declared ps t)) = refl

  parameters_at : (d : Option Declared) → parameters_declared (option_map (declared_at r) d) ≡ map (shape_at r) (parameters_declared d)
  parameters_at None = refl
  parameters_at (Some rt_declared) = refl
  parameters_at (Some (struct_declared c l fs)) = refl
  parameters_at (Some (enum_declared c l vs)) = refl
  parameters_at (Some (function_declared ps t)) = refl

  result_at : (d : Option Declared) → result_declared (option_map (declared_at r) d) ≡ option_map (shape_at r) (result_declared d)
  result_at None = refl
  result_at (Some rt_declared) = refl
  result_at (Some (struct_declared c l fs)) = refl
  result_at (Some (enum_declared c l vs)) = refl
  result_at (Some (function_declared ps t)) = refl

  lifetimes_at : (d : Option Declared) → lifetimes_declared (option_map (declared_at r) d) ≡ lifetimes_declared d
  lifetimes_at None = refl
  lifetimes_at (Some rt_declared) = refl
  lifetimes_at (Some (struct_declared c l fs)) = refl
  lifetimes_at (Some (enum_declared c l vs)) = refl
  lifetimes_at (Some (function_declared ps t)) = refl

  copy_at : (d : Option Declared) → derives_copy (option_map (declared_at r) d) ≡ derives_copy d
  copy_at None = refl
  copy_at (Some rt_declared) = refl
  copy_at (Some (struct_declared c l fs)) = refl
  copy_at (Some (enum_declared c l vs)) = refl
  copy_at (Some (function_declared ps t)) = refl

  parts_in : (v : Option VariantDeclared) → parts_declared (option_map (variant_at r) v) ≡ map (shape_at r) (parts_declared v)
  parts_in None = refl
  parts_in (Some v) = refl

  typ_in : (fs : List FieldDeclared) (x : List ℕ) → field_typ (map (field_at r) fs) x ≡ option_map (shape_at r) (field_typ fs x)
  typ_in [] x = refl
  typ_in (f ∷ fs) x = go (bytes_eq f.name x) (typ_in fs x)
    where
      go : (b : Bool) → field_typ (map (field_at r) fs) x ≡ option_map (shape_at r) (field_typ fs x) → (if b then Some (shape_at r f.typ) else field_typ (map (field_at r) fs) x) ≡ option_map (shape_at r) (if b then Some f.typ else field_typ fs x)
      go true h = refl
      go false h = h

  names_in : (fs : List FieldDeclared) → names_of (map (field_at r) fs) ≡ names_of fs
  names_in [] = refl
  names_in (f ∷ fs) = ap (λ xs. f.name ∷ xs) (names_in fs)

  module _ (K K' : KnownItems) (k : Knows r K K') where
    -- ---- what types are made of

    fixed_at : (o : Option Typ) → fixed (λ k. k) (option_map (shape_at r) o) ≡ option_map (shape_at r) (fixed (λ k. k) o)
    fixed_at None = refl
    fixed_at (Some t) = ap Some (map_at (λ k. k) t)

    its_fields : (i : ℕ) → fields_declared (slice_get K'.items (r.items i)) ≡ map (field_at r) (fields_declared (slice_get K.items i))
    its_fields i = ap fields_declared (k.items i) ∙ fields_at (slice_get K.items i)

    its_field : (i : ℕ) (x : List ℕ) → fixed (λ k. k) (field_typ (fields_declared (slice_get K'.items (r.items i))) x) ≡ option_map (shape_at r) (fixed (λ k. k) (field_typ (fields_declared (slice_get K.items i)) x))
    its_field i x = ap (λ fs. fixed (λ k. k) (field_typ fs x)) (its_fields i) ∙ ap (fixed (λ k. k)) (typ_in (fields_declared (slice_get K.items i)) x) ∙ fixed_at (field_typ (fields_declared (slice_get K.items i)) x)

    field_in : (x : List ℕ) (t : Typ) → field_of (λ k. k) K'.items x (shape_at r t) ≡ option_map (shape_at r) (field_of (λ k. k) K.items x t)
    field_in x (named i) = its_field i x
    field_in x _ = refl

    part_at : (i : ℕ) (t : Typ) → part_of i (shape_at r t) ≡ option_map (shape_at r) (part_of i t)
    part_at i (tuple_of ts) = part_in ts i
    part_at i _ = refl

    pointee_at : (t : Typ) → pointee (shape_at r t) ≡ option_map (shape_at r) (pointee t)
    pointee_at (reference m t) = refl
    pointee_at _ = refl

    bound_in : (ms : List Bool) (t : Typ) → bound ms (shape_at r t) ≡ shape_at r (bound ms t)
    bound_in [] t = refl
    bound_in (m ∷ ms) t = refl

    coerced_at : (t u : Typ) → coerced (shape_at r t) (shape_at r u) ≡ shape_at r (coerced t u)
    coerced_at (reference true t) (reference false u) = refl
    coerced_at (reference true t) (reference true u) = refl
    coerced_at (reference true t) _ = refl
    coerced_at (reference false t) u = refl
    coerced_at _ u = refl

    one_at : (g h : Typ → Option Typ) → ((t : Typ) → h (shape_at r t) ≡ option_map (shape_at r) (g t)) → (ts : List Typ) → of_one h (map (shape_at r) ts) ≡ option_map (shape_at r) (of_one g ts)
    one_at g h n [] = refl
    one_at g h n (t ∷ []) = n t
    one_at g h n (t ∷ u ∷ ts) = refl

    two_at : (ts : List Typ) → of_two (λ t u. Some (coerced t u)) (map (shape_at r) ts) ≡ option_map (shape_at r) (of_two (λ t u. Some (coerced t u)) ts)
    two_at [] = refl
    two_at (t ∷ []) = refl
    two_at (t ∷ u ∷ []) = ap Some (coerced_at t u)
    two_at (t ∷ u ∷ v ∷ ts) = refl

    its_parts : (i v : ℕ) → variant_parts K'.items (r.items i) v ≡ map (shape_at r) (variant_parts K.items i v)
    its_parts i v = ap (λ d. parts_declared (slice_get (variants_declared d) v)) (k.items i) ∙ ap (λ vs. parts_declared (slice_get vs v)) (variants_at (slice_get K.items i))
        ∙ ap parts_declared (get_map (variant_at r) (variants_declared (slice_get K.items i)) v) ∙ parts_in (slice_get (variants_declared (slice_get K.items i)) v)

    its_parameters : (f : ℕ) → parameters_declared (slice_get K'.items (r.items f)) ≡ map (shape_at r) (parameters_declared (slice_get K.items f))
    its_parameters f = ap parameters_declared (k.items f) ∙ parameters_at (slice_get K.items f)

    got : (xs xs' : List Typ) (i : ℕ) → xs' ≡ map (shape_at r) xs → fixed (λ k. k) (slice_get xs' i) ≡ option_map (shape_at r) (fixed (λ k. k) (slice_get xs i))
    got xs xs' i e = ap (λ ys. fixed (λ k. k) (slice_get ys i)) e ∙ ap (fixed (λ k. k)) (get_map (shape_at r) xs i) ∙ fixed_at (slice_get xs i)

    made_at : (o : Op) (ts : List Typ) (ms : List Bool) → made (λ k. k) K'.items (op_at r o) (map (shape_at r) ts) ms ≡ option_map (shape_at r) (made (λ k. k) K.items o ts ms)
    made_at op.Same ts ms = one_at _ _ (λ t. refl) ts
    made_at op.Pointee ts ms = one_at _ _ pointee_at ts
    made_at (op.Referring m) ts ms = one_at _ _ (λ t. refl) ts
    made_at op.Tuple ts ms = ap (λ us. Some (tuple_of us)) (shapes_of_at ts)
    made_at (op.Field x) ts ms = one_at _ _ (λ t. ap (field_of (λ k. k) K'.items x) (peeled_at t) ∙ field_in x (peeled t)) ts
    made_at (op.Part i) ts ms = one_at _ _ (λ t. ap (part_of i) (peeled_at t) ∙ part_at i (peeled t)) ts
    made_at (op.Integer l) ts ms = refl
    made_at op.Truth ts ms = refl
    made_at op.Unit ts ms = refl
    made_at (op.Item i) ts ms = refl
    made_at (op.Parameter g i) ts ms = got _ _ i (its_parameters g)
    made_at (op.Result g) ts ms = ap (fixed (λ k. k)) (ap result_declared (k.items g) ∙ result_at (slice_get K.items g)) ∙ fixed_at (result_declared (slice_get K.items g))
    made_at (op.FieldOf i x) ts ms = its_field i x
    made_at (op.PartOf i v j) ts ms = got _ _ j (its_parts i v)
    made_at op.Bound ts ms = one_at _ _ (λ t. ap Some (bound_in ms t)) ts
    made_at op.Coerced ts ms = two_at ts

    -- ---- tests

    mutual
      copies_at : {L : Type 0} (t : Shape L) → copies K'.items (shape_at r t) ≡ copies K.items t
      copies_at (integer l) = refl
      copies_at boolean = refl
      copies_at (tuple_of ts) = all_at ts
      copies_at (reference m t) = refl
      copies_at (named i) = ap derives_copy (k.items i) ∙ copy_at (slice_get K.items i)

      all_at : {L : Type 0} (ts : Shapes L) → all_copy K'.items (shapes_at r ts) ≡ all_copy K.items ts
      all_at no_shape = refl
      all_at (shape_and t ts) = ap (λ b. b && all_copy K'.items (shapes_at r ts)) (copies_at t) ∙ ap (λ b. copies K.items t && b) (all_at ts)

    mutual
      levels_at : {L : Type 0} (t : Shape L) → levels (shape_at r t) ≡ levels t
      levels_at (integer l) = refl
      levels_at boolean = refl
      levels_at (tuple_of ts) = ap suc (most_at ts)
      levels_at (reference m t) = ap suc (levels_at t)
      levels_at (named i) = refl

      most_at : {L : Type 0} (ts : Shapes L) → most_levels (shapes_at r ts) ≡ most_levels ts
      most_at no_shape = refl
      most_at (shape_and t ts) = rw (levels_at t, most_at ts) refl

    mutual
      parts_of_at : {L : Type 0} (t : Shape L) → parts K'.sizes (shape_at r t) ≡ parts K.sizes t
      parts_of_at (integer l) = refl
      parts_of_at boolean = refl
      parts_of_at (tuple_of ts) = ap at_least_one (sum_at ts)
      parts_of_at (reference m t) = ap suc (parts_of_at t)
      parts_of_at (named i) = k.sizes i

      sum_at : {L : Type 0} (ts : Shapes L) → sum_of_parts K'.sizes (shapes_at r ts) ≡ sum_of_parts K.sizes ts
      sum_at no_shape = refl
      sum_at (shape_and t ts) = rw (parts_of_at t, sum_at ts) refl

    limits_at : (t : Outline) → keeps_limits K'.sizes (shape_at r t) ≡ keeps_limits K.sizes t
    limits_at t = rw (parts_of_at t, levels_at t) refl

    plain_at : (t : Outline) → is_plain (shape_at r t) ≡ is_plain t
    plain_at (integer l) = refl
    plain_at boolean = refl
    plain_at _ = refl

    integer_at : (t : Outline) → is_integer (shape_at r t) ≡ is_integer t
    integer_at (integer l) = refl
    integer_at _ = refl

    truth_at : (t : Outline) → is_truth (shape_at r t) ≡ is_truth t
    truth_at boolean = refl
    truth_at _ = refl

    tuple_at : (n : ℕ) (t : Outline) → is_tuple n (shape_at r t) ≡ is_tuple n t
    tuple_at n (tuple_of ts) = ap (λ m. nat_eq m n) (length_at ts)
    tuple_at n _ = refl

    same_item : (i j : ℕ) → nat_eq (r.items i) (r.items j) ≡ nat_eq i j
    same_item i j = go (nat_eq i j) refl (nat_eq (r.items i) (r.items j)) refl
      where
        go : (b : Bool) → nat_eq i j ≡ b → (c : Bool) → nat_eq (r.items i) (r.items j) ≡ c → c ≡ b
        go true e true f = refl
        go false e false f = refl
        go true e false f = let g : nat_eq (r.items i) (r.items j) ≡ true = eq-eqb _ _ (ap r.items (eqb-true i j e)) in sym f ∙ g
        go false e true f = let g : nat_eq i j ≡ true = eq-eqb i j (sym (k.unnamed i) ∙ ap k.unitem (eqb-true _ _ f) ∙ k.unnamed j) in sym g ∙ e

    item_at : (i : ℕ) (t : Outline) → is_item (r.items i) (shape_at r t) ≡ is_item i t
    item_at i (named j) = same_item i j
    item_at i _ = refl

    mutable_at : (t : Outline) → is_mutable_reference (shape_at r t) ≡ is_mutable_reference t
    mutable_at (reference m t) = refl
    mutable_at _ = refl

    lent_at : (t u : Outline) → is_lent (shape_at r t) (shape_at r u) ≡ is_lent t u
    lent_at (reference true t) (reference true u) = refl
    lent_at (reference true t) (reference false u) = refl
    lent_at (reference true t) _ = refl
    lent_at (reference false t) u = refl
    lent_at _ u = refl

    binding_at : (ms qs : List Bool) (t : Outline) → binding_kept K'.items (shape_at r t) ms qs ≡ binding_kept K.items t ms qs
    binding_at [] qs t = ap (λ b. b || is_none qs) (copies_at t)
    binding_at (m ∷ ms) qs t = refl

    unit_typ_at : (t : Typ) → is_unit_typ (shape_at r t) ≡ is_unit_typ t
    unit_typ_at (tuple_of no_shape) = refl
    unit_typ_at (tuple_of (shape_and t ts)) = refl
    unit_typ_at _ = refl

    unit_at : (o : Option Typ) → is_unit (option_map (shape_at r) o) ≡ is_unit o
    unit_at None = refl
    unit_at (Some t) = unit_typ_at t

    test_one_at : (f g : Outline → Bool) → ((t : Outline) → g (shape_at r t) ≡ f t) → (ts : List Outline) → test_one g (map (shape_at r) ts) ≡ test_one f ts
    test_one_at f g n [] = refl
    test_one_at f g n (t ∷ []) = n t
    test_one_at f g n (t ∷ u ∷ ts) = refl

    test_two_at : (f g : Outline → Outline → Bool) → ((t u : Outline) → g (shape_at r t) (shape_at r u) ≡ f t u) → (ts : List Outline) → test_two g (map (shape_at r) ts) ≡ test_two f ts
    test_two_at f g n [] = refl
    test_two_at f g n (t ∷ []) = refl
    test_two_at f g n (t ∷ u ∷ []) = n t u
    test_two_at f g n (t ∷ u ∷ v ∷ ts) = refl

    holds_at : (t : Test) (ts : List Outline) (ms qs : List Bool) → holds K' (test_at r t) (map (shape_at r) ts) ms qs ≡ holds K t ts ms qs
    holds_at test.Plain ts ms qs = test_one_at _ _ plain_at ts
    holds_at test.IntegerBehind ts ms qs = test_one_at _ _ (λ t. ap is_integer (peeled_at t) ∙ integer_at (peeled t)) ts
    holds_at test.TruthBehind ts ms qs = test_one_at _ _ (λ t. ap is_truth (peeled_at t) ∙ truth_at (peeled t)) ts
    holds_at (test.TupleBehind n) ts ms qs = test_one_at _ _ (λ t. ap (is_tuple n) (peeled_at t) ∙ tuple_at n (peeled t)) ts
    holds_at (test.ItemBehind i) ts ms qs = test_one_at _ _ (λ t. ap (is_item (r.items i)) (peeled_at t) ∙ item_at i (peeled t)) ts
    holds_at test.Kept ts ms qs = test_one_at _ _ (λ t. ap (λ b. b || is_none qs) (copies_at t)) ts
    holds_at test.KeptOrLent ts ms qs = test_one_at _ _ (λ t. rw (copies_at t, mutable_at t) refl) ts
    holds_at (test.Writable own) ts ms qs = refl
    holds_at test.Lendable ts ms qs = test_two_at _ _ (λ t u. rw (lent_at t u) refl) ts
    holds_at test.Direct ts ms qs = refl
    holds_at test.BindingKept ts ms qs = test_one_at _ _ (binding_at ms qs) ts
    holds_at test.BindingWritable ts ms qs = refl
    holds_at test.BindingKeptOrLent ts ms qs = test_two_at _ _ (λ t e. rw (mutable_at e, binding_at ms qs t) refl) ts
    holds_at test.BindingWritableOrLent ts ms qs = test_one_at _ _ (λ e. rw (mutable_at e) refl) ts
    holds_at test.Limits ts ms qs = test_one_at _ _ limits_at ts
    holds_at (test.Takes f n) ts ms qs = ap (λ ps. nat_eq (length ps) n) (its_parameters f) ∙ ap (λ m. nat_eq m n) (length_map (shape_at r) (parameters_declared (slice_get K.items f)))
    holds_at (test.Holds i v n) ts ms qs = ap (λ ps. nat_eq (length ps) n) (its_parts i v) ∙ ap (λ m. nat_eq m n) (length_map (shape_at r) (variant_parts K.items i v))
    holds_at (test.HasFields i xs) ts ms qs = ap (λ fs. exactly (names_of fs) xs) (its_fields i) ∙ ap (λ ns. exactly ns xs) (names_in (fields_declared (slice_get K.items i)))
    holds_at (test.HasLifetimes i n) ts ms qs = ap (λ d. nat_eq (lifetimes_declared d) n) (k.items i) ∙ ap (λ m. nat_eq m n) (lifetimes_at (slice_get K.items i))
    holds_at (test.GivesUnit f) ts ms qs = ap is_unit (ap result_declared (k.items f) ∙ result_at (slice_get K.items f)) ∙ unit_at (result_declared (slice_get K.items f))

    -- ---- the renaming can be undone on types

    abbrev pub undo : Renumbering
    undo = record { nodes = λ n. n; variables = λ x. x; items = k.unitem }

    mutual
      pub undone : {L : Type 0} (t : Shape L) → shape_at undo (shape_at r t) ≡ t
      undone (integer l) = refl
      undone boolean = refl
      undone (tuple_of ts) = ap tuple_of (all_undone ts)
      undone (reference m t) = ap (reference m) (undone t)
      undone (named i) = ap named (k.unnamed i)

      all_undone : {L : Type 0} (ts : Shapes L) → shapes_at undo (shapes_at r ts) ≡ ts
      all_undone no_shape = refl
      all_undone (shape_and t ts) = ap (λ u. shape_and u (shapes_at undo (shapes_at r ts))) (undone t) ∙ ap (shape_and t) (all_undone ts)

    pub shape_apart : {L : Type 0} (t u : Shape L) → shape_at r t ≡ shape_at r u → t ≡ u
    shape_apart t u e = sym (undone t) ∙ ap (shape_at undo) e ∙ undone u

    -- ---- facts

    -- the subjects whose types are renamed, among them all nodes
    module _ (A A' : Assignment) (P : Knowing) (node : (n : ℕ) → IsTrue (P (subject.Node n))) (along : (x : Subject) → IsTrue (P x) → A' (subject_at r x) ≡ shape_at r (A x)) where
      passed_at : (ps : List Passing) → passed A' (map (passing_at r) ps) ≡ passed A ps
      passed_at [] = refl
      passed_at (p ∷ ps) = ap (λ ms. ms ++ passed A' (map (passing_at r) ps)) (ap (gone_through p.all) (along (subject.Node p.node) (node p.node)) ∙ gone_at p.all (A (subject.Node p.node)))
          ∙ ap (λ ms. gone_through p.all (A (subject.Node p.node)) ++ ms) (passed_at ps)

      types_in : (xs : List Subject) → IsTrue (all_known P xs) → types_at A' (map (subject_at r) xs) ≡ map (shape_at r) (types_at A xs)
      types_in [] h = refl
      types_in (x ∷ xs) h = let p = (and_both (P x) (all_known P xs)).0 h in ap (λ t. t ∷ types_at A' (map (subject_at r) xs)) (along x p.0) ∙ ap (λ ts. shape_at r (A x) ∷ ts) (types_in xs p.1)

      outlines_in : (xs : List Subject) → IsTrue (all_known P xs) → outlines_at A' (map (subject_at r) xs) ≡ map (shape_at r) (outlines_at A xs)
      outlines_in [] h = refl
      outlines_in (x ∷ xs) h = let p = (and_both (P x) (all_known P xs)).0 h in ap (λ t. t ∷ outlines_at A' (map (subject_at r) xs)) (ap outline (along x p.0) ∙ outline_at (A x)) ∙ ap (λ ts. shape_at r (outline (A x)) ∷ ts) (outlines_in xs p.1)

      made_in : (o : Op) (xs : List Subject) (ps : List Passing) → IsTrue (all_known P xs) → made (λ k. k) K'.items (op_at r o) (types_at A' (map (subject_at r) xs)) (passed A' (map (passing_at r) ps))
          ≡ option_map (shape_at r) (made (λ k. k) K.items o (types_at A xs) (passed A ps))
      made_in o xs ps h = ap (λ ts. made (λ k. k) K'.items (op_at r o) ts (passed A' (map (passing_at r) ps))) (types_in xs h)
          ∙ ap (made (λ k. k) K'.items (op_at r o) (map (shape_at r) (types_at A xs))) (passed_at ps) ∙ made_at o (types_at A xs) (passed A ps)

      holds_in : (t : Test) (xs : List Subject) (ps qs : List Passing) → IsTrue (all_known P xs) → holds K' (test_at r t) (outlines_at A' (map (subject_at r) xs)) (passed A' (map (passing_at r) ps)) (passed A' (map (passing_at r) qs))
          ≡ holds K t (outlines_at A xs) (passed A ps) (passed A qs)
      holds_in t xs ps qs h = ap (λ ts. holds K' (test_at r t) ts (passed A' (map (passing_at r) ps)) (passed A' (map (passing_at r) qs))) (outlines_in xs h)
          ∙ ap (λ ms. holds K' (test_at r t) (map (shape_at r) (outlines_at A xs)) ms (passed A' (map (passing_at r) qs))) (passed_at ps)
          ∙ ap (holds K' (test_at r t) (map (shape_at r) (outlines_at A xs)) (passed A ps)) (passed_at qs) ∙ holds_at t (outlines_at A xs) (passed A ps) (passed A qs)

      some_same : (t u : Typ) → ◌≡◌ {A = Option Typ} (Some t) (Some u) → t ≡ u
      some_same t u e = cc

      unmade : (o : Option Typ) (t : Typ) → option_map (shape_at r) o ≡ Some (shape_at r t) → o ≡ Some t
      unmade None t e = absurd (cc)
      unmade (Some u) t e = ap Some (shape_apart u t (some_same _ _ e))

      its_kind : (t : Typ) (l : Kind) → shape_at r t ≡ integer l → t ≡ integer l
      its_kind t l e = shape_apart t (integer l) e

      pub meets_there : (f : Fact) → IsTrue (plain_fact P f) → Meets K A f → Meets K' A' (fact_at r f)
      meets_there (fact.Equals x o xs ps) q h = let p = (and_both (P x) (all_known P xs)).0 q in made_in o xs ps p.1 ∙ ap (option_map (shape_at r)) h ∙ ap Some (sym (along x p.0))
      meets_there (fact.Integer n s) q h = (h.0, along (subject.Node n) (node n) ∙ ap (shape_at r) h.1, h.2)
      meets_there (fact.IntegerBehind n s) q h = (h.0, ap peeled (along (subject.Node n) (node n)) ∙ peeled_at (A (subject.Node n)) ∙ ap (shape_at r) h.1, h.2)
      meets_there (fact.Passes t xs ps qs) q h = subst IsTrue (sym (holds_in t xs ps qs q)) h
      meets_there fact.Never q h = h

      pub meets_back : (f : Fact) → IsTrue (plain_fact P f) → Meets K' A' (fact_at r f) → Meets K A f
      meets_back (fact.Equals x o xs ps) q h = let p = (and_both (P x) (all_known P xs)).0 q in unmade _ (A x) (sym (made_in o xs ps p.1) ∙ h ∙ ap Some (along x p.0))
      meets_back (fact.Integer n s) q h = (h.0, its_kind _ h.0 (sym (along (subject.Node n) (node n)) ∙ h.1), h.2)
      meets_back (fact.IntegerBehind n s) q h = (h.0, its_kind _ h.0 (sym (ap peeled (along (subject.Node n) (node n)) ∙ peeled_at (A (subject.Node n))) ∙ h.1), h.2)
      meets_back (fact.Passes t xs ps qs) q h = subst IsTrue (holds_in t xs ps qs q) h
      meets_back fact.Never q h = h

    all_anything : (xs : List Subject) → IsTrue (all_known anything xs)
    all_anything [] = refl
    all_anything (x ∷ xs) = all_anything xs

    is_plain_fact : (f : Fact) → IsTrue (plain_fact anything f)
    is_plain_fact (fact.Equals x o xs ps) = all_anything xs
    is_plain_fact (fact.Integer n s) = refl
    is_plain_fact (fact.IntegerBehind n s) = refl
    is_plain_fact (fact.Passes t xs ps qs) = all_anything xs
    is_plain_fact fact.Never = refl

    module _ (A A' : Assignment) (along : Along r A A') where
      pub all_there : {fs fs' : List Fact} → FactsLike r fs fs' → MeetsAll K A fs → MeetsAll K' A' fs'
      all_there like_no_fact h = tt
      all_there (like_more_facts (like_fact {f = f}) l) h = (meets_there A A' anything (λ n. refl) (λ x _. along x) f (is_plain_fact f) h.0, all_there l h.1)

      pub all_back : {fs fs' : List Fact} → FactsLike r fs fs' → MeetsAll K' A' fs' → MeetsAll K A fs
      all_back like_no_fact h = tt
      all_back (like_more_facts (like_fact {f = f}) l) h = (meets_back A A' anything (λ n. refl) (λ x _. along x) f (is_plain_fact f) h.0, all_back l h.1)

      pub each_there : {ds ds' : List Demand} → DemandsLike r NoSpecial ds ds' → MeetsEach K A ds → MeetsEach K' A' ds'
      each_there like_no_demand h = tt
      each_there (like_other_demands es es' l z) h = absurd z
      each_there (like_more_demands {ds = ds} {ds' = ds'} {d = d} {d' = d'} l e) h = let p = first K A ds (d ∷ []) h in last K' A' ds' d' (each_there l p.0) (all_there e.facts p.1.0)

      pub each_back : {ds ds' : List Demand} → DemandsLike r NoSpecial ds ds' → MeetsEach K' A' ds' → MeetsEach K A ds
      each_back like_no_demand h = tt
      each_back (like_other_demands es es' l z) h = absurd z
      each_back (like_more_demands {ds = ds} {ds' = ds'} {d = d} {d' = d'} l e) h = let p = first K' A' ds' (d' ∷ []) h in last K A ds d (each_back l p.0) (all_back e.facts p.1.0)
